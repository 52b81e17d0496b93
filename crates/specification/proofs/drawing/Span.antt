-- A standard monomial's values are no combination of those of other standard monomials, and any other monomial's are one of the smaller ones'.
use mathlib.Core.Path.{refl, sym, subst}
use mathlib.Core.List.{List, map}
use Prim.Native.Nat.{ℕ, suc, ◌+◌, ◌*◌, Ordering}
use native.Mathlib.Omega.{arith}
use Rattle.residue.specs.Congruence.{Mod}
use Rattle.residue.specs.Lists.{Among}
use Rattle.residue.proofs.Congruence.{of, flip, ◌then◌, ◌plus◌, scale, lin}
use Rattle.monomial.specs.Increasing.{Increasing}
use Rattle.specification.specs.Space.{Space, Less}
use Rattle.specification.specs.Polynomial.{hit, coefficient, Distinct, terms}
use Rattle.specification.specs.BasisOf.{standard_of}
use Rattle.specification.proofs.ideal.Laws.{Laws, Compares, lt, eq, gt, compared, hit_same}
use Rattle.specification.proofs.ideal.Polynomials.{comb, pair_terms, terms_over, comb_hit, comb_miss, collect}
use Rattle.specification.proofs.ideal.Newton.{at, at_lin, at_cong}
use Rattle.specification.proofs.ideal.Staircase.{hit_at, member?}
use Rattle.specification.proofs.ideal.Basis.{coefficients_of, staircase}

module _ (D : Space) where
  open D use {q, Mono, Pt}

  -- the values φ are those of a combination of l at the points of S
  abbrev pub Spanned : List Pt → List Mono → (Pt → ℕ) → Type 0
  Spanned S l φ = (c : Mono → ℕ) × ((P : Pt) → Among P S → Mod (suc q) (at D c l P) (φ P))

module _ (D : Space) (L : Laws D) (S : List D.Pt) (d : Distinct D S) where
  open D use {q, Mono, Pt, val, cmp}
  open L use {one_not_zero}

  infix 35 ◌≈◌
  abbrev ◌≈◌ : ℕ → ℕ → Type 0
  a ≈ b = Mod (suc q) a b

  -- coefficients on a part of an increasing list, as coefficients on all of it
  record Part (l r : List Mono) (c : Mono → ℕ) : Type 0 where
    all : Mono → ℕ
    agree : (φ : Mono → ℕ) → comb D all r φ ≈ comb D c l φ
    on : (a : Mono) → Among a l → all a ≈ c a
    off : (a : Mono) → ¬ Among a l → all a ≈ 0

  part : (l r : List Mono) → Increasing cmp l → Increasing cmp r → ((a : Mono) → Among a l → Among a r) → (c : Mono → ℕ) → Part l r c
  part l r i j h c = record {
    all = coefficient D (terms D (map c l) l);
    agree = λ φ. collect D L r j (terms D (map c l) l) (terms_over D (map c l) l r h) φ then of (pair_terms D c l φ);
    on = λ a mem. of (pair_terms D c l (hit D a)) then comb_hit D L c l a i mem;
    off = λ a out. of (pair_terms D c l (hit D a)) then comb_miss D L c l a (λ b mem e. out (subst (λ (z : Mono). Among z l) (sym e) mem));
  }

  pub not_spanned : (l : List Mono) → Increasing cmp l → ((a : Mono) → Among a l → Among a (standard_of D S)) → (a : Mono) → Among a (standard_of D S) → ¬ Among a l
      → ¬ Spanned D S l (val a)
  not_spanned l i h a mem out (c, v) =
      one_not_zero (lin (e.off a out plus flip ((staircase D L S d).base.indep (λ b. e.all b + q * hit D a b) zero a mem)) 0 1 (rw (hit_same D L {a = a} {b = a} refl) (omega arith)))
    where
      e : Part l (standard_of D S) c
      e = part l (standard_of D S) i (staircase D L S d).increasing h c

      zero : (P : Pt) → Among P S → at D (λ b. e.all b + q * hit D a b) (standard_of D S) P ≈ 0
      zero P k = at_lin D e.all (hit D a) q (standard_of D S) P
          then lin (e.agree (λ b. val b P) plus v P k plus scale q (hit_at D L S (standard_of D S) (coefficients_of D S) (staircase D L S d).base (staircase D L S d).increasing a mem P)) 0 (val a P) (omega arith)

  pub spanned : (l : List Mono) → Increasing cmp l → ((t : Mono) → Among t l → Among t (standard_of D S)) → (a : Mono) → ¬ Among a (standard_of D S)
      → ((t : Mono) → Among t (standard_of D S) → Less D t a → Among t l) → Spanned D S l (val a)
  spanned l i back a out h = (N, λ P k. flip (sub P) then (staircase D L S d).base.interp (val a) P k)
    where
      N : Mono → ℕ
      N = coefficients_of D S (val a)

      -- what is not in l has the coefficient zero
      miss : {o : Ordering} (t : Mono) → Among t (standard_of D S) → ¬ Among t l → Compares D t a o → N t ≈ 0
      miss t mem z (lt u) = absurd (z (h t mem u))
      miss t mem z (eq u) = absurd (out (subst (λ (w : Mono). Among w (standard_of D S)) u mem))
      miss t mem z (gt u) = (staircase D L S d).below a t mem u

      e : Part l (standard_of D S) N
      e = part l (standard_of D S) i (staircase D L S d).increasing back N

      pick : (t : Mono) → Among t (standard_of D S) → Dec (Among t l) → N t ≈ e.all t
      pick t mem (yes z) = flip (e.on t z)
      pick t mem (no z) = miss t mem z (compared D L t a) then flip (e.off t z)

      sub : (P : Pt) → at D N (standard_of D S) P ≈ at D N l P
      sub P = at_cong D N e.all (standard_of D S) P (λ t mem. pick t mem (member? D L t l)) then e.agree (λ b. val b P)
