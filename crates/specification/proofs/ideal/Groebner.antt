-- The Gröbner property of a basis as declared (docs/SCOPE.md, 'The sheet'; Farr and Gao, section 2): the leads divide exactly the leading monomials, and
-- the polynomials that vanish are those whose remainder is 0.
use mathlib.Core.Path.{◌≡◌, refl, subst}
use mathlib.Core.List.{List, [], ◌∷◌}
use mathlib.Core.Logic.{inl, inr, ◌↔◌}
use mathlib.Core.WellFounded.Acc
use Prim.Native.Nat.{ℕ, suc}
use native.Mathlib.Omega.{arith}
use lib.ListN.{length, replicate, length-replicate}
use Rattle.residue.specs.Congruence.{Mod}
use Rattle.residue.specs.Lists.{Among}
use Rattle.residue.proofs.Congruence.{rfl, of, flip, ◌then◌, ◌plus◌, zero_left}
use Rattle.specification.specs.Space.{Space, Less, Divides}
use Rattle.specification.specs.Polynomial.{Polynomial, eval, Vanishes, Leading, Standard, Distinct, terms}
use Rattle.specification.specs.Basis.{IsBasis, Fits}
use Rattle.specification.specs.BasisOf.{remainder_of}
use Rattle.specification.proofs.ideal.Laws.{Laws}
use Rattle.residue.proofs.Tests.{dec_of}
use Rattle.specification.proofs.ideal.Increasing.{divided_told}
use Rattle.specification.proofs.ideal.Multiples.{divides_self, leading_multiple}
use Rattle.specification.proofs.ideal.Unique.{fits_unique}
use Rattle.specification.proofs.ideal.Basis.{basis_is, remainder_fits}

among_zeros : (k c : ℕ) → Among c (replicate k 0) → c ≡ 0
among_zeros (suc k) c (inl e) = e
among_zeros (suc k) c (inr mem) = among_zeros k c mem
among_zeros Prim.Native.Nat.zero c x' = elim x' [ ]

module _ (D : Space) (L : Laws D) (S : List D.Pt) (standard leads : List D.Mono) (rows : List (List ℕ)) (b : IsBasis D S standard leads rows) where
  open D use {q, Mono, Pt, val}
  open L use {wf, dvd_trans, dvd_less}

  infix 35 ◌≈◌
  abbrev ◌≈◌ : ℕ → ℕ → Type 0
  a ≈ c = Mod (suc q) a c

  -- some lead divides a
  abbrev Divided : Mono → Type 0
  Divided a = (c : Mono) × Among c leads × Divides D c a

  undivided_standard : (a : Mono) → ¬ Divided a → Standard D S a
  undivided_standard a = Acc.ndrec {C = λ c. ¬ Divided c → Standard D S c} (λ c _ rec. go c rec) (wf a)
    where
      go : (a : Mono) → ((c : Mono) → Less D c a → ¬ Divided c → Standard D S c) → ¬ Divided a → Standard D S a
      go a rec none l = none (a, (b.leads_members a).1 (l, λ c d e. rec c (dvd_less d e) (λ t. none (t.0, t.1, dvd_trans t.2 d))), divides_self D L a)

  -- Every leading monomial is a multiple of a lead.
  pub lead_divides : (a : Mono) → Leading D S a → (c : Mono) × Among c leads × Divides D c a
  lead_divides a l = go (dec_of (divided_told D L leads a))
    where
      go : Dec (Divided a) → Divided a
      go (yes h) = h
      go (no h) = absurd (undivided_standard a h l)

  -- A monomial is standard exactly where no lead divides it: Farr and Gao's B(G).
  pub standard_undivided : (a : Mono) → Standard D S a ↔ ((c : Mono) → Among c leads → ¬ Divides D c a)
  standard_undivided a = ((λ s c mem d. s (leading_multiple D L S c a ((b.leads_members c).0 mem).0 d)), λ h. undivided_standard a (λ t. h t.0 t.1 t.2))

  -- A polynomial vanishes at the points exactly where its remainder is 0.
  pub remainder_zero : (f : Polynomial D) (cs : List ℕ) → Fits D S standard (eval D f) cs → Vanishes D f S ↔ ((c : ℕ) → Among c cs → c ≡ 0)
  remainder_zero f cs h = (vanishing, λ z P mem. flip (h.values P mem) then nothing cs standard z P)
    where
      -- a combination whose coefficients are all 0
      nothing : (ds : List ℕ) (l : List Mono) → ((c : ℕ) → Among c ds → c ≡ 0) → (P : Pt) → eval D (terms D ds l) P ≈ 0
      nothing [] l z P = rfl
      nothing (d ∷ ds) [] z P = rfl
      nothing (d ∷ ds) (a ∷ l) z P = let e : d ≡ 0 = z d (inl refl) in zero_left (of e) (val a P) plus nothing ds l (λ c mem. z c (inr mem)) P

      vanishing : Vanishes D f S → (c : ℕ) → Among c cs → c ≡ 0
      vanishing v c mem = among_zeros (length standard) c (subst (λ (z : List ℕ). Among c z) same mem)
        where
          zeros : Fits D S standard (eval D f) (replicate (length standard) 0)
          zeros = record {
            long = length-replicate (length standard) 0;
            residues = λ d z. let e = among_zeros (length standard) d z in omega arith;
            values = λ P z. nothing (replicate (length standard) 0) standard (among_zeros (length standard)) P then flip (v P z);
          }

          same : cs ≡ replicate (length standard) 0
          same = fits_unique D L S standard b.standard_increasing (λ a z. (b.standard_members a).0 z) (eval D f) cs (replicate (length standard) 0) h zeros

-- and so is the computed remainder
pub remainder_vanishes : (D : Space) → Laws D → (S : List D.Pt) → Distinct D S → (f : Polynomial D) → Vanishes D f S ↔ ((c : ℕ) → Among c (remainder_of D S f) → c ≡ 0)
remainder_vanishes D L S d f = remainder_zero D L S _ _ _ (basis_is D L S d) f (remainder_of D S f) (remainder_fits D L S d f)
