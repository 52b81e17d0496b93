-- The computed basis of distinct points is a staircase over them, and its interpolants are as long as the standard monomials and of residues.
use mathlib.Core.Path.{◌≡◌, refl, sym, ◌∙◌}
use mathlib.Core.List.{List, [], ◌∷◌}
use mathlib.Core.Logic.{inl, inr, ◌≢◌}
use mathlib.Core.Bool.{Bool, cond}
use Prim.Native.Nat.{ℕ, suc, ◌+◌, ◌*◌, ◌%◌, ◌<◌, suc-le-suc, zero-le}
use native.Mathlib.Omega.{arith}
use native.Mathlib.Nat.{mod-lt}
use lib.ListN.{length}
use Rattle.residue.specs.Congruence.{Mod}
use Rattle.residue.specs.Lists.{Among}
use Rattle.residue.proofs.Congruence.{rfl, of, flip, ◌then◌, ◌plus◌, ◌times◌, scale, lin, reduce}
use Rattle.residue.proofs.Sums.{each, sum_zero}
use Rattle.residue.proofs.Tests.{Decides, so, not_so}
use Rattle.monomial.specs.Increasing.{Increasing}
use Rattle.monomial.proofs.Orders.Increasing.{below_member}
use Rattle.specification.specs.Space.{Space}
use Rattle.specification.specs.Polynomial.{hit, eval, coefficient, Distinct, terms}
use Rattle.specification.specs.Extension.{Basis, minus, gap, first, newton, grow}
use Rattle.specification.specs.BasisOf.{basis_of}
use Rattle.specification.proofs.ideal.Laws.{Laws, zero_told, irrefl, hit_same, hit_other, trans}
use Rattle.specification.proofs.ideal.Polynomials.{terms_over, collect}
use Rattle.specification.proofs.ideal.Newton.{at, error, Corrects}
use Rattle.specification.proofs.ideal.Staircase.{Staircase}
use Rattle.specification.proofs.ideal.Columns.{slot_length, slot_value, slot_members, minus_length, minus_small, minus_value}
use Rattle.specification.proofs.ideal.Extend.{First, some_error, first_new, extend}

module _ (D : Space) where
  open D use {q, Mono, Pt, one, val, cmp, inv}

  infix 35 ◌≈◌
  abbrev ◌≈◌ : ℕ → ℕ → Type 0
  a ≈ b = Mod (suc q) a b

  -- the interpolant of φ as a function of the monomial
  abbrev pub interpolation : Basis D → (Pt → ℕ) → Mono → ℕ
  interpolation b φ = coefficient D (terms D (b.interpolant φ) b.standard)

  -- the value of φ at P less its interpolant's
  abbrev pub gap_of : Basis D → Pt → (Pt → ℕ) → ℕ
  gap_of b P φ = gap D b.standard P (φ P) (b.interpolant φ)

  pub record Sound (S : List Pt) (b : Basis D) : Type 0 where
    pub staircase : Staircase D S b.standard b.leads (interpolation b)
    pub long : (φ : Pt → ℕ) → length (b.interpolant φ) ≡ length b.standard
    pub residues : (φ : Pt → ℕ) (c : ℕ) → Among c (b.interpolant φ) → c < suc q

  module _ (L : Laws D) where
    open L use {inv_law, dvd_one, one_dvd}

    -- the value of a combination, by its coefficients as a function
    pub eval_at : (l : List Mono) → Increasing cmp l → (cs : List ℕ) (Q : Pt) → eval D (terms D cs l) Q ≈ at D (coefficient D (terms D cs l)) l Q
    eval_at l i cs Q = flip (collect D L l i (terms D cs l) (terms_over D cs l l (λ a mem. mem)) (λ a. val a Q))

    -- a monomial outside l has no coefficient
    pub coefficient_off : (l : List Mono) (cs : List ℕ) (a : Mono) → ((b : Mono) → Among b l → a ≢ b) → coefficient D (terms D cs l) a ≈ 0
    coefficient_off l cs a out = sum_zero (terms D cs l) (λ t mem. rw (hit_other D L (out t.1 (terms_over D cs l l (λ b z. z) t mem))) (of (omega arith)))

    module _ (b : Basis D) (i : Increasing cmp b.standard) (P : Pt) where
      pub gap_error : (φ : Pt → ℕ) → gap_of b P φ ≈ error D b.standard (interpolation b) P φ
      unfolding gap
      gap_error φ = rfl {x = φ P} plus scale q (eval_at b.standard i (b.interpolant φ) P)

      first_is : (h : List Mono) → Increasing cmp h → ¬ ((a : Mono) → Among a h → error D b.standard (interpolation b) P (val a) ≈ 0)
          → First D b.standard h (interpolation b) P (first D b P h)
      unfolding first
      first_is [] j ne = absurd (ne (λ a mem. absurd mem))
      first_is (a ∷ h) j ne = go (zero_told q (gap_of b P (val a))) (first_is h j.1)
        where
          go : {t : Bool} → Decides (gap_of b P (val a) ≈ 0) t
              → (¬ ((a : Mono) → Among a h → error D b.standard (interpolation b) P (val a) ≈ 0) → First D b.standard h (interpolation b) P (first D b P h))
              → First D b.standard (a ∷ h) (interpolation b) P (cond t (first D b P h) a)
          go (so e) f = let z = flip (gap_error (val a)) then e in let r = f (λ all. ne (each h z all)) in
              record { lead = inr r.lead; not_zero = r.not_zero; zero_below = each h (λ _. z) r.zero_below }
          go (not_so e) f = record {
            lead = inl refl;
            not_zero = λ z. e (gap_error (val a) then z);
            zero_below = each h (λ z. absurd (irrefl D L z)) (λ c mem z. absurd (irrefl D L (trans D L z (below_member cmp a h j.0 c mem))));
          }

    module _ (S : List Pt) (b : Basis D) (s : Sound S b) (P : Pt) (far : (Q : Pt) → Among Q S → P ≢ Q) where
      -- the lead that becomes standard
      pub turned : First D b.standard b.leads (interpolation b) P (first D b P b.leads)
      turned = first_is b s.staircase.increasing P b.leads s.staircase.leads_increasing (some_error D L S b.standard b.leads (interpolation b) s.staircase P far)

      α : Mono
      α = first D b P b.leads

      -- the multiple of α less its remainder that Newton's step adds
      δ : (Pt → ℕ) → ℕ
      δ φ = (gap_of b P φ * inv (gap_of b P (val α))) % suc q

      α-new : (a : Mono) → Among a b.standard → α ≢ a
      unfolding α
      α-new = first_new D L S b.standard b.leads (interpolation b) s.staircase P (first D b P b.leads) turned

      step_at : (φ : Pt → ℕ) (a : Mono) → interpolation (grow D P b) φ a ≈ δ φ * hit D a α + (interpolation b φ a + q * (δ φ * interpolation b (val α) a))
      unfolding grow newton α δ
      step_at φ a = of (slot_value D L α (δ φ) b.standard (minus D (b.interpolant φ) (δ φ) (b.interpolant (val α))) (hit D a)
          (minus_length D (b.interpolant φ) (δ φ) (b.interpolant (val α)) (s.long φ ∙ sym (s.long (val α))) ∙ s.long φ) α-new)
          then rfl {x = δ φ * hit D a α} plus minus_value D (b.interpolant φ) (δ φ) (b.interpolant (val α)) b.standard (hit D a) (s.long φ ∙ sym (s.long (val α))) (s.long φ)

      corrects : Corrects D b.standard (interpolation b) P α δ (interpolation (grow D P b))
      unfolding δ α
      corrects = record {
        right = λ φ. ratio (inv (gap_of b P (val α))) (reduce (suc q) _) (error_at φ) (error_at (val α)) (inv_law (gap_of b P (val α)) (λ z. turned.not_zero (flip (error_at (val α)) then z)));
        new = λ φ. step_at φ α then rw (hit_same D L {a = α} {b = α} refl) (lin (off φ plus scale (q * δ φ) (off (val α))) 0 0 (omega arith));
        old = λ φ a mem. step_at φ a then rw (hit_other D L {a = a} {b = α} (λ e. α-new a mem (sym e))) (of (omega arith));
      }
        where
          error_at : (φ : Pt → ℕ) → gap_of b P φ ≈ error D b.standard (interpolation b) P φ
          error_at = gap_error b s.staircase.increasing P

          ratio : {d g h e f : ℕ} (i : ℕ) → d ≈ g * i → g ≈ e → h ≈ f → h * i ≈ 1 → d * f ≈ e
          ratio {g = g} {h = h} i u v w z = u times flip w then lin (scale g z) 0 0 (omega arith) then v

          off : (φ : Pt → ℕ) → interpolation b φ α ≈ 0
          off φ = coefficient_off b.standard (b.interpolant φ) α α-new

      pub grow_sound : Sound (P ∷ S) (grow D P b)
      unfolding grow newton α δ
      grow_sound = record {
        staircase = extend D L S b.standard b.leads (interpolation b) s.staircase P α turned corrects;
        long = λ φ. slot_length D L α (δ φ) b.standard (minus D (b.interpolant φ) (δ φ) (b.interpolant (val α)))
            (minus_length D (b.interpolant φ) (δ φ) (b.interpolant (val α)) (s.long φ ∙ sym (s.long (val α))) ∙ s.long φ);
        residues = λ φ c mem. elim (slot_members D L α (δ φ) b.standard (minus D (b.interpolant φ) (δ φ) (b.interpolant (val α))) c mem)
            [ inl e ↦ rw e (mod-lt _ (suc-le-suc zero-le)) | inr z ↦ minus_small D (b.interpolant φ) (δ φ) (b.interpolant (val α)) c z ];
      }

    none_sound : Sound [] (basis_of D [])
    unfolding basis_of
    none_sound = record {
      staircase = record {
        base = record { interp = λ φ P mem. absurd mem; indep = λ c h a mem. absurd mem };
        increasing = tt;
        below = λ a b mem. absurd mem;
        down = λ a b d mem. mem;
        leads_increasing = (tt, tt);
        outside = λ a mem z. z;
        minimal = λ a mem b d e. elim mem [ inl u ↦ absurd (e (dvd_one (rw u at d) ∙ sym u)) | inr u ↦ absurd u ];
        cover = λ a mem. (one, inl refl, one_dvd);
      };
      long = λ φ. refl;
      residues = λ φ c mem. absurd mem;
    }

    pub sound : (S : List Pt) → Distinct D S → Sound S (basis_of D S)
    unfolding basis_of
    sound [] d = none_sound
    sound (P ∷ S) d = grow_sound S (basis_of D S) (sound S d.1) P d.0
