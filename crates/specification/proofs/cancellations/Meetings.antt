-- A column that meets pivots: as a function it loses multiples of the pivots' functions. Whether a cancellation is counted makes no difference to it.
use mathlib.Core.Path.{◌≡◌, ◌∙◌}
use mathlib.Core.Bool.{Bool, true, false, cond}
use mathlib.Core.List.{List, [], ◌∷◌, ◌++◌}
use Prim.Native.Nat.{ℕ, suc, ◌+◌, ◌*◌, ◌%◌, ◌≤◌}
use native.Mathlib.Omega.{arith}
use lib.ListN.{length, get_or}
use lib.Dec.{eqb}
use Rattle.residue.specs.Congruence.{Mod}
use Rattle.residue.proofs.Congruence.{rfl, flip, reduce, scale, zero_left, zero_right, lin, ◌plus◌, ◌times◌}
use Rattle.specification.proofs.ideal.Laws.{zero_told}
use Rattle.residue.proofs.Tests.{Decides, so, not_so}
use Rattle.specification.specs.Cancellations.{Pivot, Meeting, meeting, less_times, meets, meets_all}
use Rattle.specification.proofs.cancellations.Shown.{shown, shown_cong, shown_less, Reads}

-- A pivot as a point and a function on the points.
pub record Sense (A : Type 0) : Type 0 where
  pub point : A
  pub value : A → ℕ

module _ (q : ℕ) {A : Type 0} where
  -- a function less its multiple of the pivot's
  abbrev pub lost : Sense A → (A → ℕ) → A → ℕ
  lost σ φ P = φ P + q * (φ σ.point * σ.value P)

  -- what is left when it has met them all
  abbrev pub left : List (Sense A) → (A → ℕ) → A → ℕ
  left [] φ = φ
  left (σ ∷ r) φ = left r (lost σ φ)

  module _ (S : List A) where
    pub record Means (v : Pivot) (σ : Sense A) : Type 0 where
      pub place : Reads q S v.place σ.point
      pub shows : v.column ≡ shown q σ.value S

    abbrev pub MeansAll : List Pivot → List (Sense A) → Type 0
    MeansAll [] [] = Unit {0}
    MeansAll [] (σ ∷ r) = ⊥
    MeansAll (v ∷ l) [] = ⊥
    MeansAll (v ∷ l) (σ ∷ r) = Means v σ × MeansAll l r

    pub means_snoc : (l : List Pivot) (r : List (Sense A)) (v : Pivot) (σ : Sense A) → MeansAll l r → Means v σ → MeansAll (l ++ (v ∷ [])) (r ++ (σ ∷ []))
    means_snoc [] [] v σ h k = (k, tt)
    means_snoc [] (τ ∷ r) v σ h k = absurd h
    means_snoc (u ∷ l) [] v σ h k = absurd h
    means_snoc (u ∷ l) (τ ∷ r) v σ h k = (h.0, means_snoc l r v σ h.1 k)

    pub meets_shown : (v : Pivot) (σ : Sense A) → Means v σ → (s : Meeting) (φ : A → ℕ) → s.column ≡ shown q φ S → (meets q v s).column ≡ shown q (lost σ φ) S
    unfolding meets
    meets_shown v σ h s φ e = rw (e, h.place.reads φ, h.shows) (go (zero_told q (φ σ.point)))
      where
        go : {b : Bool} → Decides (Mod (suc q) (φ σ.point) 0) b
            → (cond b (meeting (shown q φ S) s.cancellations) (meeting (less_times q (φ σ.point % suc q) (shown q φ S) (shown q σ.value S)) (s.cancellations + 1))).column ≡ shown q (lost σ φ) S
        go (so k) = shown_cong q φ (lost σ φ) S (λ P mem. lin (flip (zero_right q (zero_left k (σ.value P)))) 0 0 (omega arith))
        go (not_so k) =
            shown_less q (φ σ.point % suc q) φ σ.value S
            ∙ shown_cong q _ (lost σ φ) S (λ P mem. rfl {x = φ P} plus scale q (reduce (suc q) (φ σ.point) times rfl {x = σ.value P}))

    pub meets_all_shown : (l : List Pivot) (r : List (Sense A)) → MeansAll l r → (s : Meeting) (φ : A → ℕ) → s.column ≡ shown q φ S
        → (meets_all q l s).column ≡ shown q (left r φ) S
    unfolding meets_all
    meets_all_shown [] [] h s φ e = e
    meets_all_shown [] (σ ∷ r) h s φ e = absurd h
    meets_all_shown (v ∷ l) [] h s φ e = absurd h
    meets_all_shown (v ∷ l) (σ ∷ r) h s φ e = meets_all_shown l r h.1 (meets q v s) (lost σ φ) (meets_shown v σ h.0 s φ e)

-- each pivot counts at most once
meets_count : (q : ℕ) (v : Pivot) (s : Meeting) → (meets q v s).cancellations ≤ s.cancellations + 1
unfolding meets
meets_count q v s = go (eqb (get_or s.column v.place 0) 0)
  where
    go : (b : Bool) → (cond b s (meeting (less_times q (get_or s.column v.place 0) s.column v.column) (s.cancellations + 1))).cancellations ≤ s.cancellations + 1
    go true = omega arith
    go false = omega arith

pub meets_all_count : (q : ℕ) (l : List Pivot) (s : Meeting) → (meets_all q l s).cancellations ≤ s.cancellations + length l
unfolding meets_all
meets_all_count q [] s = omega arith
meets_all_count q (v ∷ l) s = omega (arith, meets_all_count q l (meets q v s), meets_count q v s)
