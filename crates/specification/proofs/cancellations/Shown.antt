-- A column as the residues of a function at the points, in arrival order: what is done to columns is done to the functions.
use mathlib.Core.Path.{◌≡◌, refl, ap₂}
use mathlib.Core.Bool.{Bool, ◌&&◌}
use mathlib.Core.List.{List, [], ◌∷◌, map, zip_with}
use mathlib.Core.Logic.{inl, inr}
use Prim.Native.Nat.{ℕ, suc, ◌+◌, ◌*◌, ◌%◌}
use lib.ListN.{get_or}
use lib.Dec.{eqb}
use Rattle.residue.specs.Congruence.{Mod}
use Rattle.residue.specs.Lists.{Among, all_zero}
use Rattle.residue.proofs.Congruence.{reduce, scale, ◌plus◌}
use Rattle.specification.proofs.ideal.Laws.{zero_told}
use Rattle.residue.proofs.Tests.{Decides, so, not_so}
use Rattle.specification.specs.Cancellations.{less_times, first_place}

module _ (q : ℕ) {A : Type 0} where
  abbrev pub shown : (A → ℕ) → List A → List ℕ
  shown φ S = map (λ P. φ P % suc q) S

  pub shown_cong : (φ ψ : A → ℕ) (S : List A) → ((P : A) → Among P S → Mod (suc q) (φ P) (ψ P)) → shown φ S ≡ shown ψ S
  shown_cong φ ψ [] h = refl
  shown_cong φ ψ (P ∷ S) h = ap₂ (λ (y : ℕ) (l : List ℕ). y ∷ l) (h P (inl refl)).same (shown_cong φ ψ S (λ Q mem. h Q (inr mem)))

  pub shown_less : (e : ℕ) (φ ψ : A → ℕ) (S : List A) → less_times q e (shown φ S) (shown ψ S) ≡ shown (λ P. φ P + q * (e * ψ P)) S
  unfolding less_times zip_with
  shown_less e φ ψ [] = refl
  shown_less e φ ψ (P ∷ S) =
      ap₂ (λ (y : ℕ) (l : List ℕ). y ∷ l) (reduce (suc q) (φ P) plus scale q (scale e (reduce (suc q) (ψ P)))).same (shown_less e φ ψ S)

  pub shown_scaled : (k : ℕ) (φ : A → ℕ) (S : List A) → map (λ y. (k * y) % suc q) (shown φ S) ≡ shown (λ P. k * φ P) S
  shown_scaled k φ [] = refl
  shown_scaled k φ (P ∷ S) = ap₂ (λ (y : ℕ) (l : List ℕ). y ∷ l) (scale k (reduce (suc q) (φ P))).same (shown_scaled k φ S)

  -- 0 at every point
  abbrev pub Vanishing : (A → ℕ) → List A → Type 0
  Vanishing φ S = (P : A) → Among P S → Mod (suc q) (φ P) 0

  pub vanishing_told : (φ : A → ℕ) (S : List A) → Decides (Vanishing φ S) (all_zero (shown φ S))
  unfolding all_zero
  vanishing_told φ [] = so (λ P mem. absurd mem)
  vanishing_told φ (P ∷ S) = go (zero_told q (φ P)) (vanishing_told φ S)
    where
      go : {b c : Bool} → Decides (Mod (suc q) (φ P) 0) b → Decides (Vanishing φ S) c → Decides (Vanishing φ (P ∷ S)) (b && c)
      go (so h) (so k) = so (λ Q mem. elim mem [ inl e ↦ rw e h | inr z ↦ k Q z ])
      go (so h) (not_so k) = not_so (λ u. k (λ Q mem. u Q (inr mem)))
      go (not_so h) d = not_so (λ u. h (u P (inl refl)))

  -- the entry of any column at the given place is the function's value at P
  pub record Reads (S : List A) (i : ℕ) (P : A) : Type 0 where
    pub among : Among P S
    pub reads : (φ : A → ℕ) → get_or (shown φ S) i 0 ≡ φ P % suc q

  -- where it is not 0 everywhere, the first point is one where it is not
  pub record First (φ : A → ℕ) (S : List A) : Type 0 where
    pub point : A
    pub place : Reads S (first_place (shown φ S)) point
    pub not_zero : ¬ Mod (suc q) (φ point) 0

  pub first_place_lem : (φ : A → ℕ) (S : List A) → ¬ Vanishing φ S → First φ S
  unfolding first_place
  first_place_lem φ [] n = absurd (n (λ P mem. absurd mem))
  first_place_lem φ (P ∷ S) n = go (zero_told q (φ P)) refl (first_place_lem φ S)
    where
      go : {b : Bool} → Decides (Mod (suc q) (φ P) 0) b → eqb (φ P % suc q) 0 ≡ b → (¬ Vanishing φ S → First φ S) → First φ (P ∷ S)
      go (so h) e ih =
          let r = ih (λ u. n (λ Q mem. elim mem [ inl z ↦ rw z h | inr z ↦ u Q z ])) in
          record { point = r.point; place = record { among = inr r.place.among; reads = λ ψ. rw e (r.place.reads ψ) }; not_zero = r.not_zero }
      go (not_so h) e ih = record { point = P; place = record { among = inl refl; reads = λ ψ. rw e }; not_zero = h }
