-- The search for the first row that is not 0: what is left of it is the whole of it.
use mathlib.Core.Path.{◌≡◌, ◌∙◌, ap}
use mathlib.Core.Bool.{cond}
use mathlib.Core.Logic.{◌≢◌}
use Prim.Native.Nat.{ℕ, zero, suc, ◌+◌, ◌-◌, ◌<◌, ◌≤◌}
use native.Mathlib.Omega.{arith}
use native.Mathlib.Decide.{ℕ_discrete}
use lib.Dec.{eqb}
use borrow.Author.Tests.{eq-eqb, ne_eqb}
use Rattle.growth.specs.Growing.{first_from}

-- The first number that is not 0.
module _ (f : ℕ → ℕ) where
  pub first_end : (i r : ℕ) → i ≡ r → first_from f i (r - i) ≡ i
  unfolding first_from
  first_end i r e = let z : r - i ≡ 0 = omega arith in ap (first_from f i) z

  pub first_skip : (i r : ℕ) → i < r → f i ≡ 0 → first_from f i (r - i) ≡ first_from f (i + 1) (r - (i + 1))
  unfolding first_from
  first_skip i r h e =
      let z : r - i ≡ suc (r - (i + 1)) = omega arith in
      ap (first_from f i) z ∙ simp (eq-eqb (f i) 0 e)

  pub first_hit : (i r : ℕ) → i < r → (f i ≡ 0 → ⊥) → first_from f i (r - i) ≡ i
  unfolding first_from
  first_hit i r h e =
      let z : r - i ≡ suc (r - (i + 1)) = omega arith in
      ap (first_from f i) z ∙ simp (ne_eqb (f i) 0 e)

  -- what the search finds
  pub first_found : (i k : ℕ) → let j = first_from f i k in (i ≤ j) × (j ≤ i + k) × ((t : ℕ) → i ≤ t → t < j → f t ≡ 0) × (j < i + k → f j ≢ 0)
  unfolding first_from
  first_found i zero = (omega arith, omega arith, (λ t h l. absurd (omega arith)), λ l. absurd (omega arith))
  first_found i (suc k) = go (ℕ_discrete (f i) 0) (first_found (i + 1) k)
    where
      go : Dec (f i ≡ 0)
          → (let j = first_from f (i + 1) k in (i + 1 ≤ j) × (j ≤ i + 1 + k) × ((t : ℕ) → i + 1 ≤ t → t < j → f t ≡ 0) × (j < i + 1 + k → f j ≢ 0))
          → let j = cond (eqb (f i) 0) (first_from f (i + 1) k) i in (i ≤ j) × (j ≤ i + suc k) × ((t : ℕ) → i ≤ t → t < j → f t ≡ 0) × (j < i + suc k → f j ≢ 0)
      go (yes e) ih = rw (eq-eqb (f i) 0 e) (omega (arith, ih.0), omega (arith, ih.1), (λ t h l. here t h l (ℕ_discrete i t)), λ l. ih.3 (omega arith))
        where
          here : (t : ℕ) → i ≤ t → t < first_from f (i + 1) k → Dec (i ≡ t) → f t ≡ 0
          here t h l (yes u) = rw (← u) e
          here t h l (no u) = ih.2 t (omega arith) l
      go (no e) ih = rw (ne_eqb (f i) 0 e) (omega arith, omega arith, (λ t h l. absurd (omega arith)), λ l. e)
