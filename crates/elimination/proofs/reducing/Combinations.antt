-- Sums over the first k indices, and with them combinations of the first k rows of a matrix, compared modulo p.
use mathlib.Core.Path.{◌≡◌}
use Prim.Native.Nat.{ℕ, zero, suc, ◌+◌, ◌*◌, ◌<◌}
use native.Mathlib.Omega.{arith}
use Rattle.residue.specs.Congruence.{Mod}
use Rattle.residue.proofs.Congruence.{rfl, ◌plus◌, ◌times◌, zero_left}

abbrev pub sum_to : (ℕ → ℕ) → ℕ → ℕ
sum_to f zero = 0
sum_to f (suc k) = sum_to f k + f k

pub sum_to_cong : {p : ℕ} {f g : ℕ → ℕ} (k : ℕ) → ((j : ℕ) → j < k → Mod p (f j) (g j)) → Mod p (sum_to f k) (sum_to g k)
sum_to_cong zero h = rfl
sum_to_cong (suc k) h = sum_to_cong k (λ j l. h j (omega arith)) plus h k (omega arith)

pub sum_to_zero : {p : ℕ} {f : ℕ → ℕ} (k : ℕ) → ((j : ℕ) → j < k → Mod p (f j) 0) → Mod p (sum_to f k) 0
sum_to_zero zero h = rfl
sum_to_zero (suc k) h = sum_to_zero k (λ j l. h j (omega arith)) plus h k (omega arith)

pub sum_to_front : (f : ℕ → ℕ) (k : ℕ) → sum_to f (suc k) ≡ f 0 + sum_to (λ j. f (suc j)) k
sum_to_front f zero = omega arith
sum_to_front f (suc k) = let h = sum_to_front f k in omega arith

-- v j i is the value of the jth monomial at the ith point; the value at the ith point of the combination of the first k with the coefficients c
abbrev pub combination : (ℕ → ℕ → ℕ) → ℕ → (ℕ → ℕ) → ℕ → ℕ
combination v k c i = sum_to (λ j. c j * v j i) k

module _ (v : ℕ → ℕ → ℕ) where
  pub combination_cong : {p : ℕ} {c d : ℕ → ℕ} (k : ℕ) → ((j : ℕ) → j < k → Mod p (c j) (d j)) → (i : ℕ) → Mod p (combination v k c i) (combination v k d i)
  combination_cong k h i = sum_to_cong k (λ j l. h j l times rfl {x = v j i})

  pub combination_zero : {p : ℕ} {c : ℕ → ℕ} (k : ℕ) → ((j : ℕ) → j < k → Mod p (c j) 0) → (i : ℕ) → Mod p (combination v k c i) 0
  combination_zero k h i = sum_to_zero k (λ j l. zero_left (h j l) (v j i))

  pub combination_scale : (a : ℕ) (c : ℕ → ℕ) (k i : ℕ) → combination v k (λ j. a * c j) i ≡ a * combination v k c i
  combination_scale a c zero i = omega arith
  combination_scale a c (suc k) i = let h = combination_scale a c k i in omega arith

  pub combination_add : (c : ℕ → ℕ) (a : ℕ) (d : ℕ → ℕ) (k i : ℕ) → combination v k (λ j. c j + a * d j) i ≡ combination v k c i + a * combination v k d i
  combination_add c a d zero i = omega arith
  combination_add c a d (suc k) i = let h = combination_add c a d k i in omega arith
