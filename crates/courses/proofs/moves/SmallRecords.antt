-- Small numbers of records.
use mathlib.Core.Path.{◌≡◌}
use Prim.Native.Nat.{ℕ, ◌+◌, ◌-◌, ◌^◌, ◌<◌, ◌≤◌}
use native.Mathlib.Omega.{arith}

pub lt_le : {i n k : ℕ} → i < n → n ≤ k → i < k
lt_le a b = omega arith

pub next_le : {i n : ℕ} → i < n → i + 1 ≤ n
next_le a = omega arith

pub one_less : {i n : ℕ} → i < n → n - (i + 1) < n - i
one_less a = omega arith

pub fits_64 : {i n : ℕ} → i < n → n ≤ 4096 → i + 1 < 2 ^ 64
fits_64 a b = omega arith

pub not_64 : {at n : ℕ} → at ≤ n → n ≤ 64 → (at ≡ 64 → ⊥) → at < 64
not_64 a b c = omega (arith, a, b, c)
