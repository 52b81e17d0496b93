-- Remainders without a division.
use mathlib.Core.Path.{◌≡◌, sym}
use Prim.Native.Nat.{ℕ, ◌%◌, ◌<◌}
use native.Mathlib.Nat.{mod-eq_of_lt}

-- what is below p is its remainder
pub kept : (p x : ℕ) → x < p → x ≡ x % p
kept p x h = sym (mod-eq_of_lt h)
