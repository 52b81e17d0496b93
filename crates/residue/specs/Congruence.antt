-- Congruence modulo p. Sums and products of definitions are plain natural numbers, not reduced, and are compared by it.
use Rattle.std.specs.Prelude.{◌≡◌, ℕ, ◌%◌}

pub record Mod (p x y : ℕ) : Type 0 where
  pub same : x % p ≡ y % p
