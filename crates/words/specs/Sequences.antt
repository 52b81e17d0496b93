-- The 256 monomials without squares in increasing order, as bytes, and where the multiples of each variable stand; and where a square comes among them.
use Rattle.std.specs.Prelude.{◌≡◌, Bool, true, false, cond, List, ◌↔◌, length, get_or, eqb, leb}
use Prim.Native.Nat.{ℕ, ◌-◌, ◌<◌, ◌≤◌, Ordering}
use Rattle.monomial.specs.Monomial.{one, times_variable}
use Rattle.monomial.specs.Order.{Order, cmp}
use Rattle.residue.specs.Words.{bit_of, bits_of}
use Rattle.words.specs.PlaceSets.{multiple_at}

abbrev pub is_less : Ordering → Bool
is_less Ordering.lt = true
is_less Ordering.eq = false
is_less Ordering.gt = false

pub record Sequence (order : Order) (bytes multiples : List ℕ) : Type 0 where
  pub long : length bytes ≡ 256
  pub multiples_long : length multiples ≡ 32
  pub small : (i : ℕ) → i < 256 → get_or bytes i 0 < 256
  pub rising : (i j : ℕ) → i < j → j < 256 → cmp order (bits_of 8 (get_or bytes i 0)) (bits_of 8 (get_or bytes j 0)) ≡ Ordering.lt
  pub every : (w : ℕ) → w < 256 → (i : ℕ) × (i < 256) × (get_or bytes i 0 ≡ w)
  pub variables : (k i : ℕ) → k < 8 → i < 256 → multiple_at k i multiples ≡ bit_of k (get_or bytes i 0)

-- the square of x_(k+1)
abbrev pub square_of : ℕ → List ℕ
square_of k = times_variable k (times_variable k (one 8))

-- the first m variables from the one with the largest square down, and how many monomials without squares are below each of these squares
pub record Squares (order : Order) (m : ℕ) (bytes squares before : List ℕ) : Type 0 where
  pub squares_long : length squares ≡ 8
  pub before_long : length before ≡ 8
  pub variable : (i : ℕ) → i < m → get_or squares i 0 < m
  pub each : (k : ℕ) → k < m → (i : ℕ) × (i < m) × (get_or squares i 0 ≡ k)
  pub falling : (i j : ℕ) → i < j → j < m → cmp order (square_of (get_or squares j 0)) (square_of (get_or squares i 0)) ≡ Ordering.lt
  pub most : (i : ℕ) → i < m → get_or before i 0 ≤ 256
  pub below : (i j : ℕ) → i < m → j < 256 → (j < get_or before i 0) ↔ (cmp order (bits_of 8 (get_or bytes j 0)) (square_of (get_or squares i 0)) ≡ Ordering.lt)

-- of the squares that are left, the last comes before what stands at a place
unfoldable pub square_comes : ℕ → ℕ → List ℕ → Bool
square_comes left at before = cond (eqb left 0) false (leb (get_or before (left - 1) 0) at)
