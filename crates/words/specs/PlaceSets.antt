-- Sets of the 256 places of the monomials without squares in an order: a bit for each place, in four words.
use Rattle.std.specs.Prelude.{◌≡◌, List, ◌⊎◌, ◌↔◌, ℕ, ◌+◌, ◌*◌, ◌/◌, ◌%◌, ◌<◌, ◌≤◌, length, get_or}
use Rattle.std.specs.Int.Bits.{bit_xor}
use Rattle.residue.specs.Words.{bit_of}
unfoldable pub use Rattle.residue.specs.Words.{in_set}

-- the bits that a word has not
unfoldable pub others : ℕ → ℕ
others w = bit_xor 18446744073709551615 w

-- Eight sets one after the other: 1 where place i is in that of variable k.
unfoldable pub multiple_at : ℕ → ℕ → List ℕ → ℕ
multiple_at k i multiples = bit_of (i % 64) (get_or multiples (4 * k + i / 64) 0)

-- four words, each made of two
pub record Wordwise (op : ℕ → ℕ → ℕ) (a b a' : List ℕ) : Type 0 where
  pub long : length a' ≡ length a
  pub each : (w : ℕ) → w < 4 → get_or a' w 0 ≡ op (get_or a w 0) (get_or b w 0)

-- each place below n is known
abbrev pub KnownBelow : ℕ → List ℕ → Type 0
KnownBelow n known = (i : ℕ) → i < n → in_set i known ≡ 1

-- the first place that is not known, 256 where each is
pub record FirstOpen (known : List ℕ) (at : ℕ) : Type 0 where
  pub most : at ≤ 256
  pub before : KnownBelow at known
  pub here : at < 256 → in_set at known ≡ 0

-- a set with the places of a kind put in
pub record Passed (Kind : ℕ → Type 0) (known known' : List ℕ) : Type 0 where
  pub long : length known' ≡ length known
  pub each : (i : ℕ) → i < 256 → (in_set i known' ≡ 1) ↔ ((in_set i known ≡ 1) ⊎ Kind i)

-- a place of a multiple of the monomial of a byte; a place of a monomial with a variable above the first m
abbrev pub OfMultiple : ℕ → List ℕ → ℕ → Type 0
OfMultiple byte multiples i = (k : ℕ) → k < 8 → bit_of k byte ≡ 1 → multiple_at k i multiples ≡ 1

abbrev pub OfAbove : ℕ → List ℕ → ℕ → Type 0
OfAbove m multiples i = (k : ℕ) × (m ≤ k) × (k < 8) × (multiple_at k i multiples ≡ 1)
