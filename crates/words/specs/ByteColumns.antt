-- The columns of the variables and of monomials without squares.
use Rattle.std.specs.Prelude.{◌≡◌, cond, List, ◌≢◌, ℕ, ◌+◌, ◌*◌, ◌-◌, ◌<◌, length, get_or, set, eqb}
use Rattle.std.specs.Int.Bits.{bit_and}
use Rattle.std.specs.Int.Count.{ones, count_trailing_zeros}
use Rattle.residue.specs.Layout.{groups}
use Rattle.residue.specs.Words.{column_of, bytes_of}

-- eight columns with the bytes of a word in front, that of the first column the highest
pub record Pushed (eight : ℕ) (columns columns' : List ℕ) : Type 0 where
  pub long : length columns' ≡ length columns
  pub each : (k : ℕ) → k < 8 → get_or columns' k 0 ≡ get_or columns k 0 * 256 + get_or (bytes_of 8 eight) (7 - k) 0

-- the columns of the variables at the first n points of a table
pub record VariableColumns (n : ℕ) (points columns : List ℕ) : Type 0 where
  pub long : length columns ≡ 8
  pub each : (k : ℕ) → k < 8 → get_or columns k 0 ≡ column_of (λ (P : List ℕ). get_or P k 0) (groups 8 n points)

-- a monomial's column from that of the monomial without its first variable
pub record OwnColumn (byte ones : ℕ) (columns values : List ℕ) (own : ℕ) : Type 0 where
  pub of_one : byte ≡ 0 → own ≡ ones
  pub of_more : byte ≢ 0 → own ≡ bit_and (get_or columns (count_trailing_zeros 8 byte) 0) (get_or values (bit_and byte (byte - 1)) 0)

-- The variables' places among the standard monomials with that of a byte, where it is a variable: where its degree, the count of its ones, is 1.
unfoldable pub noted : ℕ → ℕ → List ℕ → List ℕ
noted byte place places = cond (eqb (ones byte) 1) (set places (count_trailing_zeros 8 byte) place) places
