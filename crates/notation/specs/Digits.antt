-- Numbers in decimal, of one to three digits, as a text has them (docs/SCOPE.md, 'Reading text').
use Rattle.std.specs.Prelude.{Bool, cond, ◌&&◌, List, [], ◌∷◌, ℕ, ◌+◌, ◌*◌, ◌-◌, length, leb}
use Rattle.std.proofs.Math.Option.{Option, some, none}

unfoldable pub is_digit : ℕ → Bool
is_digit b = leb 48 b && leb b 57

-- the number that digits write, behind `value`
unfoldable pub digits_from : ℕ → List ℕ → Option ℕ
digits_from value [] = some value
digits_from value (b ∷ l) = cond (is_digit b) (digits_from (10 * value + (b - 48)) l) none

-- one to three digits
unfoldable pub decimal_number : List ℕ → Option ℕ
decimal_number l = cond (leb 1 (length l) && leb (length l) 3) (digits_from 0 l) none
