-- Working rows. No public promise names these definitions: they follow the loops of the elimination, whose contracts cite them. A working row has 128 numbers:
-- n values at the points, then one coefficient for each standard monomial found, then zeros.
use Rattle.std.specs.Prelude.{cond, List, ◌++◌, ℕ, zero, suc, ◌+◌, get_or, drop, set, take, eqb}
use Rattle.residue.specs.Vector.{scaled}

-- the index of the first of the first n numbers that is not 0, or n
unfoldable pub first_nonzero : ℕ → List ℕ → ℕ
first_nonzero zero w = 0
first_nonzero (suc n) w = cond (eqb (get_or w 0 0) 0) (suc (first_nonzero n (drop 1 w))) 0

-- the row w as a pivot row: its coefficient for its own monomial, at the given place, becomes 1, and then its numbers up to that place are multiplied by c;
-- those behind are 0
unfoldable pub pivot_row : ℕ → ℕ → ℕ → List ℕ → List ℕ
pivot_row p own c w = scaled p c (take (own + 1) (set w own 1)) ++ drop (own + 1) (set w own 1)
