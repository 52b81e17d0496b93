-- Elimination over a table of pivot rows, 128 numbers each. Pivot row t lies at 1152 t, at the front of the block of its multiples.
use Rattle.std.specs.Prelude.{cond, List, [], ◌∷◌, ◌++◌, ◌≡◌, ℕ, zero, suc, ◌+◌, ◌*◌, ◌-◌, ◌/◌, ◌<◌, ◌≤◌, get_or, take, drop, eqb, ltb}
use Rattle.residue.specs.Sizes.{work_size, block_size}
use Rattle.residue.specs.Vector.{add_scaled, scaled}

-- the row w with its entry at the given place cancelled, by adding a multiple of a row that is 1 there
unfoldable pub cancelled : ℕ → List ℕ → ℕ → List ℕ → List ℕ
cancelled p row at w = cond (eqb (get_or w at 0) 0) w (add_scaled p (p - get_or w at 0) w row)

-- the row w after it met the first t pivot rows, in the order in which they were found
unfoldable pub eliminated : ℕ → List ℕ → List ℕ → ℕ → List ℕ → List ℕ
eliminated p rows pivots zero w = w
eliminated p rows pivots (suc t) w = cancelled p (take work_size (drop (block_size * t) rows)) (get_or pivots t 0) (eliminated p rows pivots t w)

-- whether a cancellation is made, as a number: the entry is not 0
unfoldable pub counted : ℕ → ℕ
counted x = cond (eqb x 0) 0 1

-- the cancellations made: how many of the entries that the row w showed to the first t pivot rows, each at its moment, were not 0
unfoldable pub cancellations : ℕ → List ℕ → List ℕ → ℕ → List ℕ → ℕ
cancellations p rows pivots zero w = 0
cancellations p rows pivots (suc t) w = cancellations p rows pivots t w + counted (get_or (eliminated p rows pivots t w) (get_or pivots t 0) 0)

-- the multiples of a row, one behind the other
unfoldable pub multiples_by : ℕ → List ℕ → List ℕ → List ℕ
multiples_by p row [] = []
multiples_by p row (c ∷ cs) = scaled p c row ++ multiples_by p row cs

-- those that a block holds: the digits to the base 4 other than 0, at each of three places
unfoldable pub factors : List ℕ
factors = 1 ∷ 2 ∷ 3 ∷ 4 ∷ 8 ∷ 12 ∷ 16 ∷ 32 ∷ 48 ∷ []

unfoldable pub multiples_of : ℕ → List ℕ → List ℕ
multiples_of p row = multiples_by p row factors

-- the blocks of the rows found hold the multiples of their rows
abbrev pub Multiplied : ℕ → ℕ → List ℕ → Type 0
Multiplied p found rows = (t : ℕ) → t < found → take block_size (drop (block_size * t) rows) ≡ multiples_of p (take work_size (drop (block_size * t) rows))

-- a row is 0 from the given entry on
abbrev pub ZeroFrom : ℕ → List ℕ → Type 0
ZeroFrom width row = (i : ℕ) → width ≤ i → i < work_size → get_or row i 0 ≡ 0

-- how many entries are looked at of a row that is 0 from `end` on: whole vectors of 16, of which a row has 8
unfoldable pub whole_width : ℕ → ℕ
whole_width end = cond (ltb 112 end) 128 ((end + 15) / 16 * 16)

-- row t of those found is 0 behind entry n + t
abbrev pub ZeroBehind : ℕ → ℕ → List ℕ → Type 0
ZeroBehind n found rows = (t j : ℕ) → t < found → t < j → n + j < work_size → get_or rows (block_size * t + (n + j)) 0 ≡ 0
