-- The sizes of the lent tables and of working arrays, in bytes: docs/SCOPE.md, 'The sheet'. src/sizes.rt has the same numbers for the code.
use Rattle.std.specs.Prelude.{ℕ}

-- 'up to 64 distinct states', so as many standard monomials, values and pivots; at most 1 + 64·7 rows
abbrev pub most_points : ℕ
most_points = 64

abbrev pub most_rows : ℕ
most_rows = 449

-- 8 bytes for a point, a standard monomial and a leading monomial, 64 for a row of coefficients, one for a count
abbrev pub states_size : ℕ
states_size = 512

abbrev pub standard_size : ℕ
standard_size = 512

abbrev pub leads_size : ℕ
leads_size = 3592

abbrev pub coefficients_size : ℕ
coefficients_size = 28736

abbrev pub counts_size : ℕ
counts_size = 64

-- A working row: 64 values and 64 coefficients. A pivot row stands with eight multiples of it in a block, and there are blocks for 64 pivots.
abbrev pub work_size : ℕ
work_size = 128

abbrev pub block_size : ℕ
block_size = 1152

abbrev pub pivot_rows_size : ℕ
pivot_rows_size = 73728

-- the 64 values of each variable; those of each standard monomial
abbrev pub columns_size : ℕ
columns_size = 512

abbrev pub values_size : ℕ
values_size = 4096
