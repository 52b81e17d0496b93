-- `columns::own_column` meets its contract.
use mathlib.Core.Path.{refl}
use Prim.Native.Nat.{◌-◌, ◌<◌}
use native.Mathlib.Omega.{arith}
use lib.Bits.{bit_and, and_le_l}
use lib.Count.{count_trailing_zeros}
use Rattle.words.proofs.Orthogonal.{lowest_lt}
use Rattle.words.proofs.columns.own_column.Goals as goal
use Rattle.words.proofs.columns.own_column.Goals.{Else-byte-eq0, Start}

pub returns-then-byte-eq0 : goal.returns-then-byte-eq0
returns-then-byte-eq0 c = record { of_one = λ e. refl; of_more = λ n. absurd (n c.if-byte-eq0.true) }

-- the first variable of the byte, and the byte without it
first : (c : Else-byte-eq0) → count_trailing_zeros 8 c.args.byte < 8
first c = lowest_lt 8 c.args.byte c.ranges.byte.fits c.if-byte-eq0.false

rest : (c : Start) → bit_and c.args.byte (c.args.byte - 1) < 256
rest c = omega (arith, and_le_l c.args.byte (c.args.byte - 1), c.ranges.byte.fits)

pub overflow_cast-result : goal.overflow_cast-result
overflow_cast-result c = record { fits = omega (arith, first (goal.at.overflow_cast-result c).Else-byte-eq0) }

pub offset_bounds-columns-byte : goal.offset_bounds-columns-byte
offset_bounds-columns-byte c = record { fits = omega (arith, first (goal.at.offset_bounds-columns-byte c).Else-byte-eq0) }

pub bounds-columns-byte : goal.bounds-columns-byte
bounds-columns-byte c = omega (arith, first (goal.at.bounds-columns-byte c).Else-byte-eq0)

pub overflow_cast-result-2 : goal.overflow_cast-result-2
overflow_cast-result-2 c = record { fits = omega (arith, rest (goal.at.overflow_cast-result-2 c).Start) }

pub offset_bounds-values-byte : goal.offset_bounds-values-byte
offset_bounds-values-byte c = record { fits = omega (arith, rest (goal.at.offset_bounds-values-byte c).Start) }

pub bounds-values-byte : goal.bounds-values-byte
bounds-values-byte c = omega (arith, rest (goal.at.bounds-values-byte c).Start)

pub returns : goal.returns
returns c = record { of_one = λ e. absurd (c.if-byte-eq0.false e); of_more = λ n. refl }
