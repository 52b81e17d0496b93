-- `keeping::note_variable` meets its contract.
use native.Mathlib.Omega.{arith}
use Rattle.words.proofs.NotedLaws.{noted_variable, noted_none, variable_low}
use Rattle.words.proofs.keeping.note_variable.Goals as goal

pub overflow_cast-places : goal.overflow_cast-places
overflow_cast-places c = let h = variable_low _ c.ranges.byte.fits c.if-byte-eq1.true in omega (arith, h)

pub bounds-places-byte : goal.bounds-places-byte
bounds-places-byte c = let h = variable_low _ c.ranges.byte.fits c.if-byte-eq1.true in omega (arith, h, c.requires)

pub returns-then-byte-eq1 : goal.returns-then-byte-eq1
returns-then-byte-eq1 c = noted_variable _ _ _ c.if-byte-eq1.true

pub returns-else-byte-eq1 : goal.returns-else-byte-eq1
returns-else-byte-eq1 c = noted_none _ _ _ c.if-byte-eq1.false
