-- `packing::pack_written` meets its contract.
use native.Mathlib.Omega.{arith}
use Rattle.json_sheets.specs.Calls.{written_of}
use Rattle.misqafur.proofs.packing.pack_written.Goals as goal

pub returns-in-Ok : goal.returns-in-Ok
unfolding written_of
returns-in-Ok c = rw c.in-Ok.is (omega arith)

pub returns-in-Err : goal.returns-in-Err
unfolding written_of
returns-in-Err c = rw c.in-Err.is (omega (arith, c.number.ensures))

pub overflow_mul-result : goal.overflow_mul-result
unfolding written_of
overflow_mul-result c = let few = c.requires in omega (arith, rw c.in-Ok.is at few)
