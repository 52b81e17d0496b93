-- `packing::pack_taken` meets its contract.
use native.Mathlib.Omega.{arith}
use Rattle.json_sheets.specs.Calls.{taken_of}
use Rattle.misqafur.proofs.packing.pack_taken.Goals as goal

pub returns-in-Ok : goal.returns-in-Ok
unfolding taken_of
returns-in-Ok c = rw c.in-Ok.is (omega arith)

pub returns-in-Err : goal.returns-in-Err
unfolding taken_of
returns-in-Err c = rw c.in-Err.is (omega (arith, c.number.ensures))
