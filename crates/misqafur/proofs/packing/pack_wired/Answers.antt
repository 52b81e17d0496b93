-- `packing::pack_wired` meets its contract.
use native.Mathlib.Omega.{arith}
use Rattle.specification.specs.Answers.{wired_of}
use Rattle.misqafur.proofs.packing.pack_wired.Goals as goal

pub returns-in-Ok : goal.returns-in-Ok
unfolding wired_of
returns-in-Ok c = rw c.in-Ok.is (omega arith)

pub returns-in-Err : goal.returns-in-Err
unfolding wired_of
returns-in-Err c = rw c.in-Err.is (omega (arith, c.number.ensures))
