-- `packing::pack_drawn` meets its contract.
use native.Mathlib.Omega.{arith}
use Rattle.specification.specs.Answers.{drawn_of}
use Rattle.misqafur.proofs.packing.pack_drawn.Goals as goal

pub returns-in-Ok : goal.returns-in-Ok
unfolding drawn_of
returns-in-Ok c = rw c.in-Ok.is (omega arith)

pub returns-in-Err : goal.returns-in-Err
unfolding drawn_of
returns-in-Err c = rw c.in-Err.is (omega (arith, c.number.ensures))
