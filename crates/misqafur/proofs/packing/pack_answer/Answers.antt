-- `packing::pack_answer` meets its contract.
use native.Mathlib.Omega.{arith}
use Rattle.specification.specs.Answers.{answer_of}
use Rattle.misqafur.proofs.packing.pack_answer.Goals as goal

pub returns-in-Ok : goal.returns-in-Ok
unfolding answer_of
returns-in-Ok c = rw c.in-Ok.is (omega arith)

pub returns-in-Err : goal.returns-in-Err
unfolding answer_of
returns-in-Err c = rw c.in-Err.is (omega (arith, c.number.ensures))
