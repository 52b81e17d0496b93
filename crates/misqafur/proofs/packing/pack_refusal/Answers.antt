-- `packing::pack_refusal` meets its contract.
use native.Mathlib.Omega.{arith}
use Rattle.specification.specs.Answers.{refusal_of}
use Rattle.misqafur.proofs.packing.pack_refusal.Goals as goal

pub returns-in-Ok : goal.returns-in-Ok
unfolding refusal_of
returns-in-Ok c = rw c.in-Ok.is (omega arith)

pub returns-in-Err : goal.returns-in-Err
unfolding refusal_of
returns-in-Err c = rw c.in-Err.is (omega (arith, c.number.ensures))
