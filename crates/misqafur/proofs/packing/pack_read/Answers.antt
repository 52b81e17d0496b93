-- `packing::pack_read` meets its contract.
use borrow.Author.Tests.{ne_eqb}
use native.Mathlib.Omega.{arith}
use Rattle.specification.proofs.Refused.{number_above_0}
use Rattle.comma_text.specs.reading.Answers.{read_of}
use Rattle.misqafur.proofs.packing.pack_read.Goals as goal

pub returns-in-Ok : goal.returns-in-Ok
unfolding read_of
returns-in-Ok c = rw c.in-Ok.is (omega arith)

pub returns-in-Err : goal.returns-in-Err
unfolding read_of
returns-in-Err c = rw c.in-Err.is (simp (ne_eqb _ 0 (number_above_0 c.in-Err.fault.refusal)) (omega (arith, c.pack_fault.ensures)))
