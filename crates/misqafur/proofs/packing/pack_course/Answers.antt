-- `packing::pack_course` meets its contract.
use mathlib.Core.Path.{subst}
use borrow.Author.Tests.{ne_eqb}
use native.Mathlib.Omega.{arith}
use Rattle.specification.proofs.Refused.{number_above_0}
use Rattle.forward.specs.Outcome.{course_answer}
use Rattle.misqafur.specs.Packing.{CourseFits}
use Rattle.misqafur.proofs.packing.pack_course.Goals as goal

pub returns-in-Ok : goal.returns-in-Ok
unfolding course_answer
returns-in-Ok c = rw c.in-Ok.is (omega arith)

pub returns-in-Err : goal.returns-in-Err
unfolding course_answer
returns-in-Err c = rw c.in-Err.is (simp (ne_eqb _ 0 (number_above_0 c.in-Err.fault.refusal)) (omega (arith, c.pack_fault.ensures)))

pub overflow_mul-result-in-Ok-6 : goal.overflow_mul-result-in-Ok-6
unfolding course_answer
overflow_mul-result-in-Ok-6 c = let f = subst (λ a. CourseFits (course_answer a)) c.in-Ok.is c.requires in omega (arith, f.back)

pub overflow_add-result-in-Ok-5 : goal.overflow_add-result-in-Ok-5
unfolding course_answer
overflow_add-result-in-Ok-5 c = let f = subst (λ a. CourseFits (course_answer a)) c.in-Ok.is c.requires in omega (arith, f.n, f.modulus, f.variables, f.order, f.r, f.step, f.back)
