-- `running::decide` meets its contract: what the moves refuse, or whether the course is there.
use borrow.Author.Tests.{lt-ltb, le-ltb}
use mathlib.Core.Path.{◌≡◌, refl, ◌∙◌}
use native.Mathlib.Omega.{arith}
use Rattle.std.specs.Prelude.{Ok, Err}
use Rattle.std.proofs.lemmas.Result.{err_from_is_err_and}
use Rattle.specification.specs.Answers.{number_of}
use Rattle.specification.proofs.Refused.{number_above_0}
use Rattle.courses.specs.Moves.{gathered_of}
use Rattle.courses.proofs.moves.CoursePlaces.{found_named, found_first}
use Rattle.forward.specs.Running.{decided_of}
use Rattle.forward.proofs.running.Decisions.{moves_refuse, course_there, course_away}
use Prim.Native.Nat.{◌<◌}
use lib.ListN.{take}
use Rattle.courses.specs.Moves.{place_of_course}
use Rattle.forward.proofs.running.decide.Goals as goal

pub returns-in_err-n : goal.returns-in_err-n
unfolding decided_of gathered_of
returns-in_err-n c m l held all =
    let p = err_from_is_err_and c.from_residual.result c.from_residual.ensures.1 in
    let f = c.in_err-n.field-0.0 in
    rw (p.1, p.2) (moves_refuse c.args.course (gathered_of (Err f)) (c.in_err-n.ensures m l held all) (number_above_0 f.refusal))

pub returns-in-Some : goal.returns-in-Some
unfolding decided_of gathered_of
returns-in-Some c m l held all =
    let at = c.in-Some.first in
    let low : at < c.args.count = rw c.in-Some.is at c.first_of_course.ensures.within in
    let e : at ≡ place_of_course c.args.course (take c.args.count c.args.numbers.now) = rw c.in-Some.is at c.first_of_course.ensures.place in
    course_there c.args.course (gathered_of (Ok c.in_ok-n.n)) (c.in_ok-n.ensures m l held all) refl
    (found_named held all c.args.course at e ∙ lt-ltb _ _ low) at (omega (arith, all, low)) (found_first held all c.args.course at e low)

pub returns : goal.returns
unfolding decided_of gathered_of number_of
returns c m l held all =
    let e : c.args.count ≡ place_of_course c.args.course (take c.args.count c.args.numbers.now) = rw c.in_default.is at c.first_of_course.ensures.place in
    course_away c.args.course (gathered_of (Ok c.in_ok-n.n)) (c.in_ok-n.ensures m l held all) refl
    (found_named held all c.args.course c.args.count e ∙ le-ltb _ _ (omega arith))
