-- `reading::check_courses` meets its contract. What the records from `from` on say, behind those that were passed, is what all say.
use mathlib.Core.Path.{◌≡◌, refl, ap, ◌∙◌}
use mathlib.Core.List.{List}
use Prim.Native.Nat.{ℕ, ◌+◌, ◌<◌, ◌≤◌}
use native.Mathlib.Omega.{arith}
use lib.IntN.{ℤ}
use lib.ListN.{length, drop}
use Rattle.std.specs.Prelude.{Err}
use Rattle.notation.specs.Said.{with_sign}
use Rattle.comma_text.specs.declared.reading.records.Entry.{Entry}
use Rattle.specification.specs.declared.refusals.Fault.{Fault}
use Rattle.comma_text.specs.reading.Records.{entry_part, entry_said, ends, checked}
use Rattle.course_text.proofs.reading.CoursesChecked.{none_checked, all_checked, no_record, passes, number_small, wrong_here, checked_more}
use Rattle.course_text.proofs.reading.check_courses.Goals as goal
use Rattle.course_text.proofs.reading.check_courses.Goals.{After-course_number-number, At-loop-from, Start}

abbrev start : At-loop-from → Start
start l = (goal.at.At-loop-from l).Start

abbrev text : At-loop-from → List ℕ
text l = (start l).args.text.now

abbrev turn : After-course_number-number → At-loop-from
turn c = (goal.at.After-course_number-number c).At-loop-from

module _ (c : After-course_number-number) where
  abbrev entry : Entry
  entry = c.in-Ok.entry

  abbrev last : ℤ
  last = with_sign entry.negative entry.size

  abbrev next : ℕ
  next = entry.next

  within : next ≤ length (text (turn c))
  within = c.in-Ok.ensures.within

  said : ends last (drop next (text (turn c)))
      ≡ checked ((turn c).loop-from.n + 2) (start (turn c)).args.variables (entry_part (start (turn c)).args.variables (drop (turn c).loop-from.from (text (turn c))))
  unfolding entry_said
  said = c.in-Ok.ensures.said

  taken : (turn c).loop-from.from < length (text (turn c))
  taken = c.loop-from-test.true

  small : c.course_number-number.result < 100
  small = number_small (turn c).loop-from.invariant taken last next within said c.course_number-number.result c.course_number-number.ensures _ refl

  further : (turn c).loop-from.from < next
  further = passes (turn c).loop-from.invariant taken last next within said c.course_number-number.result c.course_number-number.ensures _ refl

pub loop-from-init : goal.loop-from-init
loop-from-init c = none_checked _ _ _ c.requires.0

pub returns-in-Err : goal.returns-in-Err
unfolding entry_said
returns-in-Err c =
    ap (λ (f : Fault). Err f) c.fault_of_record.ensures ∙ no_record c.loop-from.invariant c.loop-from-test.true _ c.in-Err.ensures.said

pub wrong_number-requires : goal.wrong_number-requires
wrong_number-requires c = (small (goal.at.wrong_number-requires c).After-course_number-number, c.loop-from.invariant.marked.long)

pub returns-then-wrong_number : goal.returns-then-wrong_number
returns-then-wrong_number c = let k = c in wrong_here (turn (goal.at.returns-then-wrong_number k).After-course_number-number).loop-from.invariant (taken (goal.at.returns-then-wrong_number k).After-course_number-number) (last (goal.at.returns-then-wrong_number k).After-course_number-number) (next (goal.at.returns-then-wrong_number k).After-course_number-number) (within (goal.at.returns-then-wrong_number k).After-course_number-number) (said (goal.at.returns-then-wrong_number k).After-course_number-number) _ k.course_number-number.ensures _ c.wrong_number.ensures c.if-wrong_number.true

pub bounds-marks-number : goal.bounds-marks-number
bounds-marks-number c = omega (arith, small (goal.at.bounds-marks-number c).After-course_number-number)

pub loop-from-smaller : goal.loop-from-smaller
loop-from-smaller c = let k = c in omega (arith, further (goal.at.loop-from-smaller k).After-course_number-number, taken (goal.at.loop-from-smaller k).After-course_number-number)

pub loop-from-preserved : goal.loop-from-preserved
loop-from-preserved c = let k = c in checked_more (turn (goal.at.loop-from-preserved k).After-course_number-number).loop-from.invariant (taken (goal.at.loop-from-preserved k).After-course_number-number) (last (goal.at.loop-from-preserved k).After-course_number-number) (next (goal.at.loop-from-preserved k).After-course_number-number) (within (goal.at.loop-from-preserved k).After-course_number-number) (said (goal.at.loop-from-preserved k).After-course_number-number) _ k.course_number-number.ensures _ c.wrong_number.ensures c.if-wrong_number.false

pub returns : goal.returns
returns c = all_checked c.loop-from.invariant c.loop-from-test.false
