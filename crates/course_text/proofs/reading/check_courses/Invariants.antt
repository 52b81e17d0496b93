-- `reading::check_courses` meets its contract. What the records from `from` on say, behind those that were passed, is what all say.
use Prim.Native.Nat.{◌-◌}
use lib.ListN.{length}
use Rattle.course_text.proofs.reading.CoursesChecked.{CheckedOn}
use Rattle.course_text.proofs.reading.check_courses.Given as goal

abbrev pub invariant-loop-from : goal.invariant-loop-from
invariant-loop-from l = CheckedOn l.variables l.text l.at l.marks l.latest l.from l.n

abbrev pub decreases-loop-from : goal.decreases-loop-from
decreases-loop-from l = length l.text - l.from
