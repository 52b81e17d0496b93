-- `moves::first_other` meets its contract: no 17 among the moves of the first i records.
use mathlib.Core.Path.{◌≡◌}
use mathlib.Core.List.{List, []}
use Prim.Native.Nat.{ℕ, ◌-◌, ◌≤◌}
use lib.ListN.{length}
use Rattle.courses.specs.TimeCourse.{Timed, first_move, other_next}
use Rattle.courses.specs.Records.{HeldIn}
use Rattle.courses.specs.Moves.{moves_before}
use Rattle.courses.proofs.moves.first_other.Given as goal

abbrev pub invariant-loop-i : goal.invariant-loop-i
invariant-loop-i l = (l.i ≤ l.count) × ((m : ℕ) (k : List Timed) → HeldIn m k l.records l.numbers → length k ≡ l.count
    → first_move other_next [] (moves_before l.i k) ≡ 0)

abbrev pub decreases-loop-i : goal.decreases-loop-i
decreases-loop-i l = l.count - l.i
