-- `moves::has_other` meets its contract: none of the first j records stands with another successor than record i.
use mathlib.Core.Path.{◌≡◌}
use mathlib.Core.Bool.{true, false}
use mathlib.Core.List.{List}
use Prim.Native.Nat.{ℕ, ◌-◌, ◌+◌, ◌<◌, ◌≤◌}
use lib.ListN.{length}
use Rattle.courses.specs.TimeCourse.{Timed, other_next}
use Rattle.courses.specs.Records.{HeldIn}
use Rattle.courses.specs.Moves.{has_next, move_at, moves_before}
use Rattle.courses.proofs.moves.has_other.Given as goal

abbrev pub invariant-loop-j : goal.invariant-loop-j
invariant-loop-j l = (l.j ≤ l.i) × (l.i + 1 < l.count) × ((m : ℕ) (k : List Timed) → HeldIn m k l.records l.numbers → length k ≡ l.count
    → (has_next l.i k ≡ true) × (other_next (moves_before l.j k) (move_at l.i k) ≡ false))

abbrev pub decreases-loop-j : goal.decreases-loop-j
decreases-loop-j l = l.i - l.j
