-- `moves::gather_moves` meets its contract: the moves of the first i records are gathered, and none of them has a state of another successor.
use mathlib.Core.Path.{◌≡◌}
use mathlib.Core.List.{List}
use Prim.Native.Nat.{ℕ, ◌-◌, ◌≤◌}
use lib.ListN.{length}
use Rattle.courses.specs.TimeCourse.{Timed}
use Rattle.courses.specs.Records.{HeldIn}
use Rattle.courses.specs.Moves.{moves_before}
use Rattle.courses.proofs.moves.MovesGathered.{Gathering}
use Rattle.courses.proofs.moves.gather_moves.Given as goal

abbrev pub invariant-loop-i : goal.invariant-loop-i
invariant-loop-i l = (l.i ≤ l.count) × ((m : ℕ) (k : List Timed) → HeldIn m k l.records l.numbers → length k ≡ l.count
    → Gathering m (moves_before l.i k) (length k) l.records l.n l.often l.points l.counts l.firsts l.hints)

abbrev pub decreases-loop-i : goal.decreases-loop-i
decreases-loop-i l = l.count - l.i
