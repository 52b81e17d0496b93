-- `gathering::gather` meets its contract: the points from the ith on, entered into the list that stands in the table and the bytes, give all.
use Prim.Native.Nat.{◌-◌, ◌≤◌}
use Rattle.specification.specs.Levels.{residues}
use Rattle.points.specs.Gathering.{Hinted}
use Rattle.points.proofs.gathering.Gathering.{Before}
use Rattle.points.proofs.gathering.gather.Given as goal

abbrev pub invariant-loop-i : goal.invariant-loop-i
invariant-loop-i l = (l.i ≤ l.count) × Hinted l.n l.points l.hints × Before l.m (residues l.p l.levels) l.count l.i l.n l.points l.counts l.over

abbrev pub decreases-loop-i : goal.decreases-loop-i
decreases-loop-i l = l.count - l.i
