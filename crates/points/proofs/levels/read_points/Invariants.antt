-- `levels::read_points` meets its contract. The loop has written the first i points into the table.
use mathlib.Core.Path.{◌≡◌}
use mathlib.Core.List.{List}
use Prim.Native.Nat.{ℕ, ◌-◌, ◌≤◌}
use Rattle.residue.specs.Layout.{fill, in_places}
use Rattle.points.proofs.levels.PointTables.{points_as}
use Rattle.points.proofs.levels.read_points.Given as goal

abbrev pub table : ℕ → ℕ → List ℕ → ℕ → List ℕ
table p m states i = fill 512 (in_places 8 (points_as p m i states))

abbrev pub invariant-loop-i : goal.invariant-loop-i
invariant-loop-i l = (l.i ≤ l.n) × (l.points ≡ table l.p l.m l.states l.i)

abbrev pub decreases-loop-i : goal.decreases-loop-i
decreases-loop-i l = l.n - l.i
