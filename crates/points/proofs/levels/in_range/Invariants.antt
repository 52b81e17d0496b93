-- `levels::in_range` meets its contract: no level was outside so far, and those from i on are in range, exactly where all are.
use mathlib.Core.Path.{◌≡◌}
use mathlib.Core.Bool.{◌&&◌}
use Prim.Native.Nat.{◌≤◌}
use lib.ListN.{length, drop}
use lib.Dec.{eqb}
use Rattle.specification.specs.Levels.{in_range}
use Rattle.points.proofs.levels.in_range.Given as goal

abbrev pub invariant-loop-i : goal.invariant-loop-i
invariant-loop-i l = (l.i ≤ length l.levels) × ((eqb l.outside 0 && in_range l.p (drop l.i l.levels)) ≡ in_range l.p l.levels)
