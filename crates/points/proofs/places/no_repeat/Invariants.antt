-- `places::no_repeat` meets its contract: no point from i on repeats exactly where none of all does.
use mathlib.Core.Path.{◌≡◌}
use Prim.Native.Nat.{◌*◌, ◌-◌, ◌≤◌}
use lib.ListN.{drop}
use Rattle.residue.specs.Layout.{groups}
use Rattle.specification.specs.Levels.{no_repeat}
use Rattle.points.proofs.places.no_repeat.Given as goal

abbrev pub invariant-loop-i : goal.invariant-loop-i
invariant-loop-i l = (l.i ≤ l.n) × (no_repeat (groups 8 (l.n - l.i) (drop (8 * l.i) l.states)) ≡ no_repeat (groups 8 l.n l.states))

abbrev pub decreases-loop-i : goal.decreases-loop-i
decreases-loop-i l = l.n - l.i
