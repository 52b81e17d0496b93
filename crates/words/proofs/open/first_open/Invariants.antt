-- `open::first_open` meets its contract.
use Prim.Native.Nat.{◌*◌, ◌-◌}
use Rattle.words.specs.PlaceSets.{KnownBelow}
use Rattle.words.proofs.open.first_open.Given as goal

abbrev pub invariant-loop-w : goal.invariant-loop-w
invariant-loop-w l = KnownBelow (64 * l.w) l.known

abbrev pub decreases-loop-w : goal.decreases-loop-w
decreases-loop-w l = 4 - l.w
