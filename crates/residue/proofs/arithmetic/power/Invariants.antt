-- `arithmetic::power` meets its contract. The product so far, times what is left of the power of the square, is the whole power.
use Prim.Native.Nat.{◌*◌, ◌^◌, ◌<◌}
use Rattle.residue.specs.Congruence.{Mod}
use Rattle.residue.proofs.arithmetic.power.Given as goal

abbrev pub invariant-loop-left : goal.invariant-loop-left
invariant-loop-left l = (l.product < l.p) × ((l.square < l.p) × Mod l.p (l.product * l.square ^ l.left) (l.x ^ l.e))

abbrev pub decreases-loop-left : goal.decreases-loop-left
decreases-loop-left l = l.left
