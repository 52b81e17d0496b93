-- `open::pass_multiples` meets its contract.
use Prim.Native.Nat.{◌<◌, ◌^◌}
use Rattle.words.proofs.MultipleLaws.{Common}
use Rattle.words.proofs.open.pass_multiples.Given as goal

abbrev pub invariant-loop-left : goal.invariant-loop-left
invariant-loop-left l = (l.left < 2 ^ 8) × Common l.byte l.left l.multiples l.common

abbrev pub decreases-loop-left : goal.decreases-loop-left
decreases-loop-left l = l.left
