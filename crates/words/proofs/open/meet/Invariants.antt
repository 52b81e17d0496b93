-- `open::meet` meets its contract.
use Prim.Native.Nat.{◌-◌, ◌≤◌}
use lib.Bits.{bit_and}
use Rattle.words.proofs.PlaceLaws.{Turned}
use Rattle.words.proofs.open.meet.Given as goal

abbrev pub invariant-loop-w : goal.invariant-loop-w
invariant-loop-w l = (l.w ≤ 4) × Turned (λ x y. bit_and x y) l.w l.initial.a l.b l.a

abbrev pub decreases-loop-w : goal.decreases-loop-w
decreases-loop-w l = 4 - l.w
