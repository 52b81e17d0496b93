-- `pivots::rest_at` meets its contract.
use Prim.Native.Nat.{◌^◌, ◌<◌}
use Rattle.words.specs.Packed.{words}
use Rattle.words.proofs.LeftLaws.{Leaving}
use Rattle.words.proofs.pivots.rest_at.Given as goal

abbrev pub invariant-loop-left : goal.invariant-loop-left
invariant-loop-left l = (l.left < 2 ^ 64) × Leaving l.own l.pivots l.rows l.columns l.polynomials l.left (words l.column l.polynomial)

abbrev pub decreases-loop-left : goal.decreases-loop-left
decreases-loop-left l = l.left
