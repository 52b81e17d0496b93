-- `open::pass_above` meets its contract.
use Prim.Native.Nat.{◌-◌, ◌≤◌}
use Rattle.words.specs.PlaceSets.{Passed}
use Rattle.words.proofs.MultipleLaws.{From}
use Rattle.words.proofs.open.pass_above.Given as goal

abbrev pub invariant-loop-k : goal.invariant-loop-k
invariant-loop-k l = (l.m ≤ l.k) × ((l.k ≤ 8) × Passed (From l.m l.k l.multiples) l.initial.known l.known)

abbrev pub decreases-loop-k : goal.decreases-loop-k
decreases-loop-k l = 8 - l.k
