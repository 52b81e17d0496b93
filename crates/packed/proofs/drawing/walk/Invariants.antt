-- `drawing::walk` meets its contract.
use Prim.Native.Nat.{◌+◌, ◌-◌}
use Rattle.words.specs.PlaceSets.{KnownBelow}
use Rattle.packed.proofs.Given.{AtHeads}
use Rattle.packed.proofs.drawing.walk.Given as goal

abbrev pub invariant-loop-left : goal.invariant-loop-left
invariant-loop-left l = AtHeads l.initial.left l.n l.points l.bytes l.multiples l.squares l.before l.whole l.variables l.known l.left l.found l.r l.pivots l.values l.places l.rows l.columns l.polynomials l.standard l.leads
    l.coefficients × KnownBelow l.at l.known

abbrev pub decreases-loop-left : goal.decreases-loop-left
decreases-loop-left l = l.left + ((64 - l.found) + (449 - l.r))
