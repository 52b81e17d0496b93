-- `candidate::occurring` meets its contract. The count so far is that of the first i variables.
use mathlib.Core.Path.{◌≡◌}
use Prim.Native.Nat.{◌≤◌}
use Rattle.monomial.specs.Candidate.{occurring_in}
use Rattle.monomial.proofs.candidate.occurring.Given as goal

abbrev pub invariant-loop-i : goal.invariant-loop-i
invariant-loop-i l = (l.count ≤ l.i) × (l.count ≡ occurring_in l.a l.k l.i)
