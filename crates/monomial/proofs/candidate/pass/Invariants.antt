-- `candidate::pass` meets its contract. The first k variables have been looked at.
use Prim.Native.Nat.{◌≤◌, ◌-◌}
use Rattle.monomial.proofs.candidate.Turns.{Passing}
use Rattle.monomial.proofs.candidate.pass.Given as goal

abbrev pub invariant-loop-k : goal.invariant-loop-k
invariant-loop-k l = (l.k ≤ l.m) × Passing l.found l.ranks l.steps l.rank l.initial.at l.k l.at l.count l.variable l.standard

abbrev pub decreases-loop-k : goal.decreases-loop-k
decreases-loop-k l = l.m - l.k
