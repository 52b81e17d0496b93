-- `run::run` meets its contract. The last k + 1 places of the table are the states met, the latest first, and what is left of the run from there is the whole run.
use Prim.Native.Nat.{◌-◌}
use Rattle.steps.specs.Stepping.{step_of}
use Rattle.steps.proofs.run.RunLaws.{Running}
use Rattle.steps.proofs.run.run.Given as goal

abbrev pub invariant-loop-k : goal.invariant-loop-k
invariant-loop-k l = Running (step_of l.p l.m l.n l.standard l.genes) l.start l.p l.k l.met

abbrev pub decreases-loop-k : goal.decreases-loop-k
decreases-loop-k l = 256 - l.k
