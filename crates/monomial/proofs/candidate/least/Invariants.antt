-- `candidate::least` meets its contract. The best rank so far is the least of the next products of the variables looked at.
use mathlib.Core.Path.{◌≡◌}
use lib.ListN.{length}
use Rattle.monomial.specs.Candidate.{least_of}
use Rattle.monomial.proofs.candidate.least.Given as goal

abbrev pub invariant-loop-passed : goal.invariant-loop-passed
invariant-loop-passed l = l.best ≡ least_of l.found l.ranks l.steps l.at (length l.yielded)
