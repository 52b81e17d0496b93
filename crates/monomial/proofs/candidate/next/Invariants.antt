-- `candidate::next` meets its contract. What is left of the search ends as the whole does; each turn passes a product.
use mathlib.Core.Path.{◌≡◌}
use lib.ListN.{length}
use Rattle.monomial.specs.Candidate.{next_of}
use Rattle.monomial.proofs.candidate.Products.{remaining, Searching}
use Rattle.monomial.proofs.candidate.next.Given as goal

abbrev pub invariant-loop-rank : goal.invariant-loop-rank
invariant-loop-rank l = (length l.at ≡ 8) × Searching l.m l.found l.standard l.ranks l.steps l.at (next_of l.m l.found l.standard l.ranks l.steps l.initial.at)

abbrev pub decreases-loop-rank : goal.decreases-loop-rank
decreases-loop-rank l = remaining l.found l.at l.m
