-- `pairs::against_earlier` meets its contract: along the chain, what is left of the search is the whole search.
use Rattle.interpolation.specs.Pairs.{contrary_to}
use Rattle.interpolation.proofs.Chains.{Left}
use Rattle.interpolation.proofs.pairs.against_earlier.Given as goal

abbrev pub invariant-loop-next : goal.invariant-loop-next
invariant-loop-next l = Left l.rests l.i (contrary_to l.k l.points l.values l.i) l.next

abbrev pub decreases-loop-next : goal.decreases-loop-next
decreases-loop-next l = l.next
