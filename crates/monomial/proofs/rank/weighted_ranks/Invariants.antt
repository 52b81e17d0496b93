-- `rank::weighted_ranks` meets its contract. The loop has added the weights before its index.
use mathlib.Core.Path.{◌≡◌}
use Rattle.residue.proofs.vector.Filled.{filled}
use Rattle.monomial.specs.Order.{weighted}
use Rattle.monomial.specs.Rank.{variable_rank}
use Rattle.monomial.proofs.rank.weighted_ranks.Given as goal

abbrev pub invariant-loop-k : goal.invariant-loop-k
invariant-loop-k l = l.ranks ≡ filled (variable_rank (weighted l.weights)) l.k l.initial.ranks
