-- `rank::variable_ranks` meets its contract: each table computes to the ranks.
use mathlib.Core.Path.{sym, ap}
use Rattle.monomial.specs.Comparison.{meant}
use Rattle.monomial.specs.Rank.{key, rank_of, variable_rank, steps_of}
use Rattle.monomial.proofs.rank.variable_ranks.Goals as goal

pub returns-in-Lex : goal.returns-in-Lex
unfolding steps_of variable_rank rank_of key
returns-in-Lex c = ap (λ o. steps_of (meant o)) (sym c.in-Lex.is)

pub returns-in-Grlex : goal.returns-in-Grlex
unfolding steps_of variable_rank rank_of key
returns-in-Grlex c = ap (λ o. steps_of (meant o)) (sym c.in-Grlex.is)

pub returns-in-Grevlex : goal.returns-in-Grevlex
unfolding steps_of variable_rank rank_of key
returns-in-Grevlex c = ap (λ o. steps_of (meant o)) (sym c.in-Grevlex.is)
