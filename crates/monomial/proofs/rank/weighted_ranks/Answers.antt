-- `rank::weighted_ranks` meets its contract. The loop has added the weights before its index.
use mathlib.Core.Path.{◌≡◌, sym, ◌∙◌}
use Prim.Native.Nat.{ℕ, ◌<◌}
use native.Mathlib.Omega.{arith}
use lib.Dec.{ltb, ltb→lt}
use lib.ListN.{get_or}
use Rattle.residue.proofs.level.Moduli.{below_at}
use Rattle.residue.proofs.vector.Filled.{filled_none, own, filled_more, filled_all}
use Rattle.monomial.specs.Order.{lex, weighted}
use Rattle.monomial.specs.Rank.{key, rank_of, variable_rank, steps_of}
use Rattle.monomial.proofs.rank.Ranks.{weighted_variable}
use Rattle.monomial.proofs.rank.Steps.{steps_long, steps_at}
use Rattle.monomial.proofs.rank.weighted_ranks.Goals as goal

-- the ranks in lex are those of the table, and small
small : (k : ℕ) → k < 8 → get_or (steps_of lex) k 0 < 5000000000000
unfolding steps_of variable_rank rank_of key
small k l = ltb→lt _ _ (below_at (λ i. ltb (get_or (steps_of lex) i 0) 5000000000000) 8 tt k l)

pub loop-k-init : goal.loop-k-init
loop-k-init c = filled_none _ _

pub overflow_add-ranks : goal.overflow_add-ranks
unfolding steps_of variable_rank rank_of key
overflow_add-ranks c =
    let w = c.args.weights.now in
    omega (arith, own (variable_rank (weighted w)) c.loop-k.k (steps_of lex) c.loop-k.ranks c.loop-k.invariant 0, small c.loop-k.k (omega arith))

pub loop-k-preserved : goal.loop-k-preserved
unfolding steps_of variable_rank rank_of key
loop-k-preserved c =
    let w = c.args.weights.now in
    let k : ℕ = c.loop-k.k in
    let e : get_or c.loop-k.ranks k 0 ≡ variable_rank lex k = own (variable_rank (weighted w)) k (steps_of lex) c.loop-k.ranks c.loop-k.invariant 0 ∙ steps_at lex k (omega arith) in
    filled_more (variable_rank (weighted w)) k (steps_of lex) c.loop-k.ranks c.loop-k.invariant _ (omega (arith, steps_long lex))
    (sym (weighted_variable w k (omega arith) ∙ omega (arith, e)))

pub returns : goal.returns
unfolding steps_of variable_rank rank_of key
returns c =
    let o = weighted c.args.weights.now in
    c.loop-k.invariant ∙ filled_all (variable_rank o) c.loop-k.k (steps_of o) (steps_of lex) 0 (omega (arith, steps_long lex)) (steps_long o ∙ sym (steps_long lex)) (λ i h. steps_at o i (omega (arith, steps_long lex)))
