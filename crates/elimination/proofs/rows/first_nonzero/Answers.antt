-- `rows::first_nonzero` meets its contract.
use Rattle.std.proofs.Common.{◌∙◌, sym, ap₂, ℕ, cond, not, eqb, ltb, take, Some, None, rules, tests}
use lib.Seq.{length-take-le}
use Rattle.std.proofs.lemmas.Iterator.{YieldsList-from_slice}
use Rattle.std.proofs.lemmas.Iterator.Search.{position_from_yields_List}
use Rattle.elimination.proofs.rows.Zeros.{zero_first, first_position, found}
use Rattle.elimination.proofs.rows.first_nonzero.Goals as goal

pub returns-then-all_zero : goal.returns-then-all_zero
returns-then-all_zero c = sym (zero_first c.args.n c.args.work.now c.requires (sym c.all_zero.ensures ∙ c.if-all_zero.true))

pub returns : goal.returns
returns c =
    let n = c.args.n in
    let w = c.args.work.now in
    let e = position_from_yields_List (λ x. not (eqb x 0)) _ _ c.position.result c.position.ensures.ran (YieldsList-from_slice (take n w) cc) (λ x b q k. search (rules, tests)) in
    found n w c.position.result
    (e ∙ ap₂ (λ (k l : ℕ). cond (ltb k l) (Some k) None) (first_position n w c.requires) (length-take-le n w c.requires))
