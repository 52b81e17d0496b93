-- `growing::keep_others` meets its contract.
use mathlib.Core.Path.{◌≡◌, sym, ap, ap₂, subst, ◌∙◌}
use mathlib.Core.List.{List}
use Prim.Native.Nat.{ℕ, ◌-◌}
use native.Mathlib.Omega.{arith}
use Rattle.residue.specs.Vector.{Below}
use Rattle.residue.specs.Layout.{in_places, over}
use Rattle.monomial.specs.Insert.{taken_out}
use Rattle.growth.specs.Growing.{corrected_rows, others_of, rows_left, others_corrected}
use Rattle.growth.proofs.Writes.{left_below}
use Rattle.growth.proofs.growing.keep_others.Goals as goal
use Rattle.growth.proofs.growing.keep_others.Goals.{After-take_out-2}

-- the rows left, before they are corrected
left : (c : After-take_out-2) → c.take_out-2.new.to ≡ rows_left c.args.r c.args.j c.args.coefficients.now
unfolding rows_left
left c = c.take_out-2.ensures ∙ ap (over (taken_out 64 c.args.r c.args.j c.args.coefficients.now)) c.requires.new_leads_value.1

pub correct_rows-requires-clause-below : goal.correct_rows-requires-clause-below
correct_rows-requires-clause-below c =
    let a = c.args.addition.now in
    subst (Below a.p) (sym (left (goal.at.correct_rows-requires-clause-below c).After-take_out-2)) (left_below a.p c.args.r c.args.j c.args.coefficients.now (omega arith) c.requires.below)

pub returns-clause-new_leads_after : goal.returns-clause-new_leads_after
unfolding others_of
returns-clause-new_leads_after c = c.take_out.ensures ∙ ap (over (taken_out 8 c.args.r c.args.j c.args.leads.now)) c.requires.new_leads_value.0

pub returns-clause-new_coefficients_after : goal.returns-clause-new_coefficients_after
unfolding others_of others_corrected
returns-clause-new_coefficients_after c =
    let a = c.args.addition.now in
    let leads = c.take_out.ensures ∙ ap (over (taken_out 8 c.args.r c.args.j c.args.leads.now)) c.requires.new_leads_value.0 in
    c.correct_rows.ensures
    ∙ ap₂ (λ (u v : List ℕ). over (in_places 64 (corrected_rows a.p a.place a.inverse a.gone.now a.point.now a.values.now u v (c.args.r - 1))) v) leads
    (left (goal.at.returns-clause-new_coefficients_after c).After-take_out-2)
