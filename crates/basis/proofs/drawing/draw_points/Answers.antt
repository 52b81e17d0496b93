-- `drawing::draw_points` meets its contract: points and counts are copied, and the fronts of the other lent tables drawn up.
use mathlib.Core.Path.{ap, ap₂, ◌∙◌, sym}
use mathlib.Core.List.{List}
use Prim.Native.Nat.{ℕ}
use native.Mathlib.Omega.{arith}
use lib.Seq.{length-take-le}
use Rattle.residue.specs.Layout.{over}
use Rattle.residue.proofs.Layouts.{fill_exact}
use Rattle.specification.specs.Answers.{drawn_of}
use Rattle.specification.specs.Lent.{lent_mut}
use Rattle.specification.specs.Tables.{states_table, points_in}
use Rattle.specification.specs.Adding.{Outcome, costing}
use Rattle.specification.proofs.agreement.Refusals.{Large, large_of}
use Rattle.construction.proofs.drawing.Given.{given_count, few_drawn, few_cost}
use Rattle.construction.proofs.drawing.Grounds.{points_long}
use Rattle.recognition.proofs.settings.Written.{both_written}
use Rattle.basis.proofs.drawing.draw_points.Goals as goal
use Rattle.basis.proofs.drawing.draw_points.Goals.{Start}

large : (c : Start) → Large (lent_mut c.args.tables)
large c = large_of (lent_mut c.args.tables) c.requires.counts_value

pub copy-requires : goal.copy-requires
copy-requires c = omega (arith, points_long c.requires.points_given, (large (goal.at.copy-requires c).Start).states)

pub copy-requires-2 : goal.copy-requires-2
copy-requires-2 c = omega (arith, c.requires.times_len, (large (goal.at.copy-requires-2 c).Start).counts)

pub slice_bounds-draw_anew-end : goal.slice_bounds-draw_anew-end
slice_bounds-draw_anew-end c = (large (goal.at.slice_bounds-draw_anew-end c).Start).standard

pub slice_bounds-draw_anew-end-2 : goal.slice_bounds-draw_anew-end-2
slice_bounds-draw_anew-end-2 c = sym (length-take-le 512 c.args.tables.standard.now (large (goal.at.slice_bounds-draw_anew-end-2 c).Start).standard)

pub slice_bounds-draw_anew-end-3 : goal.slice_bounds-draw_anew-end-3
slice_bounds-draw_anew-end-3 c = (large (goal.at.slice_bounds-draw_anew-end-3 c).Start).leads

pub slice_bounds-draw_anew-end-4 : goal.slice_bounds-draw_anew-end-4
slice_bounds-draw_anew-end-4 c = sym (length-take-le 3592 c.args.tables.leads.now (large (goal.at.slice_bounds-draw_anew-end-4 c).Start).leads)

pub slice_bounds-draw_anew-end-5 : goal.slice_bounds-draw_anew-end-5
slice_bounds-draw_anew-end-5 c = (large (goal.at.slice_bounds-draw_anew-end-5 c).Start).coefficients

pub slice_bounds-draw_anew-end-6 : goal.slice_bounds-draw_anew-end-6
slice_bounds-draw_anew-end-6 c = sym (length-take-le 28736 c.args.tables.coefficients.now (large (goal.at.slice_bounds-draw_anew-end-6 c).Start).coefficients)

pub draw_anew-drawn-requires-clause-standard_len : goal.draw_anew-drawn-requires-clause-standard_len
draw_anew-drawn-requires-clause-standard_len c =
    let t = c.args.tables in
    let w = large (goal.at.draw_anew-drawn-requires-clause-standard_len c).Start in
    (length-take-le 512 t.standard.now w.standard, (length-take-le 3592 t.leads.now w.leads, length-take-le 28736 t.coefficients.now w.coefficients))

pub overflow_cast-result-2 : goal.overflow_cast-result-2
overflow_cast-result-2 c = omega (arith, c.draw_anew-drawn.ensures.drawn_up.tabled.row_count, few_drawn c.requires.points_given)

pub overflow_cast-result-3 : goal.overflow_cast-result-3
overflow_cast-result-3 c = omega (arith, c.draw_anew-drawn.ensures.cancellations_value, few_cost c.requires.points_given)

pub returns-clause-counts_after : goal.returns-clause-counts_after
unfolding states_table drawn_of
returns-clause-counts_after c =
    let a = c.args in
    let d = c.draw_anew-drawn in
    ap₂ (λ (k : ℕ) (w : Outcome). costing k w) d.ensures.cancellations_value
    (both_written a.settings (points_in a.settings a.n a.points.now) a.times.now (lent_mut a.tables) a.n d.result.r _ d.new.standard d.new.leads d.new.coefficients _
    (sym (given_count c.requires.points_given))
    (c.copy.ensures ∙ ap (λ (t : List ℕ). over t a.tables.states.now) c.requires.points_given.table) d.ensures.drawn_up.tabled
    (c.copy-2.ensures ∙ ap (λ (t : List ℕ). over t a.tables.counts.now) (sym (fill_exact 64 a.times.now c.requires.times_len))))
