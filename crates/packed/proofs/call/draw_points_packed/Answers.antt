-- `call::draw_points_packed` meets its contract: points and counts are copied, and the fronts of the other lent tables drawn up.
use mathlib.Core.Path.{ap, ◌∙◌, sym}
use mathlib.Core.List.{List}
use Prim.Native.Nat.{ℕ}
use native.Mathlib.Omega.{arith}
use lib.Seq.{length-take-le}
use Rattle.residue.specs.Layout.{over}
use Rattle.residue.proofs.Layouts.{fill_exact}
use Rattle.specification.specs.Answers.{answer_of}
use Rattle.specification.specs.Lent.{lent_mut}
use Rattle.specification.specs.Tables.{states_table, points_in}
use Rattle.specification.proofs.agreement.Refusals.{Large, large_of}
use Rattle.construction.proofs.drawing.Given.{given_count, few_drawn}
use Rattle.construction.proofs.drawing.Grounds.{points_long}
use Rattle.recognition.proofs.settings.Written.{both_written}
use Rattle.packed.proofs.call.draw_points_packed.Goals as goal
use Rattle.packed.proofs.call.draw_points_packed.Goals.{Start}

large : (c : Start) → Large (lent_mut c.args.tables)
large c = large_of (lent_mut c.args.tables) c.requires.counts_value

pub copy-requires : goal.copy-requires
copy-requires c = omega (arith, points_long c.requires.points_given.0, (large (goal.at.copy-requires c).Start).states)

pub copy-requires-2 : goal.copy-requires-2
copy-requires-2 c = omega (arith, c.requires.times_len, (large (goal.at.copy-requires-2 c).Start).counts)

pub slice_bounds-draw_anew-end : goal.slice_bounds-draw_anew-end
slice_bounds-draw_anew-end c = (large (goal.at.slice_bounds-draw_anew-end c).Start).standard

pub slice_bounds-draw_anew-end-2 : goal.slice_bounds-draw_anew-end-2
slice_bounds-draw_anew-end-2 c = sym (length-take-le 512 c.args.tables.standard.now (large (goal.at.slice_bounds-draw_anew-end-2 c).Start).standard)

pub slice_bounds-draw_anew-end-3 : goal.slice_bounds-draw_anew-end-3
slice_bounds-draw_anew-end-3 c = (large (goal.at.slice_bounds-draw_anew-end-3 c).Start).leads

pub slice_bounds-draw_anew-end-4 : goal.slice_bounds-draw_anew-end-4
slice_bounds-draw_anew-end-4 c = sym (length-take-le 3592 c.args.tables.leads.now (large (goal.at.slice_bounds-draw_anew-end-4 c).Start).leads)

pub slice_bounds-draw_anew-end-5 : goal.slice_bounds-draw_anew-end-5
slice_bounds-draw_anew-end-5 c = (large (goal.at.slice_bounds-draw_anew-end-5 c).Start).coefficients

pub slice_bounds-draw_anew-end-6 : goal.slice_bounds-draw_anew-end-6
slice_bounds-draw_anew-end-6 c = sym (length-take-le 28736 c.args.tables.coefficients.now (large (goal.at.slice_bounds-draw_anew-end-6 c).Start).coefficients)

pub draw_anew-r-requires-clause-standard_len : goal.draw_anew-r-requires-clause-standard_len
draw_anew-r-requires-clause-standard_len c =
    let t = c.args.tables in
    let w = large (goal.at.draw_anew-r-requires-clause-standard_len c).Start in
    (length-take-le 512 t.standard.now w.standard, (length-take-le 3592 t.leads.now w.leads, length-take-le 28736 t.coefficients.now w.coefficients))

pub overflow_cast-result-2 : goal.overflow_cast-result-2
overflow_cast-result-2 c = omega (arith, c.draw_anew-r.ensures.row_count, few_drawn c.requires.points_given.0)

pub returns : goal.returns
unfolding states_table answer_of
returns c =
    let a = c.args in
    let d = c.draw_anew-r in
    both_written a.settings (points_in a.settings a.n a.points.now) a.times.now (lent_mut a.tables) a.n d.result _ d.new.standard d.new.leads d.new.coefficients _
    (sym (given_count c.requires.points_given.0))
    (c.copy.ensures ∙ ap (λ (t : List ℕ). over t a.tables.states.now) c.requires.points_given.0.table) d.ensures
    (c.copy-2.ensures ∙ ap (λ (t : List ℕ). over t a.tables.counts.now) (sym (fill_exact 64 a.times.now c.requires.times_len)))
