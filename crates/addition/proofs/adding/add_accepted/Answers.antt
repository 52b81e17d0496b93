-- `adding::add_accepted` meets its contract: the fronts of the lent tables are those of all points.
use mathlib.Core.Path.{ap, ◌∙◌, sym}
use mathlib.Core.List.{[], ◌∷◌, ◌++◌}
use native.Mathlib.Omega.{arith}
use lib.ListN.{length}
use lib.Seq.{length-take-le}
use Rattle.residue.specs.Layout.{fill, length_fill}
use Rattle.residue.proofs.Tests.{of_true}
use Rattle.residue.proofs.Layouts.{answered}
use Rattle.specification.specs.Answers.{answer_of}
use Rattle.specification.specs.Lent.{lent_mut}
use Rattle.specification.specs.Tables.{states_table}
use Rattle.specification.proofs.agreement.Refusals.{Large, large_of, over_begins}
use Rattle.specification.proofs.Replicates.{count_put}
use Rattle.growth.specs.Growing.{all_points}
use Rattle.construction.proofs.drawing.Grounds.{points_long}
use Rattle.growth.proofs.Added.{all_count, all_few, states_more}
use Rattle.recognition.proofs.settings.Written.{both_written}
use Rattle.addition.proofs.adding.add_accepted.Goals as goal
use Rattle.addition.proofs.adding.add_accepted.Goals.{Start}

large : (s : Start) → Large (lent_mut s.args.tables)
large s = large_of (lent_mut s.args.tables) s.requires.counts_value

pub slice_bounds-add_state-end : goal.slice_bounds-add_state-end
slice_bounds-add_state-end c = (large (goal.at.slice_bounds-add_state-end c).Start).states

pub slice_bounds-add_state-end-2 : goal.slice_bounds-add_state-end-2
slice_bounds-add_state-end-2 c = sym (length-take-le 512 c.args.tables.states.now (large (goal.at.slice_bounds-add_state-end-2 c).Start).states)

pub add_state-requires : goal.add_state-requires
add_state-requires c =
    let states = (large (goal.at.add_state-requires c).Start).states in
    (c.requires.n_bound.0, (points_long c.requires.points_given, (ap length c.requires.new_point.filled ∙ length_fill 8 _, length-take-le 512 c.args.tables.states.now states)))

pub slice_bounds-add_tables-end : goal.slice_bounds-add_tables-end
slice_bounds-add_tables-end c = (large (goal.at.slice_bounds-add_tables-end c).Start).standard

pub slice_bounds-add_tables-end-2 : goal.slice_bounds-add_tables-end-2
slice_bounds-add_tables-end-2 c = sym (length-take-le 512 c.args.tables.standard.now (large (goal.at.slice_bounds-add_tables-end-2 c).Start).standard)

pub slice_bounds-add_tables-end-3 : goal.slice_bounds-add_tables-end-3
slice_bounds-add_tables-end-3 c = (large (goal.at.slice_bounds-add_tables-end-3 c).Start).leads

pub slice_bounds-add_tables-end-4 : goal.slice_bounds-add_tables-end-4
slice_bounds-add_tables-end-4 c = sym (length-take-le 3592 c.args.tables.leads.now (large (goal.at.slice_bounds-add_tables-end-4 c).Start).leads)

pub slice_bounds-add_tables-end-5 : goal.slice_bounds-add_tables-end-5
slice_bounds-add_tables-end-5 c = (large (goal.at.slice_bounds-add_tables-end-5 c).Start).coefficients

pub slice_bounds-add_tables-end-6 : goal.slice_bounds-add_tables-end-6
slice_bounds-add_tables-end-6 c = sym (length-take-le 28736 c.args.tables.coefficients.now (large (goal.at.slice_bounds-add_tables-end-6 c).Start).coefficients)

pub bounds-counts-n : goal.bounds-counts-n
bounds-counts-n c = omega (arith, c.requires.n_bound.0, (large (goal.at.bounds-counts-n c).Start).counts)

pub overflow_cast-result-2 : goal.overflow_cast-result-2
overflow_cast-result-2 c =
    omega (arith, c.add_tables-k.ensures.row_count, all_few c.requires.points_given c.requires.drawn_up c.requires.n_bound.0 c.requires.new_point)

pub returns : goal.returns
unfolding answer_of states_table
returns c =
    let s = c.args.settings in
    let t = lent_mut c.args.tables in
    let q = c.requires in
    both_written s (all_points s c.args.n c.args.points.now c.args.point.now) (fill c.args.n t.counts ++ (1 ∷ [])) t _ c.add_tables-k.result _
    c.add_tables-k.new.standard c.add_tables-k.new.leads c.add_tables-k.new.coefficients _
    (all_count q.points_given q.drawn_up q.n_bound.0 q.new_point)
    (answered 512 _ t.states c.add_state.new.states (c.add_state.ensures ∙ states_more s c.args.n q.points_given q.n_bound.0 q.new_point))
    c.add_tables-k.ensures
    (sym (count_put 64 c.args.n t.counts q.n_bound.0 (over_begins _ t.counts (of_true q.n_bound.1))))
