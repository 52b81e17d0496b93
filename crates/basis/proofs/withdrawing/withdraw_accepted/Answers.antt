-- `withdrawing::withdraw_accepted` meets its contract: the count is lowered, or the points that are left are drawn up.
use borrow.Author.Tests.{lt-ltb}
use mathlib.Core.Path.{refl, ap, ◌∙◌}
use Prim.Native.Nat.{◌-◌, ◌≤◌}
use native.Mathlib.Omega.{arith}
use lib.ListN.{length, get_or}
use Rattle.specification.specs.Answers.{answer_of, drawn_of}
use Rattle.specification.specs.Lent.{lent_mut}
use Rattle.specification.specs.Adding.{uncosted}
use Rattle.specification.specs.CallByCall.{recounted}
use Rattle.specification.proofs.agreement.Refusals.{large_of}
use Rattle.construction.specs.Drawing.{pivot_bytes}
use Rattle.construction.proofs.drawing.Grounds.{points_long}
use Rattle.basis.proofs.withdrawing.Withdrawal.{left_given, left_done, left_rows}
use Rattle.basis.proofs.withdrawing.withdraw_accepted.Goals as goal
use Rattle.basis.proofs.withdrawing.withdraw_accepted.Goals.{Else-count-gt1, Start}

-- there is a count for each point
counted : (c : Start) → c.args.n ≤ length c.args.tables.counts.now
counted c = omega (arith, (large_of (lent_mut c.args.tables) c.requires.counts_value).counts, c.requires.points_given.0.most)

-- that of the point is 1
one : (c : Else-count-gt1) → get_or c.args.tables.counts.now c.args.place 0 ≤ 1
one c = omega arith

pub bounds-counts-place : goal.bounds-counts-place
bounds-counts-place c = omega (arith, counted (goal.at.bounds-counts-place c).Start, c.requires.points_given.1)

pub returns-then-count-gt1-clause-counts_after : goal.returns-then-count-gt1-clause-counts_after
unfolding answer_of recounted
returns-then-count-gt1-clause-counts_after c = rw (lt-ltb 1 (get_or c.args.tables.counts.now c.args.place 0) c.if-count-gt1.true) refl

pub take_out-requires-clause-j_lt_k : goal.take_out-requires-clause-j_lt_k
take_out-requires-clause-j_lt_k c = (c.requires.points_given.1, omega (arith, points_long c.requires.points_given.0, c.requires.points_given.0.most))

pub take_out-requires-2-clause-j_lt_k : goal.take_out-requires-2-clause-j_lt_k
take_out-requires-2-clause-j_lt_k c = (c.requires.points_given.1, omega (arith, counted (goal.at.take_out-requires-2-clause-j_lt_k c).Start))

pub draw_points-drawn-requires-clause-points_given : goal.draw_points-drawn-requires-clause-points_given
draw_points-drawn-requires-clause-points_given c =
    let o = one (goal.at.draw_points-drawn-requires-clause-points_given c).Else-count-gt1 in
    left_given c.args.settings c.args.n c.args.place c.args.points.now c.requires.points_given.0 c.requires.points_given.1 (c.requires.points o) _ c.take_out.ensures

pub returns-clause-counts_after : goal.returns-clause-counts_after
unfolding answer_of drawn_of
returns-clause-counts_after c =
    let o = one (goal.at.returns-clause-counts_after c).Else-count-gt1 in
    let a = c.args in
    let t = lent_mut a.tables in
    ap uncosted c.draw_points-drawn.ensures.counts_after
    ∙ left_done a.settings a.n a.place a.points.now c.requires.points_given.0 c.requires.points_given.1 (c.requires.points o) _ c.take_out.ensures t _ c.take_out-2.ensures
    (counted (goal.at.returns-clause-counts_after c).Start) o (recounted a.n a.r t a.place (get_or a.tables.counts.now a.place 0 - 1))

pub returns-clause-pivots_after : goal.returns-clause-pivots_after
returns-clause-pivots_after c =
    let o = one (goal.at.returns-clause-pivots_after c).Else-count-gt1 in
    let a = c.args in
    c.draw_points-drawn.ensures.pivots_after
    ∙ left_rows a.settings a.n a.place a.points.now c.requires.points_given.0 c.requires.points_given.1 (c.requires.points o) _ c.take_out.ensures
    (get_or a.tables.counts.now a.place 0) o a.rows.now a.pivots.now (pivot_bytes a.rows.now a.pivots.now)
