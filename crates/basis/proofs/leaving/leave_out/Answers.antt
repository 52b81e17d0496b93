-- `leaving::leave_out` meets its contract: refused, or the points without the variable are drawn up.
use mathlib.Core.Path.{◌≡◌, refl, sym, ap, subst, ◌∙◌}
use mathlib.Core.Bool.{Bool}
use Prim.Native.Nat.{ℕ, ◌-◌}
use Rattle.std.proofs.Common.{rules, Err}
use Rattle.specification.specs.declared.settings.Settings.{Settings}
use Rattle.specification.specs.Answers.{number_of, refusal_of, answer_of, drawn_of}
use Rattle.specification.specs.Lent.{lent, lent_mut}
use Rattle.specification.specs.Refusal.{first_of}
use Rattle.specification.specs.Tables.{too_short, points_in, held_in}
use Rattle.specification.specs.Adding.{uncosted, holding_both}
use Rattle.specification.specs.LeaveOut.{without_variable, leave_out_cases}
use Rattle.specification.proofs.Refused.{number_above_0}
use Rattle.construction.specs.Drawing.{PointsGiven}
use Rattle.points.specs.Gathering.{TabledAs}
use Rattle.recognition.proofs.settings.ByNumber.{alone}
use Rattle.basis.proofs.leaving.Outcome.{leave_refused, long_left, in_settings, leave_given, leave_done}
use Rattle.basis.proofs.leaving.leave_out.Goals as goal
use Rattle.basis.proofs.leaving.leave_out.Goals.{After-too_short, In_ok-k}

-- the number of a call, by whether the tables for the result are too short
module _ (c : After-too_short) where
  abbrev number_by : Bool → ℕ
  number_by short = first_of 0 (leave_out_cases c.args.settings c.args.n c.args.r (lent c.args.tables) c.args.variable short)

  short_is : number_by c.too_short.result ≡ number_by (too_short (lent_mut c.args.left))
  short_is = ap number_by c.too_short.ensures

-- nothing refuses
module _ (c : In_ok-k) where
  abbrev o : After-too_short
  o = (goal.at.In_ok-k c).After-too_short

  none : 0 ≡ number_by o (too_short (lent_mut c.args.left))
  unfolding refusal_of
  none = c.in_ok-k.ensures.refusal_value ∙ short_is o

  tabled : TabledAs (without_variable (c.args.variable - 1) (held_in c.args.settings c.args.n (lent c.args.tables))) c.in_ok-k.k c.gather_left.new.points c.gather_left.new.times
  tabled = c.in_ok-k.ensures.tabled_as c.in_ok-k.k refl

pub returns-in_err-k : goal.returns-in_err-k
unfolding refusal_of
returns-in_err-k c =
    let a = c.args in
    let e = c.in_err-k.field-0.0 in
    let told : c.from_residual.result ≡ Err e = search rules in
    rw told (alone e (lent_mut a.left)
    ∙ leave_refused a.settings a.n a.r (lent a.tables) a.variable (lent_mut a.left) (number_of e)
    (c.in_err-k.ensures.refusal_value ∙ short_is (goal.at.returns-in_err-k c).After-too_short) (number_above_0 e))

pub one_fewer-fewer-requires : goal.one_fewer-fewer-requires
one_fewer-fewer-requires c =
    let a = c.args in in_settings a.settings a.n a.r (lent a.tables) a.variable (lent_mut a.left) 0 (none (goal.at.one_fewer-fewer-requires c).In_ok-k) refl

pub draw_points-drawn-requires-clause-points_given : goal.draw_points-drawn-requires-clause-points_given
draw_points-drawn-requires-clause-points_given c =
    let r = (goal.at.draw_points-drawn-requires-clause-points_given c).In_ok-k in
    let a = c.args in
    subst (λ (q : Settings). PointsGiven q c.in_ok-k.k c.gather_left.new.points) (sym c.one_fewer-fewer.ensures)
    (leave_given a.settings a.n a.r (lent a.tables) a.variable (lent_mut a.left) 0 (none r) refl (tabled r))

pub draw_points-drawn-requires-clause-counts_value : goal.draw_points-drawn-requires-clause-counts_value
draw_points-drawn-requires-clause-counts_value c =
    let a = c.args in
    long_left a.settings a.n a.r (lent a.tables) a.variable (lent_mut a.left) 0 (none (goal.at.draw_points-drawn-requires-clause-counts_value c).In_ok-k) refl

pub returns : goal.returns
unfolding answer_of drawn_of
returns c =
    let r = (goal.at.returns c).In_ok-k in
    let a = c.args in
    let u = lent_mut a.left in
    ap uncosted c.draw_points-drawn.ensures.counts_after
    ∙ ap (λ (q : Settings). holding_both q (points_in q c.in_ok-k.k c.gather_left.new.points) c.gather_left.new.times u) c.one_fewer-fewer.ensures
    ∙ leave_done a.settings a.n a.r (lent a.tables) a.variable u 0 (none r) refl (tabled r)
