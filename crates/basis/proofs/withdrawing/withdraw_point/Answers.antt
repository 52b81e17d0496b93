-- `withdrawing::withdraw_point` meets its contract: refused, not there, or one occurrence of the point goes.
use mathlib.Core.Path.{◌≡◌, sym, ap, subst, ◌∙◌}
use mathlib.Core.Bool.{cond}
use mathlib.Core.List.{List}
use Prim.Native.Nat.{ℕ, ◌-◌, ◌<◌}
use native.Mathlib.Omega.{arith}
use lib.ListN.{get_or}
use lib.Dec.{ltb}
use Rattle.std.proofs.Common.{rules, Err}
use Rattle.residue.specs.Layout.{fill}
use Rattle.monomial.specs.Insert.{removed_at}
use Rattle.specification.specs.Answers.{number_of, refusal_of, answer_of}
use Rattle.specification.specs.Lent.{lent_mut}
use Rattle.specification.specs.Tables.{Tables}
use Rattle.specification.specs.CallByCall.{recounted}
use Rattle.specification.specs.Adding.{refused, holding_both}
use Rattle.specification.specs.Points.{Points}
use Rattle.specification.proofs.Refused.{number_above_0}
use Rattle.recognition.proofs.settings.ByNumber.{alone}
use Rattle.recognition.specs.Naming.{naming_refusal}
use Rattle.recognition.proofs.naming.PointAtHand.{opened, AtHand, at_hand, rows_held}
use Rattle.basis.proofs.withdrawing.Withdrawal.{withdraw_refused, withdraw_absent, before_end, points_left, withdraw_done}
use Rattle.basis.proofs.withdrawing.withdraw_point.Goals as goal
use Rattle.basis.proofs.withdrawing.withdraw_point.Goals.{Else-place-count, In_ok-place}

-- nothing refuses up to 10
module _ (c : In_ok-place) where
  none : naming_refusal c.args.settings c.args.n c.args.r (lent_mut c.args.tables) c.args.levels.now ≡ 0
  unfolding refusal_of
  none = sym c.in_ok-place.ensures.refusal

  hand : AtHand c.args.settings c.args.n c.args.r (lent_mut c.args.tables) c.args.levels.now none c.in_ok-place.place c.locate.new.points c.locate.new.rows c.locate.new.pivots
      c.locate.new.point
  hand = at_hand c.args.settings c.args.n c.args.r (lent_mut c.args.tables) c.args.levels.now none c.in_ok-place.ensures

-- the point is there
module _ (c : Else-place-count) where
  abbrev o : In_ok-place
  o = (goal.at.Else-place-count c).In_ok-place

  low : c.in_ok-place.place < c.args.n
  low = before_end c.args.settings c.args.n c.args.r (lent_mut c.args.tables) c.args.levels.now (none o) c.in_ok-place.place (hand o).placed c.if-place-count.false

pub returns-in_err-place : goal.returns-in_err-place
unfolding refusal_of
returns-in_err-place c =
    let t : Tables = lent_mut c.args.tables in
    let e = c.in_err-place.field-0.0 in
    let told : c.from_residual.result ≡ Err e = search rules in
    rw told (alone e t ∙ withdraw_refused c.args.settings c.args.n c.args.r t c.args.levels.now (number_of e) c.in_err-place.ensures.refusal (number_above_0 e))

pub returns-then-place-count : goal.returns-then-place-count
unfolding answer_of number_of refused
returns-then-place-count c =
    let o = (goal.at.returns-then-place-count c).In_ok-place in
    withdraw_absent c.args.settings c.args.n c.args.r (lent_mut c.args.tables) c.args.levels.now (none o) c.in_ok-place.place (hand o).placed c.if-place-count.true

pub overflow_cast-r : goal.overflow_cast-r
overflow_cast-r c = omega (arith, rows_held c.args.settings c.args.n c.args.r (lent_mut c.args.tables) c.args.levels.now (none (goal.at.overflow_cast-r c).In_ok-place))

pub withdraw_accepted-requires-clause-points_given : goal.withdraw_accepted-requires-clause-points_given
withdraw_accepted-requires-clause-points_given c =
    let f = (goal.at.withdraw_accepted-requires-clause-points_given c).Else-place-count in ((hand (o f)).given_points, low f)

pub withdraw_accepted-requires-clause-points : goal.withdraw_accepted-requires-clause-points
withdraw_accepted-requires-clause-points c = λ one.
    let f = (goal.at.withdraw_accepted-requires-clause-points c).Else-place-count in
    let a = c.args in
    subst (λ (S : List (List ℕ)). Points a.settings (removed_at c.in_ok-place.place S)) (sym (hand (o f)).again)
    (points_left a.settings a.n a.r (lent_mut a.tables) a.levels.now (none (o f)) c.in_ok-place.place (hand (o f)).placed (low f) one)

pub withdraw_accepted-requires-clause-counts_value : goal.withdraw_accepted-requires-clause-counts_value
withdraw_accepted-requires-clause-counts_value c =
    (opened c.args.settings c.args.n c.args.r (lent_mut c.args.tables) c.args.levels.now (none (goal.at.withdraw_accepted-requires-clause-counts_value c).In_ok-place)).long_tables

pub returns : goal.returns
returns c =
    let f = (goal.at.returns c).Else-place-count in
    let a = c.args in
    let t = lent_mut a.tables in
    let place = c.in_ok-place.place in
    let k = get_or a.tables.counts.now place 0 in
    c.withdraw_accepted.ensures.counts_after
    ∙ ap (λ (S : List (List ℕ)). cond (ltb 1 k) (recounted a.n a.r t place (k - 1)) (holding_both a.settings (removed_at place S) (removed_at place (fill a.n a.tables.counts.now)) t)) (hand (o f)).again
    ∙ withdraw_done a.settings a.n a.r t a.levels.now (none (o f)) place (hand (o f)).placed (low f)
