-- `leaving::gather_without` meets its contract: what is gathered of the points before the ith, with the rest of them, gives all.
use mathlib.Core.Path.{◌≡◌, refl, ap, ◌∙◌}
use mathlib.Core.Logic.{inl, inr}
use mathlib.Core.List.{List}
use Prim.Native.Nat.{ℕ, ◌+◌, ◌*◌, ◌-◌, ◌≤◌}
use native.Mathlib.Nat.{add-sub_cancel_left}
use native.Mathlib.Omega.{arith}
use lib.ListN.{take, drop, get_or}
use lib.Seq.{length-take-le}
use Rattle.std.proofs.Common.{rules}
use Rattle.std.proofs.lemmas.List.{get_or-take}
use Rattle.residue.specs.Layout.{groups, fill, with_place}
use Rattle.residue.proofs.Replaced.{put_place}
use Rattle.monomial.specs.Insert.{removed_at}
use Rattle.specification.specs.Answers.{number_of, refusal_of}
use Rattle.specification.specs.Counted.{place_in}
use Rattle.points.proofs.gathering.Gathering.{holds_sizes}
use Rattle.points.proofs.leaving.Entries.{point_out, Taken, before_first, all_tabled, none_refused, inside, refused_sum, before_next}
use Rattle.points.proofs.leaving.gather_without.Goals as goal
use Rattle.points.proofs.leaving.gather_without.Goals.{After-loop-i, After-place_of-at, After-take_out, then-at-left, else-at-left}

-- the ith point is in its bytes, without the coordinate
module _ (c : After-take_out) where
  taken : Taken c.args.m c.args.k c.args.n c.args.states.now c.args.times.now c.loop-i.i
  taken = record {
    low = c.requires.k_lt_m.0;
    wide = c.requires.k_lt_m.1;
    most = c.requires.k_lt_m.2;
    more = omega (arith, length-take-le c.args.n c.args.times.now c.requires.n_in_bounds.1);
    table = c.requires.n_in_bounds.0;
    bytes = c.requires.n_in_bounds.1;
  }

  -- the ith of the first n counts
  counted : get_or (take c.args.n c.args.times.now) c.loop-i.i 0 ≡ get_or c.args.times.now c.loop-i.i 0
  counted = get_or-take c.args.n c.args.times.now c.loop-i.i 0 taken.more

  abbrev P : List ℕ
  P = removed_at c.args.k (take c.args.m (drop (8 * c.loop-i.i) c.args.states.now))

  filled : c.take_out.new.to ≡ fill 8 P
  filled = c.take_out.ensures ∙ point_out c.args.m c.args.k (8 * c.loop-i.i) c.args.states.now taken.low taken.wide (omega (arith, taken.wide, taken.more, taken.table))

-- its place is found
module _ (c : After-place_of-at) where
  abbrev o : After-take_out
  o = (goal.at.After-place_of-at c).After-take_out

  place : c.place_of-at.result ≡ place_in (fill 8 (P o)) (groups 8 c.loop-i.left c.loop-i.points)
  place = c.place_of-at.ensures ∙ ap (λ (Q : List ℕ). place_in Q (groups 8 c.loop-i.left c.loop-i.points)) (filled o)

  within : c.place_of-at.result ≤ c.loop-i.left
  within = inside c.args.m c.args.k c.args.n c.args.states.now c.args.times.now c.loop-i.invariant (taken o) place

-- all are gathered
ended : (c : After-loop-i) → c.args.n ≤ c.loop-i.i
ended c = omega (arith, length-take-le c.args.n c.args.times.now c.requires.n_in_bounds.1)

pub loop-i-init : goal.loop-i-init
loop-i-init c = before_first c.args.m c.args.k c.args.n c.args.states.now c.args.times.now c.requires.n_in_bounds.2 c.requires.points_value.0 c.requires.points_value.1

pub place_of-at-requires-clause-n_in_bounds : goal.place_of-at-requires-clause-n_in_bounds
place_of-at-requires-clause-n_in_bounds c = omega (arith, (holds_sizes c.loop-i.invariant.holds).0, c.loop-i.invariant.holds.few)

pub raise-requires : goal.raise-requires
raise-requires c = let f = (goal.at.raise-requires c).After-place_of-at in
    omega (arith, within f, (taken (o f)).more, (taken (o f)).most, c.loop-i.invariant.few, (holds_sizes c.loop-i.invariant.holds).1)

pub returns-in_err-raise-clause-refusal_value : goal.returns-in_err-raise-clause-refusal_value
unfolding refusal_of
returns-in_err-raise-clause-refusal_value c =
    let f = (goal.at.returns-in_err-raise-clause-refusal_value c).After-place_of-at in
    let told : refusal_of c.from_residual.result ≡ number_of c.in_err-raise.field-0.0 = search rules in
    let full = c.in_err-raise.ensures.refusal_value in
    told ∙ refused_sum c.args.m c.args.k c.args.n c.args.states.now c.args.times.now c.loop-i.invariant (taken (o f)) (place f) c.in_err-raise.field-0.0 (rw (counted (o f)) at full)

pub overflow_mul-place : goal.overflow_mul-place
overflow_mul-place c = omega arith

pub overflow_add-place : goal.overflow_add-place
overflow_add-place c = omega arith

pub slice_bounds-copy-end-then-at-left : goal.slice_bounds-copy-end-then-at-left
slice_bounds-copy-end-then-at-left c = let t = taken (o (goal.at.slice_bounds-copy-end-then-at-left c).After-place_of-at) in
    omega (arith, t.more, t.most, c.loop-i.invariant.few, (holds_sizes c.loop-i.invariant.holds).0)

pub loop-i-preserved : goal.loop-i-preserved
unfolding refusal_of
loop-i-preserved c =
    let f = (goal.at.loop-i-preserved c).After-place_of-at in
    let a = c.args in
    let left = c.loop-i.left in
    let low = c.in_ok-raise.ensures.refusal_value in
    let raised = c.in_ok-raise.ensures.counts_after refl in
    before_next a.m a.k a.n a.states.now a.times.now c.loop-i.invariant (taken (o f)) (place f) (rw (counted (o f)) at low) (rw (counted (o f)) at raised) c.if-at-left.left
    (elim c.if-at-left.branch [
      | then-at-left w ↦ inl (
        w.if-at-left.true,
        w.left-is,
        w.points-is
            ∙ put_place 8 left (8 * left + 8 - 8 * left) c.take_out.new.to c.loop-i.points (add-sub_cancel_left (8 * left) 8) w.copy.ensures
            ∙ ap (λ (Q : List ℕ). with_place 8 left Q c.loop-i.points) (filled (o f)),
      )
      | else-at-left w ↦ inr (w.if-at-left.false, w.left-is, w.points-is)
    ])

pub returns-clause-refusal_value : goal.returns-clause-refusal_value
unfolding refusal_of
returns-clause-refusal_value c = none_refused c.args.m c.args.k c.args.n c.args.states.now c.args.times.now c.loop-i.invariant (ended c)

pub returns-clause-tabled_as : goal.returns-clause-tabled_as
returns-clause-tabled_as c = λ n e. let same : n ≡ c.loop-i.left = cc in rw same (all_tabled c.args.m c.args.k c.args.n c.args.states.now c.args.times.now c.loop-i.invariant (ended c))
