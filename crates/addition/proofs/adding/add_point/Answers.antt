-- `adding::add_point` meets its contract: it is refused as the look or the room says, or a count is raised, or the tables are written.
use mathlib.Core.Path.{◌≡◌, sym, ◌∙◌}
use native.Mathlib.Omega.{arith}
use Rattle.std.proofs.lemmas.Result.{err_from_is_err_and}
use Rattle.specification.specs.Answers.{number_of, refusal_of}
use Rattle.specification.specs.Lent.{lent_mut}
use Rattle.specification.specs.Tables.{Tables}
use Rattle.specification.specs.Adding.{add_refusal, add_outcome}
use Rattle.specification.proofs.agreement.Refusals.{large_of}
use Rattle.recognition.specs.Naming.{naming_refusal}
use Rattle.recognition.proofs.settings.ByNumber.{number_above_0, alone, when_refused}
use Rattle.recognition.proofs.naming.PointAtHand.{opened, AtHand, at_hand}
use Rattle.addition.proofs.adding.Addition.{place, told_before, told_room, none_before, Raised, raised, Ready, ready}
use Rattle.addition.proofs.adding.add_point.Goals as goal
use Rattle.addition.proofs.adding.add_point.Goals.{In_ok-place, In_ok-check_room, Else-place-n, Start, Then-place-n}

-- the lent tables
abbrev tables : Start → Tables
tables s = lent_mut s.args.tables

-- the point is found, or it is new
module _ (e : In_ok-place) where
  abbrev s : Start
  s = (goal.at.In_ok-place e).Start

  before : naming_refusal s.args.settings s.args.n s.args.r (tables s) s.args.levels.now ≡ 0
  unfolding refusal_of
  before = sym e.in_ok-place.ensures.refusal

  placed : e.in_ok-place.place ≡ place s.args.settings s.args.n s.args.r (tables s) s.args.levels.now
  placed = (at_hand s.args.settings s.args.n s.args.r (tables s) s.args.levels.now before e.in_ok-place.ensures).placed

-- nothing refuses
module _ (f : In_ok-check_room) where
  abbrev e : In_ok-place
  e = (goal.at.In_ok-check_room f).In_ok-place

  abbrev y : Start
  y = s e

  none : add_refusal y.args.settings y.args.n y.args.r (tables y) y.args.levels.now ≡ 0
  unfolding refusal_of
  none = sym (told_room y.args.settings y.args.n y.args.r (tables y) y.args.levels.now (before e) (placed e) f.in_ok-check_room.ensures)

  hand : AtHand y.args.settings y.args.n y.args.r (tables y) y.args.levels.now (none_before y.args.settings y.args.n y.args.r (tables y) y.args.levels.now none)
      e.in_ok-place.place e.locate.new.points e.locate.new.rows e.locate.new.pivots e.locate.new.point
  hand = at_hand y.args.settings y.args.n y.args.r (tables y) y.args.levels.now (none_before y.args.settings y.args.n y.args.r (tables y) y.args.levels.now none) e.in_ok-place.ensures

-- the point is there
raise : (g : Then-place-n) → let f = (goal.at.Then-place-n g).In_ok-check_room in let y = y f in
    Raised y.args.settings y.args.n y.args.r (tables y) y.args.levels.now g.in_ok-place.place
raise g =
    let f = (goal.at.Then-place-n g).In_ok-check_room in
    let y = y f in
    raised y.args.settings y.args.n y.args.r (tables y) y.args.levels.now (none f) g.in_ok-place.place (hand f).placed g.if-place-n.true

-- the point is new
handed : (g : Else-place-n) → let f = (goal.at.Else-place-n g).In_ok-check_room in let y = y f in
    Ready y.args.settings y.args.n y.args.r (tables y) y.args.levels.now g.locate.new.points g.locate.new.rows g.locate.new.pivots g.locate.new.point
handed g =
    let f = (goal.at.Else-place-n g).In_ok-check_room in
    let y = y f in
    ready y.args.settings y.args.n y.args.r (tables y) y.args.levels.now (none f) g.if-place-n.false (hand f)

pub returns-in_err-place : goal.returns-in_err-place
unfolding refusal_of add_outcome
returns-in_err-place c =
    let p = err_from_is_err_and c.from_residual.result c.from_residual.ensures.1 in
    let r = c.in_err-place.field-0.0 in
    let s = (goal.at.returns-in_err-place c).Start in
    rw (p.1, p.2) (alone r (tables s) ∙ when_refused (tables s) _ _ (number_of r)
    (told_before s.args.settings s.args.n s.args.r (tables s) s.args.levels.now r c.in_err-place.ensures.refusal) (number_above_0 r))

pub check_room-requires : goal.check_room-requires
check_room-requires c =
    let o = opened (s c).args.settings (s c).args.n (s c).args.r (tables (s c)) (s c).args.levels.now (before c) in
    omega (arith, o.few, (large_of (tables (s c)) o.long_tables).counts)

pub returns-in_err-check_room : goal.returns-in_err-check_room
unfolding refusal_of add_outcome
returns-in_err-check_room c =
    let p = err_from_is_err_and c.from_residual-in_err-check_room.result c.from_residual-in_err-check_room.ensures.1 in
    let r = c.in_err-check_room.field-0.0 in
    let e = (goal.at.returns-in_err-check_room c).In_ok-place in
    let s = s e in
    rw (p.1, p.2) (alone r (tables s) ∙ when_refused (tables s) _ _ (number_of r)
    (told_room s.args.settings s.args.n s.args.r (tables s) s.args.levels.now (before e) (placed e) c.in_err-check_room.ensures) (number_above_0 r))

pub raise-requires : goal.raise-requires
raise-requires c =
    let y = raise (goal.at.raise-requires c).Then-place-n in
    record { n_bound = (y.few_points, y.few_rows); place_in_bounds = (y.inside, y.room) }

pub returns-then-place-n : goal.returns-then-place-n
returns-then-place-n c = (raise (goal.at.returns-then-place-n c).Then-place-n).outcome c.raise.ensures.value c.raise.ensures.counts_after

pub add_accepted-requires : goal.add_accepted-requires
add_accepted-requires c =
    let y = handed (goal.at.add_accepted-requires c).Else-place-n in
    record { points_given = y.given; counts_value = y.long; drawn_up = y.drawn; n_bound = (y.room, y.counts); new_point = y.new_point }

pub returns : goal.returns
returns c = c.add_accepted.ensures ∙ (handed (goal.at.returns c).Else-place-n).outcome
