-- `gathering::gather_entries` meets its contract. The first i entries are in range, and gathered up to the 65th point; those behind them are to be read from
-- `from` on.
use mathlib.Core.Path.{◌≡◌, refl, ap, ◌∙◌}
use mathlib.Core.Bool.{Bool, not, not-not}
use mathlib.Core.List.{List}
use Prim.Native.Nat.{◌+◌}
use native.Mathlib.Numerals.{add-one}
use native.Mathlib.Omega.{arith}
use lib.IntN.{ℤ}
use lib.ListN.{take, drop}
use Rattle.std.specs.Prelude.{Err}
use borrow.Author.Tests.{not-true, not-false}
use Rattle.residue.specs.Lists.{key_of}
use Rattle.specification.specs.Answers.{number_of}
use Rattle.specification.specs.declared.refusals.Fault.{Fault}
use Rattle.points.proofs.gathering.Gathering.{holds_sizes}
use Rattle.comma_text.specs.reading.Answers.{gathered_of}
use Rattle.comma_text.specs.reading.Text.{first_fault, is_outside}
use Rattle.comma_text.specs.reading.Points.{levels_at, place_of, earlier_place}
use Rattle.comma_text.proofs.reading.entries.EntriesRead.{ReadOn, begun, entry_there, read_on}
use Rattle.comma_text.proofs.reading.entries.EntriesInside.{inside_on, outside_here, all_inside, range_said}
use Rattle.comma_text.proofs.reading.gathering.Places.{is_found, none_found, earlier, place_here}
use Rattle.comma_text.proofs.reading.gathering.EntriesGathered.{Gathering, once_there, values_long}
use Rattle.comma_text.proofs.reading.gathering.AllGathered.{first, outside_refused, keyed, none_turned, going, turned_full, full_turn, place_below, next_turn, all_gathered, places_within}
use Rattle.comma_text.proofs.reading.gathering.gather_entries.Goals as goal
use Rattle.comma_text.proofs.reading.gathering.gather_entries.Goals.{After-fill_entry-entry, Else-is_some, Else-not-entry}

-- The place: an entry was read. Where the reading goes on, and the key of its point.
module _ (c : After-fill_entry-entry) where
  abbrev entries : List (List ℤ)
  entries = levels_at c.args.variables (drop c.args.at c.args.text.now)

  on : ReadOn c.args.variables c.args.entries c.args.text.now entries c.fill_entry-entry.result.next (c.loop-i.i + 1)
  on = read_on entries c.loop-i.invariant.0 c.loop-i-test.true c.fill_entry-entry.ensures.fact_1

  own : c.fill_entry-entry.result.key ≡ key_of 8 c.fill_entry-entry.new.row
  own = keyed _ _ entries c.loop-i.invariant.0 c.requires.at_in_bounds.2 c.loop-i-test.true c.fill_entry-entry.ensures.fact_1 c.fill_entry-entry.ensures.fact_2

-- The place: it is in range, like those before it.
abbrev read : Else-not-entry → After-fill_entry-entry
read c = (goal.at.Else-not-entry c).After-fill_entry-entry

none_outside : (c : Else-not-entry) → first_fault (is_outside c.args.p) (take (c.loop-i.i + 1) (entries (read c))) ≡ 0
none_outside c =
    let S = entries (read c) in
    inside_on _ S c.loop-i.invariant.0 c.loop-i-test.true c.loop-i.invariant.2 c.fill_entry-entry.result.inside (range_said S c.loop-i.invariant.0 c.loop-i-test.true c.fill_entry-entry.ensures.fact_1) (not-false _ c.if-not-entry.false)

-- The place: there is room. What is gathered before the entry is entered.
module _ (c : Else-is_some) where
  abbrev ranged : Else-not-entry
  ranged = (goal.at.Else-is_some c).Else-not-entry

  room : place_of c.loop-i.full ≡ 0
  room = none_found c.loop-i.full c.is_some.ensures c.if-is_some.false

  gathering : Gathering c.args.variables (first c.args.p c.args.variables (entries (read ranged)) c.loop-i.i) c.loop-i.n (place_of c.loop-i.often) (place_of c.loop-i.other) c.loop-i.points c.loop-i.counts c.loop-i.values
  gathering = going _ _ (entries (read ranged)) c.loop-i.invariant.1 room

pub loop-i-init : goal.loop-i-init
unfolding first_fault place_of
loop-i-init c = let r = c.requires in
    (begun _ _ _ _ r.at_in_bounds.0 r.text_value, none_turned _ _ _ r.points_value.0 r.points_value.1 r.points_value.2, refl)

pub fill_entry-entry-requires-clause-fact : goal.fill_entry-entry-requires-clause-fact
fill_entry-entry-requires-clause-fact c = entry_there (levels_at c.args.variables (drop c.args.at c.args.text.now)) c.loop-i.invariant.0 c.loop-i-test.true

pub returns-then-not-entry : goal.returns-then-not-entry
unfolding gathered_of number_of
returns-then-not-entry c =
    let S = levels_at c.args.variables (drop c.args.at c.args.text.now) in
    outside_refused _ _ S (omega arith) (outside_here _ S c.loop-i.invariant.0 c.loop-i-test.true c.loop-i.invariant.2 c.fill_entry-entry.result.inside (range_said S c.loop-i.invariant.0 c.loop-i-test.true c.fill_entry-entry.ensures.fact_1) (not-true _ c.if-not-entry.true))
    _ (rw (add-one c.loop-i.i) (ap (λ (x : Fault). gathered_of (Err x)) c.at_entry.ensures)) _ _ _

-- Behind the 65th point.
pub loop-i-preserved-then-is_some : goal.loop-i-preserved-then-is_some
loop-i-preserved-then-is_some c = let k = (goal.at.loop-i-preserved-then-is_some c).Else-not-entry in
    let S = entries (read k) in
    (on (read k), turned_full _ _ S c.loop-i.invariant.1 (is_found c.loop-i.full c.is_some.ensures c.if-is_some.true), none_outside k)

pub enter-met-requires-clause-n_bound : goal.enter-met-requires-clause-n_bound
enter-met-requires-clause-n_bound c = let k = (goal.at.enter-met-requires-clause-n_bound c).Else-is_some in ((gathering k).holds.few, own (read (ranged k)))

pub enter-met-requires-clause-points_len : goal.enter-met-requires-clause-points_len
enter-met-requires-clause-points_len c = let g = gathering (goal.at.enter-met-requires-clause-points_len c).Else-is_some in
    ((holds_sizes g.holds).0, (holds_sizes g.holds).1, c.fill_entry-entry.auto.row)

pub enter-met-requires-clause-t : goal.enter-met-requires-clause-t
enter-met-requires-clause-t c = let k = (goal.at.enter-met-requires-clause-t c).Else-is_some in
    (once_there (gathering k) c.requires.at_in_bounds.2, c.loop-i.invariant.1.hinted (room k))

-- The 65th point.
pub loop-i-preserved-then-met-eq64 : goal.loop-i-preserved-then-met-eq64
loop-i-preserved-then-met-eq64 c = let k = (goal.at.loop-i-preserved-then-met-eq64 c).Else-is_some in
    let w = ranged k in (
      on (read w),
      rw (place_here c.loop-i.i) (full_turn _ _ (entries (read w)) c.loop-i.invariant.0 c.requires.at_in_bounds.2 c.loop-i-test.true c.fill_entry-entry.ensures.fact_1 c.fill_entry-entry.ensures.fact_2 (gathering k) c.enter-met.ensures c.if-met-eq64.true),
      none_outside w,
    )

-- Any other.
pub keep_value-kept-requires : goal.keep_value-kept-requires
keep_value-kept-requires c = let k = (goal.at.keep_value-kept-requires c).Else-is_some in
    let g = gathering k in
    (place_below _ _ (entries (read (ranged k))) c.loop-i.invariant.0 c.requires.at_in_bounds.2 c.loop-i-test.true c.fill_entry-entry.ensures.fact_1 c.fill_entry-entry.ensures.fact_2 g c.enter-met.ensures c.if-met-eq64.false, g.holds.few, values_long g)

pub loop-i-preserved : goal.loop-i-preserved
loop-i-preserved c = let k = (goal.at.loop-i-preserved c).Else-is_some in
    let w = ranged k in
    let kept = c.keep_value-kept.ensures in
    let often = earlier c.loop-i.often c.enter-met.result.over c.loop-i.i c.then_some.ensures c.or-often.ensures in
    let other = earlier c.loop-i.other (not c.keep_value-kept.result.same) c.loop-i.i c.then_some-in-loop-i.ensures c.or-other.ensures
    ∙ ap (λ (b : Bool). earlier_place (place_of c.loop-i.other) b (c.loop-i.i + 1)) (not-not c.keep_value-kept.result.same) in (
      on (read w),
      next_turn _ _ (entries (read w)) c.loop-i.invariant.0 c.requires.at_in_bounds.2 c.loop-i-test.true c.fill_entry-entry.ensures.fact_1 c.fill_entry-entry.ensures.fact_2 (gathering k) c.enter-met.ensures
          c.if-met-eq64.false kept.fact_1 kept.fact_2 kept.fact_3 often other (room k) (c.loop-i.invariant.1.hinted (room k)),
      none_outside w,
    )

pub decided-requires : goal.decided-requires
decided-requires c =
    let m = places_within _ _ (levels_at c.args.variables (drop c.args.at c.args.text.now)) c.loop-i.invariant.1 in
    let r = c.loop-i.invariant.0.count in
    (c.loop-i.invariant.1.gathering.holds.few, omega arith, omega arith, omega arith)

pub returns : goal.returns
returns c =
    let S = levels_at c.args.variables (drop c.args.at c.args.text.now) in
    let h = c.loop-i-test.false in
    all_gathered _ _ S c.loop-i.invariant.0 h c.loop-i.invariant.1 (all_inside _ S c.loop-i.invariant.0 h c.loop-i.invariant.2) (gathered_of c.decided.result) c.decided.ensures
