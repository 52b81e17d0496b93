-- `moves::gather_moves` meets its contract: the moves of the first i records are gathered, and none of them has a state of another successor.
use mathlib.Core.Path.{◌≡◌, sym, ap, ◌∙◌}
use mathlib.Core.Bool.{true}
use mathlib.Core.List.{List}
use Prim.Native.Nat.{◌+◌, ◌*◌, ◌-◌, ◌<◌, ◌≤◌}
use native.Mathlib.Omega.{arith}
use lib.ListN.{length, take, drop}
use borrow.Author.Tests.{not-true, not-false}
use Rattle.std.specs.Prelude.{Err}
use Rattle.specification.specs.Answers.{number_of}
use Rattle.specification.specs.declared.refusals.Fault.{Fault}
use Rattle.residue.proofs.Replaced.{part_long, zeros_long}
use Rattle.points.proofs.gathering.Gathering.{holds_sizes}
use Rattle.courses.specs.TimeCourse.{Timed}
use Rattle.courses.specs.Records.{HeldIn}
use Rattle.courses.specs.Moves.{moves_before, gathered_of}
use Rattle.courses.proofs.moves.SmallRecords.{lt_le, next_le, one_less, fits_64, not_64}
use Rattle.courses.proofs.moves.HeldRecords.{timed_in, timed_many, timed_held}
use Rattle.courses.proofs.moves.MovesBefore.{before_at}
use Rattle.courses.proofs.moves.OtherRecords.{next_inside}
use Rattle.courses.proofs.moves.MovesGathered.{Gathering, once_there}
use Rattle.courses.proofs.moves.RecordTurns.{none_yet, ends_often, ends_well, turn_alone, turn_place, turn_kept, turn_full, turn_other, turn_on}
use Rattle.courses.proofs.moves.gather_moves.Goals as goal
use Rattle.courses.proofs.moves.gather_moves.Goals.{After-enter-met, After-keep_first-kept, After-struct_known-1, After-struct_known-in-loop-i-1, At-loop-i, Else-met-eq64, Else-not-has_next, Start}

abbrev start : At-loop-i → Start
start l = (goal.at.At-loop-i l).Start

abbrev head : Else-not-has_next → At-loop-i
head w = (goal.at.Else-not-has_next w).At-loop-i

abbrev within : After-enter-met → Else-not-has_next
within e = (goal.at.After-enter-met e).Else-not-has_next

abbrev entered : After-struct_known-1 → After-enter-met
entered k = (goal.at.After-struct_known-1 k).After-enter-met

abbrev kept : After-struct_known-in-loop-i-1 → After-keep_first-kept
kept c = (goal.at.After-struct_known-in-loop-i-1 c).After-keep_first-kept

abbrev had_room : After-keep_first-kept → Else-met-eq64
had_room k = (goal.at.After-keep_first-kept k).Else-met-eq64

-- The tables begin with records of 8 numbers: so there is room for them, and what was entered is asked of these.
module _ (s : Start) where
  room_records : 8 * s.args.count ≤ length s.args.records.now
  room_records = omega (arith, s.requires.count_le_most_records.0, s.requires.count_le_most_records.1)

  room_numbers : s.args.count ≤ length s.args.numbers.now
  room_numbers = omega (arith, s.requires.count_le_most_records.0, s.requires.count_le_most_records.2)

  abbrev full : List Timed
  full = timed_in s.args.count s.args.records.now s.args.numbers.now

  full_held : HeldIn 8 full s.args.records.now s.args.numbers.now
  full_held = timed_held _ _ _ room_records room_numbers

  full_many : length full ≡ s.args.count
  full_many = timed_many _ _ _ room_records room_numbers

module _ (l : At-loop-i) where
  gathering : Gathering 8 (moves_before l.loop-i.i (full (start l))) (length (full (start l))) (start l).args.records.now l.loop-i.n l.loop-i.often
      l.loop-i.points l.loop-i.counts l.loop-i.firsts l.loop-i.hints
  gathering = l.loop-i.invariant.1 8 (full (start l)) (full_held (start l)) (full_many (start l))

  -- the others keep their lengths
  same_points : length l.loop-i.points ≡ length (start l).args.points.now
  same_points = (holds_sizes gathering.holds).0 ∙ sym (zeros_long (start l).args.points.now 512 (start l).requires.points_value.0)

  same_counts : length l.loop-i.counts ≡ length (start l).args.counts.now
  same_counts = (holds_sizes gathering.holds).1 ∙ sym (zeros_long (start l).args.counts.now 64 (start l).requires.points_value.1)

  same_firsts : length l.loop-i.firsts ≡ length (start l).args.firsts.now
  same_firsts = gathering.sized ∙ sym (start l).requires.points_value.2

-- a record that has a successor
module _ (w : Else-not-has_next) where
  has : w.has_next.result ≡ true
  has = w.if-not-has_next.false

  small : (head w).loop-i.i + 1 < (start (head w)).args.count
  small = next_inside (head w).loop-i.i (start (head w)).args.count (start (head w)).args.numbers.now (sym w.has_next.ensures ∙ has)

  small_bytes : 8 * (head w).loop-i.i + 8 ≤ length (start (head w)).args.records.now
  small_bytes = omega (arith, small, room_records (start (head w)))

  state_eight : length (take (8 * (head w).loop-i.i + 8 - 8 * (head w).loop-i.i) (drop (8 * (head w).loop-i.i) (start (head w)).args.records.now)) ≡ 8
  state_eight =
      let i = (head w).loop-i.i in
      part_long (8 * i) (8 * i + 8 - 8 * i) 8 (start (head w)).args.records.now (omega arith) small_bytes

pub loop-i-init : goal.loop-i-init
loop-i-init c = let s = c in
    (omega arith, λ m l h e. none_yet h e s.requires.points_value.0 s.requires.points_value.1 s.requires.points_value.2)

pub has_next-requires : goal.has_next-requires
has_next-requires c = (c.loop-i-test.true, room_numbers (start (goal.at.has_next-requires c).At-loop-i))

-- A record without a successor.
pub overflow_step-i : goal.overflow_step-i
overflow_step-i c = record { fits = fits_64 c.loop-i-test.true (start (goal.at.overflow_step-i c).At-loop-i).requires.count_le_most_records.0 }

pub loop-i-smaller-then-not-has_next : goal.loop-i-smaller-then-not-has_next
loop-i-smaller-then-not-has_next c = one_less c.loop-i-test.true

pub loop-i-preserved-then-not-has_next : goal.loop-i-preserved-then-not-has_next
loop-i-preserved-then-not-has_next c = let l = c in (
  next_le c.loop-i-test.true,
  λ m k h e. turn_alone h e l.loop-i.i (l.loop-i.invariant.1 m k h e) c.has_next.ensures
      (c.if-not-has_next.true),
)

pub overflow_mul-from : goal.overflow_mul-from
overflow_mul-from c = let h = small_bytes (goal.at.overflow_mul-from c).Else-not-has_next in omega arith

pub overflow_add-state : goal.overflow_add-state
overflow_add-state c = let h = small_bytes (goal.at.overflow_add-state c).Else-not-has_next in omega arith

pub slice_bounds-state-start : goal.slice_bounds-state-start
slice_bounds-state-start c = let h = small_bytes (goal.at.slice_bounds-state-start c).Else-not-has_next in omega arith

pub slice_bounds-state-end : goal.slice_bounds-state-end
slice_bounds-state-end c = let h = small_bytes (goal.at.slice_bounds-state-end c).Else-not-has_next in omega arith

pub slice_bounds-enter-end : goal.slice_bounds-enter-end
slice_bounds-enter-end c = sym (gathering (head (goal.at.slice_bounds-enter-end c).Else-not-has_next)).hinted.long

pub key-requires : goal.key-requires
key-requires c = state_eight (goal.at.key-requires c).Else-not-has_next

pub enter-met-requires : goal.enter-met-requires
enter-met-requires c = let w = c in
    let g = gathering (head (goal.at.enter-met-requires w).Else-not-has_next) in record { n_bound = (g.holds.few, c.key.ensures); points_len = ((holds_sizes g.holds).0, (holds_sizes g.holds).1, state_eight (goal.at.enter-met-requires w).Else-not-has_next); t = (once_there (omega arith) (before_at _ _) g, g.hinted) }

-- The 65th point.
pub too_many-requires : goal.too_many-requires
too_many-requires c = let w = within (entered (goal.at.too_many-requires c).After-struct_known-1) in
    let s = start (head w) in
    (w.loop-i-test.true, s.requires.count_le_most_records.0, room_numbers s, room_records s)

pub shape_of-points-then-met-eq64 : goal.shape_of-points-then-met-eq64
shape_of-points-then-met-eq64 c = let e = entered (goal.at.shape_of-points-then-met-eq64 c).After-struct_known-1 in e.enter-met.auto.points ∙ same_points (head (within e))

pub shape_of-counts-then-met-eq64 : goal.shape_of-counts-then-met-eq64
shape_of-counts-then-met-eq64 c = let e = entered (goal.at.shape_of-counts-then-met-eq64 c).After-struct_known-1 in e.enter-met.auto.counts ∙ same_counts (head (within e))

pub shape_of-firsts-then-met-eq64 : goal.shape_of-firsts-then-met-eq64
shape_of-firsts-then-met-eq64 c = same_firsts (head (within (entered (goal.at.shape_of-firsts-then-met-eq64 c).After-struct_known-1)))

pub returns-then-met-eq64 : goal.returns-then-met-eq64
returns-then-met-eq64 c = let e = entered (goal.at.returns-then-met-eq64 c).After-struct_known-1 in
    let w = within e in
    λ m l h q.
    turn_full h q (head w).loop-i.i ((head w).loop-i.invariant.1 m l h q) w.has_next.ensures (has w) e.enter-met.ensures c.if-met-eq64.true
    (c.too_many.ensures m l h q) _ _ _

-- Another successor.
pub keep_first-kept-requires : goal.keep_first-kept-requires
keep_first-kept-requires c = let e = entered (goal.at.keep_first-kept-requires c).After-struct_known-1 in
    let w = within e in
    let s = start (head w) in
    let g = gathering (head w) in
    let at = turn_place (full_held s) (full_many s) (head w).loop-i.i g w.has_next.ensures (has w) e.enter-met.ensures in
    let first = turn_kept (full_held s) (full_many s) (head w).loop-i.i g w.has_next.ensures (has w) e.enter-met.ensures in record { at_bound = (not_64 at g.holds.few c.if-met-eq64.false, at, g.holds.few, lt_le (small w) s.requires.count_le_most_records.0, g.sized); records_len = (s.requires.count_le_most_records.1, λ l. lt_le (first l) s.requires.count_le_most_records.0) }

pub at_record-requires : goal.at_record-requires
at_record-requires c = let w = within (entered (goal.at.Else-met-eq64 (had_room (kept (goal.at.at_record-requires c).After-struct_known-in-loop-i-1))).After-struct_known-1) in
    lt_le w.loop-i-test.true (start (head w)).requires.count_le_most_records.0

pub shape_of-points-then-not-kept : goal.shape_of-points-then-not-kept
shape_of-points-then-not-kept c = let e = entered (goal.at.Else-met-eq64 (had_room (kept (goal.at.shape_of-points-then-not-kept c).After-struct_known-in-loop-i-1))).After-struct_known-1 in e.enter-met.auto.points ∙ same_points (head (within e))

pub shape_of-counts-then-not-kept : goal.shape_of-counts-then-not-kept
shape_of-counts-then-not-kept c = let e = entered (goal.at.Else-met-eq64 (had_room (kept (goal.at.shape_of-counts-then-not-kept c).After-struct_known-in-loop-i-1))).After-struct_known-1 in e.enter-met.auto.counts ∙ same_counts (head (within e))

pub shape_of-firsts-then-not-kept : goal.shape_of-firsts-then-not-kept
shape_of-firsts-then-not-kept c = let k = kept (goal.at.shape_of-firsts-then-not-kept c).After-struct_known-in-loop-i-1 in k.keep_first-kept.auto.firsts ∙ same_firsts (head (within (entered (goal.at.Else-met-eq64 (had_room k)).After-struct_known-1)))

pub returns-then-not-kept : goal.returns-then-not-kept
unfolding gathered_of number_of
returns-then-not-kept c = let k = kept (goal.at.returns-then-not-kept c).After-struct_known-in-loop-i-1 in
    let e = entered (goal.at.Else-met-eq64 (had_room k)).After-struct_known-1 in
    let w = within e in
    λ m l h q.
    turn_other h q (head w).loop-i.i ((head w).loop-i.invariant.1 m l h q) w.has_next.ensures (has w) e.enter-met.ensures k.keep_first-kept.ensures.fact_2
    (not-true _ c.if-not-kept.true) (ap (λ (f : Fault). gathered_of (Err f)) c.at_record.ensures) _ _ _

-- Any other record.
pub first_record-often-requires : goal.first_record-often-requires
first_record-often-requires c = let w = within (entered (goal.at.Else-met-eq64 (had_room (kept (goal.at.first_record-often-requires c).After-struct_known-in-loop-i-1))).After-struct_known-1) in
    lt_le w.loop-i-test.true (start (head w)).requires.count_le_most_records.0

pub overflow_step-i-in-loop-i : goal.overflow_step-i-in-loop-i
overflow_step-i-in-loop-i c = let w = within (entered (goal.at.Else-met-eq64 (had_room (kept (goal.at.overflow_step-i-in-loop-i c).After-struct_known-in-loop-i-1))).After-struct_known-1) in
    record { fits = fits_64 w.loop-i-test.true (start (head w)).requires.count_le_most_records.0 }

pub loop-i-smaller : goal.loop-i-smaller
loop-i-smaller c = one_less (within (entered (goal.at.Else-met-eq64 (had_room (kept (goal.at.loop-i-smaller c).After-struct_known-in-loop-i-1))).After-struct_known-1)).loop-i-test.true

pub loop-i-preserved : goal.loop-i-preserved
loop-i-preserved c = let k = kept (goal.at.loop-i-preserved c).After-struct_known-in-loop-i-1 in
    let e = entered (goal.at.Else-met-eq64 (had_room k)).After-struct_known-1 in
    let w = within e in (
      next_le w.loop-i-test.true,
      λ m l h q.
          turn_on h q (head w).loop-i.i ((head w).loop-i.invariant.1 m l h q) w.has_next.ensures (has w) e.enter-met.ensures k.keep_first-kept.ensures.fact_2
          (had_room k).if-met-eq64.false (not-false _ c.if-not-kept.false) k.keep_first-kept.ensures.fact_1 k.keep_first-kept.ensures.fact_3 c.first_record-often.ensures,
    )

-- All records.
pub shape_of-points-then-often-ne0 : goal.shape_of-points-then-often-ne0
shape_of-points-then-often-ne0 c = same_points (goal.at.shape_of-points-then-often-ne0 c).At-loop-i

pub shape_of-counts-then-often-ne0 : goal.shape_of-counts-then-often-ne0
shape_of-counts-then-often-ne0 c = same_counts (goal.at.shape_of-counts-then-often-ne0 c).At-loop-i

pub shape_of-firsts-then-often-ne0 : goal.shape_of-firsts-then-often-ne0
shape_of-firsts-then-often-ne0 c = same_firsts (goal.at.shape_of-firsts-then-often-ne0 c).At-loop-i

pub returns-then-often-ne0 : goal.returns-then-often-ne0
unfolding gathered_of number_of
returns-then-often-ne0 c = let l = c in
    λ m k h e. ends_often h e l.loop-i.i (l.loop-i.invariant.1 m k h e) c.loop-i-test.false c.if-often-ne0.true

pub shape_of-points : goal.shape_of-points
shape_of-points c = same_points (goal.at.shape_of-points c).At-loop-i

pub shape_of-counts : goal.shape_of-counts
shape_of-counts c = same_counts (goal.at.shape_of-counts c).At-loop-i

pub shape_of-firsts : goal.shape_of-firsts
shape_of-firsts c = same_firsts (goal.at.shape_of-firsts c).At-loop-i

pub returns : goal.returns
unfolding gathered_of
returns c = let l = c in
    λ m k h e. ends_well h e l.loop-i.i (l.loop-i.invariant.1 m k h e) c.loop-i-test.false c.if-often-ne0.false
