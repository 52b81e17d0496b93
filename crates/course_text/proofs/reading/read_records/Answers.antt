-- `reading::read_records` meets its contract. The first i records are in the tables; those behind them are to be read from `from` on.
use native.Mathlib.Omega.{arith}
use borrow.Author.Tests.{not-true, not-false}
use Rattle.comma_text.proofs.reading.entries.EntriesRead.{entry_there}
use Rattle.course_text.proofs.reading.RecordsRead.{none_read, records_long, numbers_long, all_recorded, outside_record, record_more}
use Rattle.course_text.proofs.reading.read_records.Goals as goal

pub loop-i-init : goal.loop-i-init
loop-i-init c = let r = c.requires in
    none_read _ _ _ _ _ r.at_in_bounds.2 r.at_in_bounds.0 r.at_in_bounds.1 r.text_value r.records_value.0 r.records_value.1

pub slice_bounds-read_record-end : goal.slice_bounds-read_record-end
slice_bounds-read_record-end c = omega (arith, c.loop-i.invariant.few, records_long _ c.loop-i.invariant)

pub read_record-timed-requires-clause-fact : goal.read_record-timed-requires-clause-fact
read_record-timed-requires-clause-fact c = entry_there _ c.loop-i.invariant.on c.loop-i-test.true

pub returns-then-not-timed : goal.returns-then-not-timed
returns-then-not-timed c = outside_record _ c.loop-i.invariant c.loop-i-test.true c.read_record-timed.ensures.fact_1 (not-true _ c.if-not-timed.true) _ _

pub bounds-numbers-i : goal.bounds-numbers-i
bounds-numbers-i c = omega (arith, numbers_long _ c.loop-i.invariant, c.loop-i.invariant.few)

pub loop-i-preserved : goal.loop-i-preserved
loop-i-preserved c =
    record_more _ c.loop-i.invariant c.loop-i-test.true c.read_record-timed.ensures.fact_1 c.requires.at_in_bounds.3 (not-false _ c.if-not-timed.false) _
    (omega arith) c.read_record-timed.ensures.fact_2

pub returns : goal.returns
returns c = all_recorded _ c.loop-i.invariant c.loop-i-test.false
