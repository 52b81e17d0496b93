-- `records::check_entries` meets its contract. The count goes on from `from`; each entry takes a byte, so there are no more of them than bytes.
use mathlib.Core.Path.{◌≡◌, refl, ap, ◌∙◌}
use Prim.Native.Nat.{◌+◌, ◌<◌}
use native.Mathlib.Omega.{arith}
use lib.ListN.{drop}
use Rattle.std.specs.Prelude.{Err}
use Rattle.comma_text.specs.reading.Records.{entries_at, entry_said, counted_entries}
use Rattle.comma_text.specs.declared.reading.records.Entry.{Entry}
use Rattle.specification.specs.declared.refusals.Fault.{Fault}
use Rattle.comma_text.proofs.reading.records.EntriesChecked.{next_entry, no_entry, no_more}
use Rattle.comma_text.proofs.reading.records.check_entries.Goals as goal
use Rattle.comma_text.proofs.reading.records.check_entries.Goals.{In-Ok}

-- The place: an entry was passed.
module _ (c : In-Ok) where
  abbrev entry : Entry
  entry = c.in-Ok.entry

  passed : (c.loop-from.from < entry.next)
      × (counted_entries (c.loop-from.n + 1) (entries_at c.args.variables (drop entry.next c.args.text.now))
      ≡ counted_entries c.loop-from.n (entries_at c.args.variables (drop c.loop-from.from c.args.text.now)))
  unfolding entry_said
  passed =
      next_entry c.args.text.now c.args.variables c.loop-from.from c.loop-from.n c.loop-from-test.true _ entry.next _
      c.in-Ok.ensures.within c.in-Ok.ensures.said

pub loop-from-init : goal.loop-from-init
loop-from-init c = (omega arith, omega arith, refl)

pub returns-in-Err : goal.returns-in-Err
unfolding entry_said
returns-in-Err c =
    ap (λ (f : Fault). Err f) c.fault_of_record.ensures
    ∙ no_entry c.args.text.now c.args.variables c.loop-from.from c.loop-from.n c.loop-from-test.true _ c.in-Err.ensures.said ∙ c.loop-from.invariant.2

pub loop-from-smaller : goal.loop-from-smaller
loop-from-smaller c = let h = (passed c).0 in omega arith

pub loop-from-preserved : goal.loop-from-preserved
loop-from-preserved c = let h = passed c in (c.in-Ok.ensures.within, omega arith, h.1 ∙ c.loop-from.invariant.2)

pub returns : goal.returns
returns c = no_more c.args.text.now c.args.variables c.loop-from.from c.loop-from.n c.loop-from-test.false ∙ c.loop-from.invariant.2
