-- `records::check_entries` meets its contract. The count goes on from `from`; each entry takes a byte, so there are no more of them than bytes.
use mathlib.Core.Path.{◌≡◌}
use Prim.Native.Nat.{◌-◌, ◌≤◌}
use lib.ListN.{length, drop}
use Rattle.comma_text.specs.reading.Records.{entries_at, counted_entries}
use Rattle.comma_text.proofs.reading.records.check_entries.Given as goal

abbrev pub invariant-loop-from : goal.invariant-loop-from
invariant-loop-from l = (l.from ≤ length l.text) × (l.n ≤ l.from) × (counted_entries l.n (entries_at l.variables (drop l.from l.text)) ≡ counted_entries 0 (entries_at l.variables (drop l.at l.text)))

abbrev pub decreases-loop-from : goal.decreases-loop-from
decreases-loop-from l = length l.text - l.from
