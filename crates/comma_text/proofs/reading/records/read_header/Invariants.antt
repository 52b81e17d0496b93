-- `records::read_header` meets its contract. The header from `at` on, behind the names so far, is the whole one; each name takes a byte.
use mathlib.Core.Path.{◌≡◌}
use Prim.Native.Nat.{◌-◌, ◌≤◌}
use lib.ListN.{length, drop}
use Rattle.comma_text.specs.reading.Records.{header_part}
use Rattle.comma_text.proofs.reading.records.HeaderFields.{headed}
use Rattle.comma_text.proofs.reading.records.read_header.Given as goal

abbrev pub invariant-loop-from : goal.invariant-loop-from
invariant-loop-from l = record {
  within : l.at ≤ length l.text;
  few : l.variables ≤ l.at;
  whole : headed l.variables (drop l.at l.text) ≡ header_part l.text;
  kept : l.weights ≡ l.initial.weights;
}

abbrev pub decreases-loop-from : goal.decreases-loop-from
decreases-loop-from l = length l.text - l.at
