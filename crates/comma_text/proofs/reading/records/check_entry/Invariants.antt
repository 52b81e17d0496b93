-- `records::check_entry` meets its contract. What the levels from `from` on say of the entry is what all say.
use mathlib.Core.Path.{◌≡◌}
use Prim.Native.Nat.{◌-◌, ◌≤◌}
use lib.ListN.{length, drop}
use Rattle.comma_text.specs.reading.Records.{entry_part, checked}
use Rattle.comma_text.proofs.reading.records.check_entry.Given as goal

abbrev pub invariant-loop : goal.invariant-loop
invariant-loop l = record {
  within : l.from ≤ length l.text;
  same : let left = l.variables - l.counter in
      checked l.record left (entry_part left (drop l.from l.text)) ≡ checked l.record l.variables (entry_part l.variables (drop l.at l.text));
}
