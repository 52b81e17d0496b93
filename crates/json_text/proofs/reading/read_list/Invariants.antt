-- `reading::read_list` meets its contract: the list from the place on is the items read and the rest of the reading.
use mathlib.Core.Path.{◌≡◌}
use mathlib.Core.List.{List}
use Prim.Native.Nat.{ℕ, ◌-◌, ◌≤◌}
use lib.ListN.{length}
use Rattle.json_text.proofs.Stored.{stored}
use Rattle.json_text.proofs.ListLoops.{Rest}
use Rattle.json_text.proofs.reading.read_list.Given as goal

abbrev pub invariant-loop-value : goal.invariant-loop-value
invariant-loop-value l = (items : List ℕ) × (l.i ≤ length l.text) × (l.count ≡ length items) × (l.count ≤ l.i) × Rest l.text l.at items l.i × (l.out ≡ stored l.initial.out items)

abbrev pub decreases-loop-value : goal.decreases-loop-value
decreases-loop-value l = length l.text - l.i
