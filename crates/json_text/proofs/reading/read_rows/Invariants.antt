-- `reading::read_rows` meets its contract: the rows from the place on are those read and the rest of the reading.
use mathlib.Core.Path.{◌≡◌}
use mathlib.Core.List.{List}
use Prim.Native.Nat.{ℕ, ◌-◌, ◌*◌, ◌≤◌}
use lib.ListN.{length}
use Rattle.residue.specs.Layout.{fill, in_places}
use Rattle.json_text.specs.Said.{common_length}
use Rattle.json_text.proofs.RowLoops.{Rest}
use Rattle.json_text.proofs.reading.read_rows.Given as goal

abbrev pub invariant-loop-size : goal.invariant-loop-size
invariant-loop-size l = (rows : List (List ℕ)) × (l.i ≤ length l.text) × (l.count ≡ length rows) × (l.count ≤ l.i) × Rest l.text l.at rows l.i × (l.columns ≡ common_length rows)
    × (l.out ≡ fill (l.width * l.places) (in_places l.width rows))

abbrev pub decreases-loop-size : goal.decreases-loop-size
decreases-loop-size l = length l.text - l.i
