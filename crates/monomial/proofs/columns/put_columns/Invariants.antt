-- `columns::put_columns` meets its contract. The loop has written the first k columns into the table.
use mathlib.Core.Path.{◌≡◌}
use Prim.Native.Nat.{◌-◌, ◌≤◌}
use Rattle.residue.specs.Layout.{fill, in_places}
use Rattle.monomial.specs.Columns.{columns_of}
use Rattle.monomial.proofs.columns.put_columns.Given as goal

abbrev pub invariant-loop-k : goal.invariant-loop-k
invariant-loop-k l = (l.k ≤ 8) × (l.columns ≡ fill 512 (in_places 64 (columns_of l.k l.n l.points)))

abbrev pub decreases-loop-k : goal.decreases-loop-k
decreases-loop-k l = 8 - l.k
