-- `columns::put_column` meets its contract. The loop has written the entries before its index.
use mathlib.Core.Path.{◌≡◌}
use Prim.Native.Nat.{◌+◌, ◌*◌}
use lib.ListN.{get_or}
use Rattle.residue.proofs.vector.Filled.{filled}
use Rattle.monomial.proofs.columns.put_column.Given as goal

abbrev pub invariant-loop-i : goal.invariant-loop-i
invariant-loop-i l = l.column ≡ filled (λ j. get_or l.points (8 * j + l.k) 0) l.i l.initial.column
