-- `reducing::eliminate` meets its contract. The row so far is the one that met the first t pivot rows.
use mathlib.Core.Path.{◌≡◌}
use Prim.Native.Nat.{◌≤◌}
use Rattle.elimination.specs.Elimination.{eliminated, cancellations}
use Rattle.elimination.proofs.reducing.eliminate.Given as goal

abbrev pub invariant-loop-t : goal.invariant-loop-t
invariant-loop-t l = (l.t ≤ l.found) × ((l.work ≡ eliminated l.p l.rows l.pivots l.t l.initial.work) × (l.made ≡ cancellations l.p l.rows l.pivots l.t l.initial.work))
