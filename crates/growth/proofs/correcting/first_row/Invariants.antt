-- `correcting::first_row` meets its contract. In a row the sum is, modulo p, that of the terms passed; the rows passed are 0 at the point.
use mathlib.Core.Path.{◌≡◌}
use Prim.Native.Nat.{◌≤◌, ◌<◌, ◌-◌, ◌+◌}
use lib.ListN.{take}
use Rattle.residue.specs.Congruence.{Mod}
use Rattle.residue.specs.Vector.{dot_of}
use Rattle.residue.specs.Layout.{row_at}
use Rattle.growth.specs.Growing.{value_of_row, first_from}
use Rattle.growth.proofs.correcting.first_row.Given as goal

abbrev pub invariant-terms : goal.invariant-terms
invariant-terms l = (l.j ≤ l.n) × (l.sum < l.p) × Mod l.p l.sum (l.initial.sum + dot_of (take l.j (row_at 64 l.i l.coefficients)) (take l.j l.values))

abbrev pub decreases-terms : goal.decreases-terms
decreases-terms l = l.n - l.j

abbrev pub invariant-rows : goal.invariant-rows
invariant-rows l = (l.i ≤ l.r) × (first_from (value_of_row l.p l.n l.point l.values l.leads l.coefficients) l.i (l.r - l.i) ≡ first_from (value_of_row l.p l.n l.point l.values l.leads l.coefficients) 0 l.r)

abbrev pub decreases-rows : goal.decreases-rows
decreases-rows l = l.r - l.i
