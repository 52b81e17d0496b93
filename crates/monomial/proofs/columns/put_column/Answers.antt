-- `columns::put_column` meets its contract. The loop has written the entries before its index.
use mathlib.Core.Path.{ap, ◌∙◌}
use mathlib.Core.List.{List, []}
use Prim.Native.Nat.{ℕ, ◌+◌, ◌*◌}
use native.Mathlib.Omega.{arith}
use lib.ListN.{get_or}
use Rattle.residue.proofs.vector.Filled.{filled_none, filled_more}
use Rattle.residue.proofs.bytes.Copies.{written_front}
use Rattle.monomial.specs.Columns.{column_of}
use Rattle.monomial.proofs.columns.Entries.{column_long, column_at, coordinate_at}
use Rattle.monomial.proofs.columns.put_column.Goals as goal

pub loop-i-init : goal.loop-i-init
loop-i-init c = filled_none _ _

pub loop-i-preserved : goal.loop-i-preserved
loop-i-preserved c =
    let a = c.args in
    filled_more (λ j. get_or a.points.now (8 * j + a.k) 0) c.loop-i.i a.column.now c.loop-i.column c.loop-i.invariant _ (omega arith)
    (ap (λ (rows : List (List ℕ)). get_or (get_or rows c.loop-i.i []) a.k 0) c.rows-point-items.ensures.value
    ∙ coordinate_at a.k a.n a.points.now c.loop-i.i (omega arith) (omega arith))

pub returns : goal.returns
returns c =
    let a = c.args in
    let e = column_long a.k a.n a.points.now in
    c.loop-i.invariant
    ∙ written_front (λ j. get_or a.points.now (8 * j + a.k) 0) (column_of a.k a.n a.points.now) a.column.now c.loop-i.i (omega arith) (omega arith)
    (λ i h. column_at a.k a.n a.points.now i (omega arith) (omega arith))
