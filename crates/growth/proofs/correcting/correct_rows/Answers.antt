-- `correcting::correct_rows` meets its contract. The first i rows are corrected, and those behind are as they were.
use mathlib.Core.Path.{◌≡◌, sym, ap, subst, ◌∙◌}
use mathlib.Core.List.{List, []}
use Prim.Native.Nat.{ℕ, ◌*◌}
use native.Mathlib.Omega.{arith}
use lib.ListN.{length, get_or, drop}
use Rattle.residue.specs.Vector.{Below}
use Rattle.residue.proofs.vector.Vectors.{below_take, below_drop}
use Rattle.residue.proofs.Places.{groups_at}
use Rattle.growth.proofs.Writes.{rows_none, rows_keep, own_row, row_corrected}
use Rattle.growth.proofs.correcting.correct_rows.Goals as goal
use Rattle.growth.proofs.correcting.correct_rows.Goals.{At-loop-i}

long : (l : At-loop-i) → length l.loop-i.table ≡ length l.args.table.now
long l =
    let a = l.args.addition.now in
    rows_keep a.p a.place a.inverse a.gone.now a.point.now a.values.now l.args.leads.now l.args.table.now l.loop-i.table l.loop-i.i l.loop-i.invariant (omega arith)

pub loop-i-init : goal.loop-i-init
loop-i-init c = rows_none _ _ _ _ _ _ _ _

pub slice_bounds-copy-end : goal.slice_bounds-copy-end
slice_bounds-copy-end c = omega (arith, long (goal.at.slice_bounds-copy-end c).At-loop-i)

pub correct-requires-clause-below : goal.correct-requires-clause-below
correct-requires-clause-below c =
    let a = c.args.addition.now in
    let t = c.args.table.now in
    let i : ℕ = c.loop-i.i in
    let e = own_row a.p a.place a.inverse a.gone.now a.point.now a.values.now c.args.leads.now t c.loop-i.table i c.loop-i.invariant (omega arith) (omega arith) c.copy.ensures in
    subst (Below a.p) (sym e) (below_take a.p 64 (drop (64 * i) t) (below_drop a.p (64 * i) t c.requires.below))

pub loop-i-preserved : goal.loop-i-preserved
loop-i-preserved c =
    let a = c.args.addition.now in
    let t = c.args.table.now in
    let i : ℕ = c.loop-i.i in
    let leads = c.args.leads.now in
    let e = own_row a.p a.place a.inverse a.gone.now a.point.now a.values.now leads t c.loop-i.table i c.loop-i.invariant (omega arith) (omega arith) c.copy.ensures in
    row_corrected a.p a.place a.inverse a.gone.now a.point.now a.values.now leads t c.loop-i.table i c.loop-i.invariant (omega arith) (omega arith)
    (ap (λ (rows : List (List ℕ)). get_or rows i []) c.rows-lead-items.ensures.value ∙ groups_at 8 c.args.k i leads [] (omega arith)) e c.correct.ensures.row_after

pub shape_of-table : goal.shape_of-table
shape_of-table c = long (goal.at.shape_of-table c).At-loop-i
