-- `columns::put_columns` meets its contract. The loop has written the first k columns into the table.
use mathlib.Core.Path.{◌≡◌, ap, ◌∙◌}
use Prim.Native.Nat.{ℕ, ◌+◌, ◌*◌, ◌-◌}
use native.Mathlib.Omega.{arith}
use Rattle.residue.specs.Layout.{fill, in_places}
use Rattle.monomial.specs.Columns.{columns_of}
use Rattle.monomial.proofs.columns.Entries.{columns_none, columns_more}
use Rattle.monomial.proofs.columns.put_columns.Goals as goal
use Rattle.monomial.proofs.columns.put_columns.Goals.{At-loop-k}

pub loop-k-init : goal.loop-k-init
loop-k-init c = let s = c in (omega arith, s.requires.columns_value ∙ columns_none s.args.n s.args.points.now)

pub loop-k-preserved : goal.loop-k-preserved
loop-k-preserved c = let l = c in
    let s = l in
    (omega arith, columns_more s.args.n s.args.points.now l.loop-k.k (64 * l.loop-k.k + 64 - 64 * l.loop-k.k) l.loop-k.columns (omega arith) (omega arith) l.loop-k.invariant.1 (omega arith) c.put_column.ensures)

pub returns : goal.returns
returns c = let l = c in
    let s = l in
    let e : l.loop-k.k ≡ 8 = omega arith in
    l.loop-k.invariant.1 ∙ ap (λ (k : ℕ). fill 512 (in_places 64 (columns_of k s.args.n s.args.points.now))) e
