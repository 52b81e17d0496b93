-- `drawing::turns::put_values` meets its contract.
use mathlib.Core.Path.{◌≡◌, refl, sym, ap, subst, ◌∙◌}
use mathlib.Core.List.{List}
use Prim.Native.Nat.{ℕ, ◌+◌, ◌*◌, ◌-◌}
use native.Mathlib.Nat.{add-sub_cancel_left}
use native.Mathlib.Omega.{arith}
use lib.ListN.{length, take, drop}
use lib.Seq.{length-take-le}
use Rattle.residue.specs.Vector.{Below, pointwise}
use Rattle.residue.proofs.vector.Vectors.{below_take, below_drop}
use Rattle.residue.proofs.Replaced.{part_long, read_whole}
use Rattle.construction.specs.Drawing.{product_values}
use Rattle.construction.proofs.drawing.ProductValues.{product_made}
use Rattle.construction.proofs.drawing.turns.put_values.Goals as goal
use Rattle.construction.proofs.drawing.turns.put_values.Goals.{After-copy, Start}

-- the values of the standard monomial
module _ (r : After-copy) where
  abbrev start : Start
  start = (goal.at.After-copy r).Start

  row : r.copy.new.to ≡ take 64 (drop (64 * start.args.product.now.standard) start.args.values.now)
  row =
      let a = start.args in
      r.copy.ensures ∙ read_whole (64 * a.product.now.standard) (64 * a.product.now.standard + 64 - 64 * a.product.now.standard) 64 a.values.now a.own.now (omega arith) (omega arith) (omega arith)

  row_long : length r.copy.new.to ≡ 64
  row_long = let a = start.args in ap length (row) ∙ part_long (64 * a.product.now.standard) 64 64 a.values.now (omega arith) (omega arith)

  front_long : length (take start.args.n r.copy.new.to) ≡ start.args.n
  front_long = length-take-le start.args.n r.copy.new.to (omega (arith, row_long))

-- those of the variable
module _ (s : Start) where
  abbrev column : List ℕ
  column = take s.args.n (drop (64 * s.args.product.now.variable) s.args.columns.now)

  column_is : take (64 * s.args.product.now.variable + s.args.n - 64 * s.args.product.now.variable) (drop (64 * s.args.product.now.variable) s.args.columns.now) ≡ column
  column_is = ap (λ (j : ℕ). take j (drop (64 * s.args.product.now.variable) s.args.columns.now)) (add-sub_cancel_left (64 * s.args.product.now.variable) s.args.n)

  column_long : length column ≡ s.args.n
  column_long = part_long (64 * s.args.product.now.variable) s.args.n s.args.n s.args.columns.now refl (omega arith)

pub multiply-requires : goal.multiply-requires
multiply-requires c = let r = c in
    let s = start (goal.at.multiply-requires r).After-copy in
    let a = s.args in record {
      le_p = s.requires.le_p.0;
      dst_len = front_long (goal.at.multiply-requires r).After-copy ∙ sym (ap length (column_is s) ∙ column_long s);
      below = below_take a.p a.n r.copy.new.to
          (subst (Below a.p) (sym (row (goal.at.multiply-requires r).After-copy)) (below_take a.p 64 (drop (64 * a.product.now.standard) a.values.now) (below_drop a.p (64 * a.product.now.standard) a.values.now s.requires.below.1)));
      below_2 = subst (Below a.p) (sym (column_is s)) s.requires.below.0;
    }

pub returns : goal.returns
returns c = let r = c in
    let s = start (goal.at.returns r).After-copy in
    let a = s.args in
    product_made a.p a.n (column s) r.copy.new.to (column_long s) (omega (arith, row_long (goal.at.returns r).After-copy)) (c.multiply.ensures ∙ ap (pointwise a.p (take a.n r.copy.new.to)) (column_is s))
    ∙ ap (product_values a.p a.n (column s)) (row (goal.at.returns r).After-copy)
