-- `products::put_row` meets its contract.
use mathlib.Core.Path.{◌≡◌, sym, ap, subst, ◌∙◌}
use mathlib.Core.List.{List, map}
use Prim.Native.Nat.{ℕ, ◌+◌, ◌*◌, ◌-◌, ◌%◌, ◌<◌, ◌≤◌}
use native.Mathlib.Omega.{arith}
use native.Mathlib.Nat.{mul-le-mul_left}
use lib.ListN.{length, take, drop, replicate}
use Rattle.residue.specs.Vector.{Below}
use Rattle.elimination.specs.Elimination.{eliminated}
use Rattle.residue.specs.Layout.{groups, over}
use Rattle.residue.proofs.vector.Vectors.{below_take, below_drop}
use Rattle.elimination.proofs.reducing.Eliminated.{eliminated_below}
use Rattle.residue.proofs.Layouts.{remainders_below}
use Rattle.monomial.specs.Monomial.{monomial_at}
use Rattle.monomial.proofs.insert.Writes.{row_in_lem}
use Rattle.growth.specs.Growing.{corrected_row, reduced_row}
use Rattle.growth.proofs.NewRows.{one_term}
use Rattle.growth.proofs.products.put_row.Goals as goal
use Rattle.growth.proofs.products.put_row.Goals.{After-put_term_values, After-eliminate}

-- the width of the part of a list that is lent from `at` on, and the two parts that are lent here
width : (at w : ℕ) → at + w - at ≡ w
width at w = omega arith

-- what elimination leaves of the values of a monomial is its row
left_is : (p n : ℕ) (points rows pivots a values left : List ℕ) → values ≡ over (map (λ point. monomial_at point a % p) (groups 8 n points)) (replicate 128 0)
    → left ≡ eliminated p rows pivots n values → take (n + 64 - n) (drop n left) ≡ reduced_row p n points rows pivots a
unfolding reduced_row
left_is p n points rows pivots a values left ev el =
    ap (λ (k : ℕ). take k (drop n left)) (width n 64) ∙ ap (λ (l : List ℕ). take 64 (drop n l)) (el ∙ ap (eliminated p rows pivots n) ev)

left_residues : (p n : ℕ) (rows pivots values : List ℕ) {left : List ℕ} → 2 ≤ p → n < 64 → length rows ≡ 73728 → length values ≡ 128 → Below p values → left ≡ eliminated p rows pivots n values → Below p left
left_residues p n rows pivots values h k l e b el = subst (Below p) (sym el) (eliminated_below p rows pivots values e (omega arith) b n (omega arith))

-- the values are those of the monomial, zeros behind: residues
module _ (c : After-put_term_values) where
  loaded : c.put_term_values.new.work ≡ over (map (λ point. monomial_at point c.args.a.now % c.args.addition.now.p) (groups 8 c.args.addition.now.n c.args.addition.now.points.now)) (replicate 128 0)
  loaded =
      let x = c.args.addition.now in
      c.put_term_values.ensures ∙ ap (λ (l : List ℕ). over l (replicate 128 0)) (one_term x.p x.n c.args.a.now x.points.now (omega arith))

  below : Below c.args.addition.now.p c.put_term_values.new.work
  below =
      let x = c.args.addition.now in
      subst (Below x.p) (sym loaded) (remainders_below x.p (λ point. monomial_at point c.args.a.now) (groups 8 x.n x.points.now) 128 (omega arith))

-- what elimination leaves of them
left_below : (c : After-eliminate) → Below c.args.addition.now.p c.eliminate.new.work
left_below c =
    let x = c.args.addition.now in
    left_residues x.p x.n x.rows.now x.pivots.now c.put_term_values.new.work (omega arith) (omega arith) (omega arith) c.put_term_values.auto.work
    (below (goal.at.After-eliminate c).After-put_term_values) c.eliminate.ensures.work_after

pub eliminate-requires-clause-multiplied : goal.eliminate-requires-clause-multiplied
eliminate-requires-clause-multiplied c = (c.args.addition.now.residues.1, below (goal.at.eliminate-requires-clause-multiplied c).After-put_term_values)

pub correct-requires-clause-below : goal.correct-requires-clause-below
correct-requires-clause-below c =
    let x = c.args.addition.now in
    let left = c.eliminate.new.work in
    below_take x.p (x.n + 64 - x.n) (drop x.n left) (below_drop x.p x.n left (left_below (goal.at.correct-requires-clause-below c).After-eliminate))

pub returns : goal.returns
returns c =
    let x = c.args.addition.now in
    row_in_lem 64 c.args.k c.args.i _ _ c.args.table.now c.move_on.new.table c.correct.new.row (mul-le-mul_left 64 c.requires.0) c.requires.2 (width (64 * c.args.i) 64) c.move_on.ensures
    (c.correct.ensures.row_after ∙ ap (corrected_row x.p x.place x.inverse x.gone.now x.point.now x.values.now c.args.a.now)
    (left_is x.p x.n x.points.now x.rows.now x.pivots.now c.args.a.now c.put_term_values.new.work c.eliminate.new.work (loaded (goal.at.returns c).After-put_term_values) c.eliminate.ensures.work_after))
