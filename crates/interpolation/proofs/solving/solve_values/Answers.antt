-- `solving::solve_values` meets its contract: the working row is loaded with the residues.
use mathlib.Core.Path.{◌≡◌, sym, ap, subst, ◌∙◌}
use mathlib.Core.List.{List}
use Prim.Native.Nat.{ℕ}
use native.Mathlib.Omega.{arith}
use lib.ListN.{length, take, replicate}
use Rattle.residue.specs.Vector.{Below}
use Rattle.residue.specs.Layout.{fill, over, length_fill}
use Rattle.residue.proofs.Places.{over_zeros}
use Rattle.residue.proofs.Layouts.{below_fill}
use Rattle.specification.specs.Levels.{residues}
use Rattle.specification.proofs.agreement.Points.{length_residues}
use Rattle.interpolation.specs.Solving.{solution}
use Rattle.interpolation.proofs.Interpolants.{front_of}
use Rattle.interpolation.proofs.solving.solve_values.Goals as goal
use Rattle.interpolation.proofs.solving.solve_values.Goals.{After-copy, After-put_residues, Start}

-- the residues are in their bytes
module _ (w : After-put_residues) where
  abbrev start : Start
  start = (goal.at.After-put_residues w).Start

  abbrev R : List ℕ
  R = residues start.args.p start.args.values.now

  long : length R ≡ start.args.n
  long = length_residues start.args.p start.args.values.now ∙ start.requires.n_bound.1.0

  front : take start.args.n w.put_residues.new.to ≡ R
  front = front_of R w.put_residues.new.to 64 start.args.n w.put_residues.ensures long

-- and in the working row
loaded : (v : After-copy) → v.copy.new.to ≡ fill 128 (R (goal.at.After-copy v).After-put_residues)
loaded v =
    let w = v in
    v.copy.ensures ∙ ap (λ (l : List ℕ). over l (replicate 128 0)) (front (goal.at.After-copy w).After-put_residues) ∙ over_zeros (R (goal.at.After-copy w).After-put_residues) 128 (omega (arith, long (goal.at.After-copy w).After-put_residues, (start (goal.at.After-copy w).After-put_residues).requires.n_bound.0))

pub slice_bounds-copy-end : goal.slice_bounds-copy-end
slice_bounds-copy-end c = let w = c in sym (ap length (front (goal.at.slice_bounds-copy-end w).After-put_residues) ∙ long (goal.at.slice_bounds-copy-end w).After-put_residues)

pub copy-requires : goal.copy-requires
copy-requires c = let w = c in omega (arith, ap length (front (goal.at.copy-requires w).After-put_residues), long (goal.at.copy-requires w).After-put_residues, (start (goal.at.copy-requires w).After-put_residues).requires.n_bound.0)

pub slice_bounds-solve-end : goal.slice_bounds-solve-end
slice_bounds-solve-end c = sym c.copy.auto.to

pub solve-requires : goal.solve-requires
solve-requires c = let v = c in
    let s = start (goal.at.solve-requires v).After-put_residues in record { le_p = s.requires.le_p; n_bound = (s.requires.n_bound.0, ap length (loaded (goal.at.solve-requires v).After-copy) ∙ length_fill 128 _, s.requires.n_bound.1.1); n_in_bounds = s.requires.n_in_bounds; multiplied = (s.requires.multiplied.0, subst (Below s.args.p) (sym (loaded (goal.at.solve-requires v).After-copy)) (below_fill s.args.p 128 _ (omega arith) s.requires.multiplied.1)); by_index = s.requires.by_index }

pub shape_of-out : goal.shape_of-out
shape_of-out c = c.solve.auto.out

pub returns : goal.returns
returns c = let v = c in
    let s = start (goal.at.returns v).After-put_residues in
    c.solve.ensures.out_after
    ∙ ap (λ (l : List ℕ). over (fill 64 (solution s.args.p s.args.n s.args.rows.now s.args.pivots.now l)) s.args.out.now) (loaded (goal.at.returns v).After-copy)
