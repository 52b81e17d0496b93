-- `solving::solve_terms` meets its contract: the working row is loaded with the values.
use mathlib.Core.Path.{◌≡◌, refl, sym, ap, subst, ◌∙◌}
use mathlib.Core.List.{List}
use Prim.Native.Nat.{ℕ, ◌*◌}
use native.Mathlib.Omega.{arith}
use lib.ListN.{length, take, replicate}
use Rattle.residue.specs.Vector.{Below}
use Rattle.residue.specs.Layout.{fill, over, length_fill}
use Rattle.residue.proofs.Places.{over_zeros}
use Rattle.residue.proofs.Layouts.{below_fill}
use Rattle.monomial.specs.Terms.{term_values}
use Rattle.specification.specs.Levels.{residues}
use Rattle.specification.proofs.agreement.Points.{length_residues}
use Rattle.interpolation.specs.Solving.{solution}
use Rattle.interpolation.proofs.Interpolants.{front_of}
use Rattle.interpolation.proofs.TermValues.{length_terms, terms_below}
use Rattle.interpolation.proofs.solving.solve_terms.Goals as goal
use Rattle.interpolation.proofs.solving.solve_terms.Goals.{After-put_residues, After-put_values, Start}

-- the residues are in their bytes
module _ (w : After-put_residues) where
  abbrev start : Start
  start = (goal.at.After-put_residues w).Start

  abbrev R : List ℕ
  R = residues start.args.p start.args.coefficients.now

  long : length R ≡ length start.args.coefficients.now
  long = length_residues start.args.p start.args.coefficients.now

  front : take (length start.args.coefficients.now) w.put_residues.new.to ≡ R
  front = front_of R w.put_residues.new.to 256 (length start.args.coefficients.now) w.put_residues.ensures long

-- and the values in the working row
loaded : (v : After-put_values) → v.put_values.new.work
    ≡ fill 128 (term_values (start (goal.at.After-put_values v).After-put_residues).args.p (R (goal.at.After-put_values v).After-put_residues) (start (goal.at.After-put_values v).After-put_residues).args.exponents.now (start (goal.at.After-put_values v).After-put_residues).args.n (start (goal.at.After-put_values v).After-put_residues).args.points.now)
loaded v =
    let w = v in
    let s = start (goal.at.After-put_values w).After-put_residues in
    let vs : List ℕ = term_values s.args.p (R (goal.at.After-put_values w).After-put_residues) s.args.exponents.now s.args.n s.args.points.now in
    v.put_values.ensures ∙ ap (λ (l : List ℕ). over (term_values s.args.p l s.args.exponents.now s.args.n s.args.points.now) (replicate 128 0)) (front (goal.at.After-put_values w).After-put_residues)
    ∙ over_zeros vs 128 (omega (arith, length_terms s.args.p (R (goal.at.After-put_values w).After-put_residues) s.args.exponents.now s.args.n s.args.points.now))

pub slice_bounds-put_values-end : goal.slice_bounds-put_values-end
slice_bounds-put_values-end c = let w = c in sym (ap length (front (goal.at.slice_bounds-put_values-end w).After-put_residues) ∙ long (goal.at.slice_bounds-put_values-end w).After-put_residues)

pub put_values-requires : goal.put_values-requires
put_values-requires c = let w = c in
    let s = start (goal.at.put_values-requires w).After-put_residues in record { le_p = s.requires.le_p; below = subst (Below s.args.p) (sym (front (goal.at.put_values-requires w).After-put_residues)) s.requires.multiplied.1.0; exponents_len = s.requires.coefficients_len_bound.1 ∙ ap (λ (k : ℕ). 8 * k) (sym (ap length (front (goal.at.put_values-requires w).After-put_residues) ∙ long (goal.at.put_values-requires w).After-put_residues)); n_bound = (omega arith, (s.requires.n_bound.1.0, s.requires.multiplied.1.1)); work_value = refl }

pub slice_bounds-solve-end : goal.slice_bounds-solve-end
slice_bounds-solve-end c = sym c.put_values.auto.work

pub solve-requires : goal.solve-requires
solve-requires c = let v = c in
    let s = start (goal.at.solve-requires v).After-put_residues in record { le_p = s.requires.le_p; n_bound = (s.requires.n_bound.0, ap length (loaded (goal.at.solve-requires v).After-put_values) ∙ length_fill 128 _, s.requires.n_bound.1.1); n_in_bounds = s.requires.n_in_bounds; multiplied = (s.requires.multiplied.0, subst (Below s.args.p) (sym (loaded (goal.at.solve-requires v).After-put_values)) (below_fill s.args.p 128 _ (omega arith) (terms_below s.args.p (R (goal.at.solve-requires v).After-put_residues) s.args.exponents.now s.args.n s.args.points.now (omega arith)))); by_index = s.requires.by_index }

pub shape_of-out : goal.shape_of-out
shape_of-out c = c.solve.auto.out

pub returns : goal.returns
returns c = let v = c in
    let s = start (goal.at.returns v).After-put_residues in
    c.solve.ensures.out_after
    ∙ ap (λ (l : List ℕ). over (fill 64 (solution s.args.p s.args.n s.args.rows.now s.args.pivots.now l)) s.args.out.now) (loaded (goal.at.returns v).After-put_values)
