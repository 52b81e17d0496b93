-- `growing::add_to` meets its contract.
use mathlib.Core.Path.{refl, sym, ap, subst, ◌∙◌}
use Prim.Native.Nat.{ℕ, ◌≤◌, ◌<◌}
use native.Mathlib.Omega.{arith}
use Rattle.std.specs.Prelude.{Option, None, Some, IsSome, unwrap_or}
use Rattle.residue.specs.Vector.{Below}
use Rattle.residue.specs.Layout.{groups}
use Rattle.residue.proofs.level.Moduli.{modulus_range}
use Rattle.residue.proofs.Layouts.{remainders_below}
use Rattle.monomial.specs.Monomial.{monomial_at}
use Rattle.construction.proofs.drawing.Grounds.{points_long, points_below}
use Rattle.growth.proofs.Added.{Sound, sound, inside, added}
use Rattle.growth.proofs.growing.add_to.Goals as goal
use Rattle.growth.proofs.growing.add_to.Goals.{After-values_at, After-first_row, Start}

module _ (c : Start) where
  fine : Sound c.requires.points_given c.requires.drawn_up c.requires.n_bound c.requires.new_point
  fine = sound c.requires.points_given c.requires.drawn_up c.requires.n_bound c.requires.new_point

  range : (2 ≤ c.args.settings.modulus) × (c.args.settings.modulus ≤ 61)
  range = modulus_range c.args.settings.modulus c.requires.points_given.settings.modulus

-- the values are residues
small : (c : After-values_at) → Below c.args.settings.modulus c.values_at.new.values
small c =
    let s = c.args in
    let p = s.settings.modulus in
    let m = range (goal.at.After-values_at c).Start in
    subst (Below p) (sym c.values_at.ensures) (remainders_below p (monomial_at s.point.now) (groups 8 s.before.now.n s.before.now.standard.now) 64 (omega (arith, m.0)))

-- an answer below the number that stands for none is not none
some_below : (o : Option ℕ) (r : ℕ) → unwrap_or o r < r → IsSome o
some_below None r h = absurd (omega arith)
some_below (Some j) r h = refl

-- a row is not 0 at the point
found : (c : After-first_row) → unwrap_or c.first_row.result c.args.before.now.r < c.args.before.now.r
found c = rw c.first_row.ensures.place (inside c.requires.points_given c.requires.drawn_up c.requires.n_bound c.requires.new_point _ c.values_at.ensures _ refl)

pub overflow_cast-p : goal.overflow_cast-p
overflow_cast-p c = omega (arith, range (goal.at.overflow_cast-p c).Start)

pub values_at-requires-clause-le_p : goal.values_at-requires-clause-le_p
values_at-requires-clause-le_p c = range (goal.at.values_at-requires-clause-le_p c).Start

pub values_at-requires-clause-k_in_bounds : goal.values_at-requires-clause-k_in_bounds
values_at-requires-clause-k_in_bounds c = (omega (arith, (fine (goal.at.values_at-requires-clause-k_in_bounds c).Start).standard_size_lem), omega arith)

pub values_at-requires-clause-point_len : goal.values_at-requires-clause-point_len
values_at-requires-clause-point_len c = ((fine (goal.at.values_at-requires-clause-point_len c).Start).point_size, c.requires.new_point.below)

pub first_row-requires-clause-le_p : goal.first_row-requires-clause-le_p
first_row-requires-clause-le_p c = let m = range (goal.at.first_row-requires-clause-le_p c).Start in (m.0, m.1, omega arith)

pub first_row-requires-clause-point_len : goal.first_row-requires-clause-point_len
first_row-requires-clause-point_len c = ((fine (goal.at.first_row-requires-clause-point_len c).Start).point_size, omega (arith, c.values_at.auto.values))

pub first_row-requires-clause-r_in_bounds : goal.first_row-requires-clause-r_in_bounds
first_row-requires-clause-r_in_bounds c =
    let h = fine (goal.at.first_row-requires-clause-r_in_bounds c).Start in
    (omega (arith, h.most, h.leads_size_lem), omega (arith, h.most, h.rows_size))

pub first_row-requires-clause-below_2 : goal.first_row-requires-clause-below_2
first_row-requires-clause-below_2 c = (small (goal.at.first_row-requires-clause-below_2 c).After-values_at, (fine (goal.at.first_row-requires-clause-below_2 c).Start).residues)

pub unwrap-j-requires : goal.unwrap-j-requires
unwrap-j-requires c = some_below c.first_row.result c.args.before.now.r (found c)

pub grow-requires-clause-j_lt_r : goal.grow-requires-clause-j_lt_r
grow-requires-clause-j_lt_r c =
    let h = fine (goal.at.grow-requires-clause-j_lt_r c).Start in
    let f = found (goal.at.grow-requires-clause-j_lt_r c).After-first_row in
    (omega (arith, ap (λ o. unwrap_or o c.args.before.now.r) c.unwrap-j.ensures), h.most, h.few, points_long c.requires.points_given, c.requires.drawn_up.pivot_rows.long_rows)

pub grow-requires-clause-standard_len : goal.grow-requires-clause-standard_len
grow-requires-clause-standard_len c =
    let h = fine (goal.at.grow-requires-clause-standard_len c).Start in
    (h.standard_size_lem, h.leads_size_lem, h.rows_size, h.point_size, c.values_at.auto.values)

pub grow-requires-clause-below : goal.grow-requires-clause-below
grow-requires-clause-below c =
    let h = fine (goal.at.grow-requires-clause-below c).Start in
    (points_below c.requires.points_given, h.residues, h.multiplied, c.requires.new_point.below, small (goal.at.grow-requires-clause-below c).After-values_at)

pub grow-requires-clause-pivots_len : goal.grow-requires-clause-pivots_len
grow-requires-clause-pivots_len c = (c.requires.drawn_up.pivot_rows.long_pivots, (fine (goal.at.grow-requires-clause-pivots_len c).Start).within)

pub grow-requires-clause-leads_below : goal.grow-requires-clause-leads_below
grow-requires-clause-leads_below c = (fine (goal.at.grow-requires-clause-leads_below c).Start).exponents

pub returns : goal.returns
returns c =
    added c.requires.points_given c.requires.drawn_up c.requires.n_bound c.requires.new_point _ c.values_at.ensures _
    (sym (ap (λ o. unwrap_or o c.args.before.now.r) c.unwrap-j.ensures) ∙ c.first_row.ensures.place) _ _ _ _ c.grow.ensures.new_standard_after c.grow.ensures.new_coefficients_after
