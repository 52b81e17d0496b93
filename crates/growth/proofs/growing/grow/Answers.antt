-- `growing::grow` meets its contract.
use mathlib.Core.Path.{◌≡◌, sym, ap, ap₂, subst, ◌∙◌}
use mathlib.Core.List.{List, []}
use Prim.Native.Nat.{ℕ, ◌+◌, ◌*◌, ◌-◌, ◌<◌, ◌≤◌}
use native.Mathlib.Omega.{arith}
use lib.ListN.{get_or, take, drop, replicate, length-drop}
use lib.Seq.{length-take-le}
use Rattle.residue.specs.Vector.{Below}
use Rattle.residue.specs.Inverse.{inverse_of}
use Rattle.residue.specs.Layout.{groups, over, row_at}
use Rattle.residue.proofs.vector.Vectors.{below_take, below_drop, part_small}
use Rattle.residue.proofs.inverse.Inverses.{inverse_below_lem}
use Rattle.residue.proofs.level.Moduli.{modulus_range}
use Rattle.residue.proofs.Layouts.{over_all}
use Rattle.residue.proofs.Places.{groups_at}
use Rattle.residue.proofs.Replaced.{zeros_long}
use Rattle.monomial.specs.Order.{cmp}
use Rattle.monomial.specs.Insert.{place_of, with_row_at}
use Rattle.monomial.proofs.insert.Searches.{place_within}
use Rattle.growth.specs.Growing.{standard_grown}
use Rattle.growth.proofs.Writes.{value_below}
use Rattle.growth.proofs.Growth.{grown_by_lem}
use Rattle.specification.specs.Tables.{order_under}
use Rattle.growth.proofs.growing.grow.Goals as goal
use Rattle.growth.proofs.growing.grow.Goals.{After-copy, After-put_under-place, Start}

range : (c : Start) → (2 ≤ c.args.settings.modulus) × (c.args.settings.modulus ≤ 61)
range c = modulus_range c.args.settings.modulus c.requires.accepted.0.modulus

-- the lead of row j, and its coefficients
module _ (c : After-copy) where
  lead_is : get_or c.rows.result.now c.args.j [] ≡ row_at 8 c.args.j c.args.before.now.leads.now
  lead_is = ap (λ (rows : List (List ℕ)). get_or rows c.args.j []) c.rows.ensures.value ∙ groups_at 8 c.args.before.now.r c.args.j c.args.before.now.leads.now [] c.requires.j_lt_r.0

  gone_is : c.copy.new.to ≡ row_at 64 c.args.j c.args.before.now.coefficients.now
  gone_is =
      let t = c.args.before.now.coefficients.now in
      let d : 64 * c.args.j + 64 - 64 * c.args.j ≡ 64 = omega arith in
      c.copy.ensures ∙ ap (λ (k : ℕ). over (take k (drop (64 * c.args.j) t)) (replicate 64 0)) d
      ∙ over_all (row_at 64 c.args.j t) (replicate 64 0) (length-take-le 64 (drop (64 * c.args.j) t) (simp length-drop (omega (arith, c.requires.j_lt_r, c.requires.standard_len))))

  gone_below : Below c.args.settings.modulus c.copy.new.to
  gone_below =
      let p = c.args.settings.modulus in
      let t = c.args.before.now.coefficients.now in
      subst (Below p) (sym gone_is) (below_take p 64 (drop (64 * c.args.j) t) (below_drop p (64 * c.args.j) t c.requires.below.1))

-- the inverse of its value, and its place among the standard monomials
module _ (c : After-put_under-place) where
  old : c.copy-2.new.to ≡ c.args.before.now.standard.now
  old = c.copy-2.ensures ∙ over_all c.args.before.now.standard.now c.args.new_standard.now (c.requires.standard_len.0 ∙ sym (zeros_long _ 512 c.requires.new_standard_value.0))

  place_is : c.put_under-place.result ≡ place_of (cmp (order_under c.args.settings)) (get_or c.rows.result.now c.args.j []) (groups 8 c.args.before.now.n c.args.before.now.standard.now)
  place_is = c.put_under-place.ensures.value ∙ ap (λ (t : List ℕ). place_of (cmp (order_under c.args.settings)) (get_or c.rows.result.now c.args.j []) (groups 8 c.args.before.now.n t)) old

  within : c.put_under-place.result ≤ c.args.before.now.n
  within = omega (arith, place_is, place_within (cmp (order_under c.args.settings)) (get_or c.rows.result.now c.args.j []) c.args.before.now.standard.now c.args.before.now.n)

pub overflow_cast-p : goal.overflow_cast-p
overflow_cast-p c = omega (arith, range (goal.at.overflow_cast-p c).Start)

pub row_value-requires-clause-le_p : goal.row_value-requires-clause-le_p
row_value-requires-clause-le_p c = range (goal.at.row_value-requires-clause-le_p c).Start

pub row_value-requires-clause-below_2 : goal.row_value-requires-clause-below_2
row_value-requires-clause-below_2 c = (c.requires.below.4, gone_below (goal.at.row_value-requires-clause-below_2 c).After-copy)

pub invariant_of-addition-clause-bounds : goal.invariant_of-addition-clause-bounds
invariant_of-addition-clause-bounds c =
    let m = range (goal.at.invariant_of-addition-clause-bounds c).Start in
    let p = c.args.settings.modulus in
    let v : c.row_value.result < p = rw c.row_value.ensures (value_below p c.args.point.now c.args.values.now _ c.copy.new.to (omega (arith, m.0))) in
    let i = inverse_below_lem p c.row_value.result c.requires.accepted.0.modulus v in
    (m.0, m.1, c.requires.accepted.1, omega (arith, c.requires.accepted.1, within (goal.at.invariant_of-addition-clause-bounds c).After-put_under-place), omega (arith, c.inverse-inverse.ensures, i))

pub invariant_of-addition-clause-residues : goal.invariant_of-addition-clause-residues
invariant_of-addition-clause-residues c =
    let b = c.requires.below in
    (b.0, b.2, gone_below (goal.at.invariant_of-addition-clause-residues c).After-copy, b.3, b.4)

pub add_products-requires-clause-lead_below : goal.add_products-requires-clause-lead_below
add_products-requires-clause-lead_below c =
    subst (λ (l : List ℕ). (v : ℕ) → get_or l v 0 < 255) (sym (lead_is (goal.at.add_products-requires-clause-lead_below c).After-copy))
    (part_small 255 8 (8 * c.args.j) c.args.before.now.leads.now (omega arith) c.requires.leads_below)

pub returns-clause-new_standard_after : goal.returns-clause-new_standard_after
unfolding standard_grown
returns-clause-new_standard_after c =
    let s = c.args in
    let d = (goal.at.returns-clause-new_standard_after c).After-put_under-place in
    c.put_under-place.ensures.table_after ∙ ap₂ (λ (i : ℕ) (t : List ℕ). with_row_at 8 s.before.now.n i (get_or c.rows.result.now s.j []) t) (place_is d) (old d)
    ∙ ap (standard_grown (order_under s.settings) s.before.now.n s.before.now.standard.now) (lead_is (goal.at.returns-clause-new_standard_after c).After-copy)

pub returns-clause-new_coefficients_after : goal.returns-clause-new_coefficients_after
returns-clause-new_coefficients_after c =
    let s = c.args in
    let w = (goal.at.returns-clause-new_coefficients_after c).After-copy in
    let d = (goal.at.returns-clause-new_coefficients_after c).After-put_under-place in
    grown_by_lem s.settings.modulus s.settings.variables (order_under s.settings) s.before.now.n s.before.now.r s.before.now.points.now s.before.now.standard.now s.before.now.leads.now s.before.now.coefficients.now s.before.now.rows.now s.before.now.pivots.now s.point.now s.values.now s.j
    _ _ _ _ _ _ (lead_is w) (gone_is w) (place_is d) (c.inverse-inverse.ensures ∙ ap (inverse_of s.settings.modulus) c.row_value.ensures)
    c.keep_others.ensures.new_leads_after c.keep_others.ensures.new_coefficients_after c.add_products.ensures
