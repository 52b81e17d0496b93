-- `products::add_products` meets its contract. The products with the first v variables are put in.
use mathlib.Core.Path.{◌≡◌, refl, sym, ap₂, ◌∙◌}
use mathlib.Core.List.{List}
use Prim.Native.Nat.{ℕ}
use native.Mathlib.Omega.{arith}
use lib.ListN.{replicate, length-replicate}
use Rattle.residue.proofs.Layouts.{over_all}
use Rattle.growth.specs.Growing.{grown, products_put}
use Rattle.growth.proofs.Growth.{GrownSized, products_none, products_next, products_sized}
use Rattle.specification.specs.Tables.{order_under}
use Rattle.growth.proofs.products.add_products.Goals as goal
use Rattle.growth.proofs.products.add_products.Goals.{At-loop-v}

sized : (l : At-loop-v) → GrownSized l.args.k l.loop-v.v (grown l.loop-v.count l.loop-v.leads l.loop-v.coefficients)
sized l =
    let x = l.args.addition.now in
    rw l.loop-v.invariant
    (products_sized x.p (order_under l.args.settings) x.n x.points.now x.rows.now x.pivots.now x.place x.inverse x.gone.now x.point.now x.values.now
    l.args.k l.copy.new.to l.args.lead.now l.args.leads.now l.args.coefficients.now (omega arith) l.requires.variables_bound.1 l.requires.variables_bound.2 l.loop-v.v (omega arith))

pub loop-v-init : goal.loop-v-init
loop-v-init c = sym (products_none _ _ _ _ _ _ _ _ _ _ _ _ _ _ _)

pub add_product-count-requires : goal.add_product-count-requires
add_product-count-requires c =
    let z = sized (goal.at.add_product-count-requires c).At-loop-v in
    (omega (arith, c.copy.auto.to), omega (arith, z.most), z.leads, z.coefficients)

pub loop-v-preserved : goal.loop-v-preserved
loop-v-preserved c =
    let x = c.args.addition.now in
    products_next x.p (order_under c.args.settings) x.n x.points.now x.rows.now x.pivots.now x.place x.inverse x.gone.now x.point.now x.values.now
    c.args.k c.copy.new.to c.args.lead.now (grown c.args.k c.args.leads.now c.args.coefficients.now) c.loop-v.v refl c.loop-v.invariant c.add_product-count.ensures

pub returns : goal.returns
returns c =
    let x = c.args.addition.now in
    let others : c.copy.new.to ≡ c.args.leads.now = c.copy.ensures ∙ over_all c.args.leads.now (replicate 3592 0) (c.requires.variables_bound.1 ∙ sym (length-replicate {A = ℕ} 3592 0)) in
    let e : c.loop-v.v ≡ c.args.settings.variables = omega arith in
    c.loop-v.invariant
    ∙ ap₂ (λ (o : List ℕ) (v : ℕ). products_put x.p (order_under c.args.settings) x.n x.points.now x.rows.now x.pivots.now x.place x.inverse x.gone.now x.point.now x.values.now
    c.args.k o c.args.lead.now v (grown c.args.k c.args.leads.now c.args.coefficients.now)) others e
