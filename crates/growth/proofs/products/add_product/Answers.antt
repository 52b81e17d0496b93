-- `products::add_product` meets its contract.
use mathlib.Core.Path.{sym, ◌∙◌}
use native.Mathlib.Omega.{arith}
use Rattle.monomial.specs.Order.{cmp}
use Rattle.monomial.proofs.insert.Searches.{place_within}
use Rattle.growth.proofs.Growth.{product_passed, product_taken}
use Rattle.specification.specs.Tables.{order_under}
use Rattle.growth.proofs.products.add_product.Goals as goal

pub returns-then-divided : goal.returns-then-divided
returns-then-divided c =
    let x = c.args.addition.now in
    product_passed x.p (order_under c.args.settings) x.n x.points.now x.rows.now x.pivots.now x.place x.inverse x.gone.now x.point.now x.values.now
    c.args.k c.args.others.now c.args.a.now _ (sym c.divided.ensures ∙ c.if-divided.true)

pub put_row-requires : goal.put_row-requires
put_row-requires c =
    let h = place_within (cmp (order_under c.args.settings)) c.args.a.now c.args.leads.now c.args.count in
    (omega (arith, c.put_under-i.ensures.value), omega arith, omega arith)

pub returns : goal.returns
returns c =
    let x = c.args.addition.now in
    product_taken x.p (order_under c.args.settings) x.n x.points.now x.rows.now x.pivots.now x.place x.inverse x.gone.now x.point.now x.values.now
    c.args.k c.args.others.now c.args.a.now c.args.count c.args.leads.now c.args.coefficients.now _ _ _
    (sym c.divided.ensures ∙ c.if-divided.false) c.put_under-i.ensures.value c.put_under-i.ensures.table_after c.put_row.ensures
