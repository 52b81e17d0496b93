-- `products::add_products` meets its contract. The products with the first v variables are put in.
use mathlib.Core.Path.{◌≡◌}
use Rattle.growth.specs.Growing.{grown, products_put}
use Rattle.specification.specs.Tables.{order_under}
use Rattle.growth.proofs.products.add_products.Given as goal

abbrev pub invariant-loop-v : goal.invariant-loop-v
invariant-loop-v l =
    let x = l.addition in
    grown l.count l.leads l.coefficients
    ≡ products_put x.p (order_under l.settings) x.n x.points.now x.rows.now x.pivots.now x.place x.inverse x.gone.now x.point.now x.values.now l.k l.others l.lead l.v (grown l.k l.initial.leads l.initial.coefficients)
