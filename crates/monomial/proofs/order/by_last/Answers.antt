-- `order::by_last` meets its contract: the library compares the reversed lists as the definition does.
use mathlib.Core.Path.{◌≡◌, refl, ◌∙◌}
use native.Mathlib.Omega.{arith}
use Rattle.std.specs.Ordering.{nat_cmp}
use Rattle.std.proofs.lemmas.Iterator.Adapters.{YieldsList-from_rev_slice}
use Rattle.std.proofs.lemmas.Iterator.Search.{cmp_from_yields_List}
use Rattle.monomial.proofs.Orders.Compared.{last_compared}
use Rattle.monomial.proofs.order.by_last.Goals as goal

pub returns : goal.returns
returns c =
    let a = c.args.a.now in
    let b = c.args.b.now in
    cmp_from_yields_List (λ x y. y ≡ x) _ nat_cmp _ c.cmp.ensures.ran (YieldsList-from_rev_slice b cc) (λ it e. YieldsList-from_rev_slice a cc) (λ x y. refl)
    ∙ last_compared a b (omega arith)
