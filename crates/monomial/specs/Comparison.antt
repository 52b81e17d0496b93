-- What two types of the program stand for: the answer of a comparison, and an order.
use Prim.Native.Nat.{Ordering}
use Rattle.std.specs.declared.cmp.Ordering.{Ordering as Comparison}
use Rattle.std.specs.declared.cmp.Ordering.TheVariants.{Less, Equal, Greater}
use Rattle.monomial.specs.declared.order.Order.{Order as Chosen}
use Rattle.monomial.specs.declared.order.Order.TheVariants.{Lex, Grlex, Grevlex, Weighted}
use Rattle.monomial.specs.Order.{Order, lex, grlex, grevlex, weighted}

-- less, equal or greater, in the order of docs/SCOPE.md, 'Monomial orders'
abbrev pub comparison_of : Ordering → Comparison
comparison_of Ordering.lt = Less
comparison_of Ordering.eq = Equal
comparison_of Ordering.gt = Greater

-- the order that a value of the program is
abbrev pub meant : Chosen → Order
meant Lex = lex
meant Grlex = grlex
meant Grevlex = grevlex
meant (Weighted weights) = weighted weights
