-- `order::by_first` meets its contract: the library compares lists as the definition does.
use mathlib.Core.Path.{◌∙◌}
use Rattle.monomial.proofs.Orders.Compared.{first_compared}
use Rattle.monomial.proofs.order.by_first.Goals as goal

pub returns : goal.returns
returns c = c.cmp.ensures ∙ first_compared c.args.a.now c.args.b.now
