-- `checking::check` meets its contract: its refusal is that of the look at the tables.
use mathlib.Core.Path.{◌∙◌}
use Rattle.specification.specs.Lent.{lent}
use Rattle.queries.proofs.Refusals.{check_cases}
use Rattle.queries.proofs.checking.check.Goals as goal

pub returns : goal.returns
returns c = c.look.ensures.value ∙ check_cases c.args.settings c.args.n c.args.r (lent c.args.tables)
