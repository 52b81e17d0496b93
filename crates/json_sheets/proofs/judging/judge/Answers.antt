-- `judging::judge` meets its contract: its number is that of the look at the tables.
use mathlib.Core.Path.{refl, ◌∙◌}
use Rattle.specification.specs.Lent.{lent}
use Rattle.json_sheets.proofs.judging.Judged.{judged_cases}
use Rattle.json_sheets.proofs.judging.judge.Goals as goal

pub look-requires : goal.look-requires
look-requires c = (refl, (refl, refl))

pub returns : goal.returns
returns c = c.look.ensures.value ∙ judged_cases c.args.settings c.args.n c.args.r (lent c.args.tables) c.args.short
