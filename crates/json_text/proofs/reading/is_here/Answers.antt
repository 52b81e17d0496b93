-- `reading::is_here` meets its contract.
use mathlib.Core.Path.{refl, ◌∙◌}
use Rattle.json_text.proofs.Words.{here_got}
use Rattle.json_text.proofs.reading.is_here.Goals as goal

pub returns : goal.returns
returns c = c.eq.ensures ∙ here_got c.args.b c.args.text.now c.args.at c.get.result _ c.get.ensures.lookup.0 c.get.ensures.lookup.1 refl
