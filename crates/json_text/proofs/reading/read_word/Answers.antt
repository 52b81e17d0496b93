-- `reading::read_word` meets its contract.
use mathlib.Core.Path.{sym, ◌∙◌}
use Rattle.json_text.specs.Said.{word_said}
use Rattle.json_text.proofs.Words.{compared}
use Rattle.json_text.proofs.reading.read_word.Goals as goal

pub returns-then-not-starts_with : goal.returns-then-not-starts_with
unfolding word_said
returns-then-not-starts_with c = compared c.args.word.now c.args.text.now c.args.at c.requires _ (sym c.if-not-starts_with.true ∙ c.starts_with.ensures.value)

pub returns : goal.returns
unfolding word_said
returns c = compared c.args.word.now c.args.text.now c.args.at c.requires _ (sym c.if-not-starts_with.false ∙ c.starts_with.ensures.value)
