-- `forms::keep_weight` meets its contract: a place beyond the last is not set.
use mathlib.Core.Path.{sym}
use lib.Seq.{set_out}
use Rattle.notation.proofs.forms.keep_weight.Goals as goal

pub returns-else-i-weights : goal.returns-else-i-weights
returns-else-i-weights c = sym (set_out _ _ _ c.if-i-weights.false)
