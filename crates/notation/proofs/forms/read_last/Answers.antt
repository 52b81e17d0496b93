-- `forms::read_last` meets its contract: `mod ` and the settings behind it.
use mathlib.Core.Path.{sym, ap, ◌∙◌}
use Rattle.notation.specs.Forms.{modulus_and_order}
use Rattle.notation.specs.Said.{last_said}
use Rattle.notation.proofs.Numbers.{last_says}
use Rattle.notation.proofs.forms.LastField.{same_pairs, last_other, last_mod}
use Rattle.notation.proofs.forms.read_last.Goals as goal

pub returns-in_err-strip_prefix : goal.returns-in_err-strip_prefix
unfolding last_said
returns-in_err-strip_prefix c = rw c.from_residual.ensures (last_says (last_other _ _ (sym (same_pairs _ _) ∙ c.in_err-strip_prefix.ensures.cases)))

pub returns : goal.returns
returns c = let found = c.in_ok-strip_prefix.ensures.cases in
    last_says (c.read_settings.ensures.said ∙ ap (modulus_and_order c.args.names) found.1 ∙ last_mod _ _ (sym (same_pairs _ _) ∙ found.0))
