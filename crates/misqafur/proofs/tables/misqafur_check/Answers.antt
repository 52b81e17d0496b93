-- `tables::misqafur_check` meets its contract.
use mathlib.Core.Path.{◌∙◌}
use Rattle.misqafur.proofs.tables.misqafur_check.Goals as goal

pub returns : goal.returns
returns c = rw (← c.settings_given-settings.ensures) (c.pack_refusal.ensures ∙ c.check.ensures)
