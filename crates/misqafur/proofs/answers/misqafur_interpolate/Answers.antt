-- `answers::misqafur_interpolate` meets its contract.
use Rattle.misqafur.proofs.Packed.{packs_answer}
use Rattle.misqafur.proofs.answers.misqafur_interpolate.Goals as goal

pub returns : goal.returns
returns c = rw (← c.settings_given-settings.ensures) (packs_answer c.interpolate.ensures c.pack_refusal.ensures)
