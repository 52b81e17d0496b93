-- `answers::misqafur_remainder` meets its contract.
use Rattle.misqafur.proofs.Packed.{packs_answer}
use Rattle.misqafur.proofs.answers.misqafur_remainder.Goals as goal

pub returns : goal.returns
returns c = rw (← c.settings_given-settings.ensures) (packs_answer c.remainder.ensures c.pack_refusal.ensures)
