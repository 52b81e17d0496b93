-- `answers::misqafur_wiring` meets its contract.
use Rattle.misqafur.proofs.Packed.{packs_list}
use Rattle.misqafur.proofs.answers.misqafur_wiring.Goals as goal

pub returns : goal.returns
returns c = rw (← c.settings_given-settings.ensures) (packs_list c.wiring.ensures c.pack_wired.ensures)
