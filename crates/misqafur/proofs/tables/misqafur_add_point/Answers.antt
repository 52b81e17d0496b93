-- `tables::misqafur_add_point` meets its contract.
use Rattle.misqafur.proofs.Packed.{packs}
use Rattle.misqafur.proofs.tables.misqafur_add_point.Goals as goal

pub returns : goal.returns
returns c = rw (← c.settings_given-settings.ensures) (packs c.add_point.ensures c.pack_answer.ensures)
