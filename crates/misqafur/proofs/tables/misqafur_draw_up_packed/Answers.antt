-- `tables::misqafur_draw_up_packed` meets its contract.
use Rattle.misqafur.proofs.Packed.{packs}
use Rattle.misqafur.proofs.tables.misqafur_draw_up_packed.Goals as goal

pub returns : goal.returns
returns c = rw (← c.settings_given-settings.ensures) (packs c.draw_up_packed.ensures c.pack_answer.ensures)
