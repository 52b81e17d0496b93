-- `tables::misqafur_draw_up` meets its contract.
use Rattle.misqafur.proofs.Packed.{packs_drawn}
use Rattle.misqafur.proofs.tables.misqafur_draw_up.Goals as goal

pub returns : goal.returns
returns c = rw (← c.settings_given-settings.ensures) (packs_drawn c.draw_up.ensures c.pack_drawn.ensures)
