-- `tables::misqafur_leave_out` meets its contract.
use Rattle.misqafur.proofs.Packed.{packs}
use Rattle.misqafur.proofs.tables.misqafur_leave_out.Goals as goal

pub returns : goal.returns
returns c = rw (← c.settings_given-settings.ensures) (packs c.leave_out.ensures c.pack_answer.ensures)
