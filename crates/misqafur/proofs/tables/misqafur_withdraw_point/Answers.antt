-- `tables::misqafur_withdraw_point` meets its contract.
use Rattle.misqafur.proofs.Packed.{packs}
use Rattle.misqafur.proofs.tables.misqafur_withdraw_point.Goals as goal

pub returns : goal.returns
returns c = rw (← c.settings_given-settings.ensures) (packs c.withdraw_point.ensures c.pack_answer.ensures)
