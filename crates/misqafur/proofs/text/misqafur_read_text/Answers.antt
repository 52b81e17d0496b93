-- `text::misqafur_read_text` meets its contract.
use Rattle.misqafur.proofs.Packed.{packs_read}
use Rattle.misqafur.proofs.text.misqafur_read_text.Goals as goal

pub returns : goal.returns
returns c = packs_read c.read_text.ensures c.pack_read.ensures
