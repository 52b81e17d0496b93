-- `archive::misqafur_read_json` meets its contract.
use Rattle.misqafur.proofs.Packed.{packs_sheet}
use Rattle.misqafur.proofs.archive.misqafur_read_json.Goals as goal

pub returns : goal.returns
returns c = packs_sheet c.read_json.ensures
    c.pack_taken.ensures
