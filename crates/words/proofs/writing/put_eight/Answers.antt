-- `writing::put_eight` meets its contract.
use Rattle.std.proofs.Common.{◌∙◌}
use Rattle.residue.proofs.Words.{eight_bytes}
use Rattle.words.proofs.writing.put_eight.Goals as goal

pub returns : goal.returns
returns c = c.copy_from_slice.ensures.after ∙ c.to_le_bytes.ensures ∙ eight_bytes c.args.eight
