-- `writing::squared` meets its contract.
use Rattle.words.proofs.WritingLaws.{square_bytes}
use Rattle.words.proofs.writing.squared.Goals as goal

pub returns : goal.returns
returns c = square_bytes _ c.requires
