-- `appending::put_word` meets its contract.
use Rattle.writing.proofs.appending.Appends.{put_part}
use Rattle.writing.proofs.appending.put_word.Goals as goal

pub returns : goal.returns
returns c = put_part c.args.at c.args.word.now c.args.out.now _ c.copy_from_slice.ensures.after
