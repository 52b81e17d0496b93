-- `lines::put_labelled` meets its contract.
use Rattle.printing.specs.Lines.{spaced, labelled}
use Rattle.writing.proofs.appending.Appends.{first_room, put_room, put_more}
use Rattle.printing.proofs.lines.put_labelled.Goals as goal

pub put_word-next-requires : goal.put_word-next-requires
unfolding labelled
put_word-next-requires c = let s = c in first_room s.args.at s.args.word.now (spaced s.args.n) s.args.out.now s.requires

pub put_number-requires : goal.put_number-requires
unfolding labelled
put_number-requires c = put_room c.put_word-next.ensures (spaced _) c.requires

pub returns : goal.returns
unfolding labelled
returns c = let called = c in
    put_more called.put_word-next.ensures called.requires c.put_number.ensures
