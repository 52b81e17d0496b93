-- `lines::put_refusal` meets its contract.
use mathlib.Core.List.{◌++◌}
use Rattle.printing.specs.Lines.{refused_word, line_end, spaced, labelled, refusal_line}
use Rattle.specification.specs.Answers.{number_of}
use Rattle.writing.proofs.appending.Appends.{first_room, put_room, put_front, put_more}
use Rattle.printing.proofs.lines.put_refusal.Goals as goal

pub put_labelled-next-requires : goal.put_labelled-next-requires
unfolding refusal_line
put_labelled-next-requires c =
    rw c.number.ensures (first_room c.args.at (labelled refused_word (number_of c.args.fault.refusal)) (spaced c.args.fault.at ++ line_end) c.args.out.now c.requires)

pub put_number-end-requires : goal.put_number-end-requires
unfolding refusal_line
put_number-end-requires c =
    put_front (rw c.number.ensures at c.put_labelled-next.ensures) (spaced c.args.fault.at) line_end c.requires

pub put_byte-requires : goal.put_byte-requires
unfolding refusal_line
put_byte-requires c =
    put_room c.put_number-end.ensures line_end
    (put_room (rw c.number.ensures at c.put_labelled-next.ensures) (spaced c.args.fault.at ++ line_end) c.requires)

pub returns : goal.returns
unfolding refusal_line
returns c =
    let p = rw c.number.ensures at c.put_labelled-next.ensures in
    put_more p c.requires (put_more c.put_number-end.ensures (put_room p (spaced c.args.fault.at ++ line_end) c.requires) c.put_byte.ensures)
