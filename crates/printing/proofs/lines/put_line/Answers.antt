-- `lines::put_line` meets its contract.
use mathlib.Core.List.{◌++◌}
use Rattle.printing.specs.Lines.{line_end, spaced_numbers, line}
use Rattle.writing.proofs.appending.Appends.{first_room, put_room, put_front, put_more}
use Rattle.printing.proofs.lines.put_line.Goals as goal

pub put_word-next-requires : goal.put_word-next-requires
unfolding line
put_word-next-requires c = let s = c in
    first_room s.args.at s.args.word.now (spaced_numbers s.args.list.now ++ line_end) s.args.out.now s.requires

pub put_numbers-end-requires : goal.put_numbers-end-requires
unfolding line
put_numbers-end-requires c = let s = c in
    put_front c.put_word-next.ensures (spaced_numbers s.args.list.now) line_end s.requires

pub put_byte-requires : goal.put_byte-requires
unfolding line
put_byte-requires c = let s = c in
    put_room c.put_numbers-end.ensures line_end (put_room c.put_word-next.ensures (spaced_numbers s.args.list.now ++ line_end) s.requires)

pub returns : goal.returns
unfolding line
returns c = let p₂ = c in
    let p₁ = p₂ in
    let s = p₁ in
    put_more p₁.put_word-next.ensures s.requires
    (put_more p₂.put_numbers-end.ensures (put_room p₁.put_word-next.ensures (spaced_numbers s.args.list.now ++ line_end) s.requires) c.put_byte.ensures)
