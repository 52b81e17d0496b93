-- `lines::put_row` meets its contract.
use mathlib.Core.List.{◌++◌}
use Rattle.printing.specs.Lines.{row_word, colon, spaced_numbers, line, row_line}
use Rattle.writing.proofs.appending.Appends.{first_room, put_room, put_front, put_more}
use Rattle.printing.proofs.lines.put_row.Goals as goal
use Rattle.printing.proofs.lines.put_row.Goals.{After-put_numbers-end, After-put_word-next, Start}

-- The places: behind the word, behind the lead. Each names the one before it.
abbrev start : After-put_word-next → Start
start p = (goal.at.After-put_word-next p).Start

abbrev first : After-put_numbers-end → After-put_word-next
first p = (goal.at.After-put_numbers-end p).After-put_word-next

pub put_word-next-requires : goal.put_word-next-requires
unfolding row_line
put_word-next-requires c = let s = c in
    first_room s.args.at row_word (spaced_numbers s.args.lead.now ++ line colon s.args.coefficients.now) s.args.out.now s.requires

pub put_numbers-end-requires : goal.put_numbers-end-requires
unfolding row_line
put_numbers-end-requires c = let p₁ = c in
    let s = start (goal.at.put_numbers-end-requires p₁).After-put_word-next in
    put_front p₁.put_word-next.ensures (spaced_numbers s.args.lead.now) (line colon s.args.coefficients.now) s.requires

pub put_line-requires : goal.put_line-requires
unfolding row_line
put_line-requires c = let p₂ = c in
    let p₁ = first (goal.at.put_line-requires p₂).After-put_numbers-end in
    let s = start p₁ in
    put_room p₂.put_numbers-end.ensures (line colon s.args.coefficients.now)
    (put_room p₁.put_word-next.ensures (spaced_numbers s.args.lead.now ++ line colon s.args.coefficients.now) s.requires)

pub returns : goal.returns
unfolding row_line
returns c = let p₂ = c in
    let p₁ = first (goal.at.returns p₂).After-put_numbers-end in
    let s = start p₁ in
    put_more p₁.put_word-next.ensures s.requires
    (put_more p₂.put_numbers-end.ensures (put_room p₁.put_word-next.ensures (spaced_numbers s.args.lead.now ++ line colon s.args.coefficients.now) s.requires) c.put_line.ensures)
