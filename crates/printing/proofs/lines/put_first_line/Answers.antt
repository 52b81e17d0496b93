-- `lines::put_first_line` meets its contract.
use mathlib.Core.List.{List, ◌∷◌, ◌++◌}
use Prim.Native.Nat.{ℕ}
use Rattle.printing.specs.Lines.{points_word, standard_word, rows_word, line_end, labelled, first_line}
use Rattle.writing.proofs.appending.Appends.{first_room, put_room, put_front, put_more}
use Rattle.printing.proofs.lines.put_first_line.Goals as goal
use Rattle.printing.proofs.lines.put_first_line.Goals.{After-put_labelled-points, After-put_labelled-rows, After-put_labelled-standard, Start}

-- what stands behind the number of points, and behind that of standard monomials
abbrev behind₂ : ℕ → List ℕ
behind₂ r = labelled (32 ∷ rows_word) r ++ line_end

abbrev behind₁ : ℕ → ℕ → List ℕ
behind₁ n r = labelled (32 ∷ standard_word) n ++ behind₂ r

-- The places: behind the number of points, of standard monomials, of rows. Each names the one before it.
abbrev start : After-put_labelled-points → Start
start p = (goal.at.After-put_labelled-points p).Start

abbrev first : After-put_labelled-standard → After-put_labelled-points
first p = (goal.at.After-put_labelled-standard p).After-put_labelled-points

abbrev second : After-put_labelled-rows → After-put_labelled-standard
second p = (goal.at.After-put_labelled-rows p).After-put_labelled-standard

pub put_labelled-points-requires : goal.put_labelled-points-requires
unfolding first_line
put_labelled-points-requires c = let s = c in
    first_room s.args.at (labelled points_word s.args.n) (behind₁ s.args.n s.args.r) s.args.out.now s.requires

pub put_labelled-standard-requires : goal.put_labelled-standard-requires
unfolding first_line
put_labelled-standard-requires c = let p₁ = c in
    let s = start (goal.at.put_labelled-standard-requires p₁).After-put_labelled-points in
    put_front p₁.put_labelled-points.ensures (labelled (32 ∷ standard_word) s.args.n) (behind₂ s.args.r) s.requires

pub put_labelled-rows-requires : goal.put_labelled-rows-requires
unfolding first_line
put_labelled-rows-requires c = let p₂ = c in
    let p₁ = first (goal.at.put_labelled-rows-requires p₂).After-put_labelled-standard in
    let s = start p₁ in
    put_front p₂.put_labelled-standard.ensures (labelled (32 ∷ rows_word) s.args.r) line_end
    (put_room p₁.put_labelled-points.ensures (behind₁ s.args.n s.args.r) s.requires)

pub put_byte-requires : goal.put_byte-requires
unfolding first_line
put_byte-requires c = let p₃ = c in
    let p₂ = second (goal.at.put_byte-requires p₃).After-put_labelled-rows in
    let p₁ = first p₂ in
    let s = start p₁ in
    put_room p₃.put_labelled-rows.ensures line_end
    (put_room p₂.put_labelled-standard.ensures (behind₂ s.args.r) (put_room p₁.put_labelled-points.ensures (behind₁ s.args.n s.args.r) s.requires))

pub returns : goal.returns
unfolding first_line
returns c = let p₃ = c in
    let p₂ = second (goal.at.returns p₃).After-put_labelled-rows in
    let p₁ = first p₂ in
    let s = start p₁ in
    let k = put_room p₁.put_labelled-points.ensures (behind₁ s.args.n s.args.r) s.requires in
    put_more p₁.put_labelled-points.ensures s.requires
    (put_more p₂.put_labelled-standard.ensures k
    (put_more p₃.put_labelled-rows.ensures (put_room p₂.put_labelled-standard.ensures (behind₂ s.args.r) k) c.put_byte.ensures))
