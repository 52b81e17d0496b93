-- `correcting::correct_rows` meets its contract. The first i rows are corrected, and those behind are as they were.
use mathlib.Core.Path.{◌≡◌}
use Rattle.residue.specs.Layout.{in_places, over}
use Rattle.growth.specs.Growing.{corrected_rows}
use Rattle.growth.proofs.correcting.correct_rows.Given as goal

abbrev pub invariant-loop-i : goal.invariant-loop-i
invariant-loop-i l =
    let a = l.addition in
    l.table ≡ over (in_places 64 (corrected_rows a.p a.place a.inverse a.gone.now a.point.now a.values.now l.leads l.initial.table l.i)) l.initial.table
