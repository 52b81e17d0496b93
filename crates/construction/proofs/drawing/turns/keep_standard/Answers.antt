-- `drawing::turns::keep_standard` meets its contract.
use Prim.Native.Nat.{◌+◌, ◌*◌, ◌-◌}
use native.Mathlib.Nat.{add-sub_cancel_left}
use Rattle.residue.proofs.Replaced.{put_place}
use Rattle.construction.proofs.drawing.turns.keep_standard.Goals as goal
use Rattle.construction.proofs.drawing.turns.keep_standard.Goals.{After-copy, After-copy-2, After-values-1, Start}

-- the calls, one from the next, and where the parameters come in
abbrev start : After-copy → Start
start c = (goal.at.After-copy c).Start

abbrev first : After-copy-2 → After-copy
first c = (goal.at.After-copy-2 c).After-copy

abbrev second : After-values-1 → After-copy-2
second c = (goal.at.After-values-1 c).After-copy-2

pub returns : goal.returns
returns c = let k = second (goal.at.returns c).After-values-1 in
    let a = (start (first k)).args in record { standard_after = put_place 8 a.found (8 * a.found + 8 - 8 * a.found) a.exponents.now a.standard.now (add-sub_cancel_left (8 * a.found) 8) (first k).copy.ensures; values_after = put_place 64 a.found (64 * a.found + 64 - 64 * a.found) a.own.now a.values.now (add-sub_cancel_left (64 * a.found) 64) k.copy-2.ensures }
