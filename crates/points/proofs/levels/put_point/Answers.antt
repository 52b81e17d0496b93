-- `levels::put_point` meets its contract, both ways: the residues of a part of the levels are that part of the residues.
use mathlib.Core.Path.{ap, ◌∙◌}
use mathlib.Core.List.{List}
use Prim.Native.Nat.{ℕ, ◌+◌, ◌-◌}
use native.Mathlib.Nat.{add-sub_cancel_left}
use native.Mathlib.Omega.{arith}
use lib.IntN.{ℤ}
use lib.ListN.{take, drop, replicate, length-take, length-drop}
use lib.Seq.{take-take}
use Rattle.residue.specs.Layout.{fill, over}
use Rattle.residue.proofs.Places.{over_zeros}
use Rattle.residue.proofs.Replaced.{zeros_long}
use Rattle.specification.specs.Levels.{residues}
use Rattle.points.proofs.levels.PointTables.{residues_part}
use Rattle.points.proofs.levels.put_point.Goals as goal

pub put_residues-requires : goal.put_residues-requires
put_residues-requires c = let s = c in
    let a = s.args in
    omega (arith, length-take (a.from + a.m - a.from) (drop a.from a.levels.now), zeros_long a.to.now 8 s.requires.2, s.requires.0)

pub returns-then-levels-from-lt8 : goal.returns-then-levels-from-lt8
returns-then-levels-from-lt8 c = let called = c in
    let s = called in
    let a = s.args in
    let R = residues a.p a.levels.now in
    called.put_residues.ensures
    ∙ ap (λ (t : List ℕ). over (residues a.p (take (a.from + a.m - a.from) (drop a.from a.levels.now))) t) s.requires.2
    ∙ ap (λ (r : List ℕ). over r (replicate 8 0)) (residues_part a.p (a.from + a.m - a.from) a.from a.levels.now
    ∙ ap (λ (k : ℕ). take k (drop a.from R)) (add-sub_cancel_left a.from a.m))
    ∙ over_zeros (take a.m (drop a.from R)) 8 (omega (arith, length-take a.m (drop a.from R), s.requires.0))

pub put_first-requires : goal.put_first-requires
put_first-requires c = let s = c in
    let a = s.args in
    let left = drop a.from a.levels.now in
    (s.requires.0, omega (arith, length-take (a.from + 8 - a.from) left, length-drop a.from a.levels.now), zeros_long a.to.now 8 s.requires.2)

pub returns : goal.returns
returns c = let called = c in
    let s = called in
    let a = s.args in
    let left = drop a.from a.levels.now in
    called.put_first.ensures
    ∙ ap (λ (l : List ℤ). fill 8 (residues a.p l))
    (take-take a.m (a.from + 8 - a.from) left (omega (arith, add-sub_cancel_left a.from 8, s.requires.0)))
    ∙ ap (fill 8) (residues_part a.p a.m a.from a.levels.now)
