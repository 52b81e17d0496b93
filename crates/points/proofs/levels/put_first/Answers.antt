-- `levels::put_first` meets its contract. The loop has written what is before i.
use mathlib.Core.Path.{◌≡◌, refl, ap, ◌∙◌}
use mathlib.Core.Logic.{inl, inr}
use Prim.Native.Nat.{ℕ}
use native.Mathlib.Omega.{arith}
use lib.IntN.{ℤ, pos}
use lib.ListN.{length, get_or, take}
use Rattle.residue.specs.Level.{residue_of}
use Rattle.residue.specs.Layout.{fill, length_fill}
use Rattle.residue.proofs.vector.Filled.{filled_none, kept_length, filled_more, filled_all}
use Rattle.specification.specs.Levels.{residue_or0, residues}
use Rattle.points.proofs.levels.LevelLists.{handed}
use Rattle.points.proofs.levels.PointTables.{first_there, first_past}
use Rattle.points.proofs.levels.put_first.Invariants.{entry}
use Rattle.points.proofs.levels.put_first.Goals as goal
use Rattle.points.proofs.levels.put_first.Goals.{At-loop-i, Start}

-- at the loop's head
module _ (l : At-loop-i) where
  abbrev start : Start
  start = (goal.at.At-loop-i l).Start

  abbrev g : ℕ → ℕ
  g = entry start.args.p start.args.m start.args.levels.now

  long : length l.loop-i.to ≡ length start.args.to.now
  long = kept_length g l.loop-i.i start.args.to.now l.loop-i.to l.loop-i.invariant.1

pub loop-i-init : goal.loop-i-init
loop-i-init c = (omega arith, filled_none _ _)

pub bounds-to-i : goal.bounds-to-i
bounds-to-i c = omega (arith, long (goal.at.bounds-to-i c).At-loop-i)

pub loop-i-preserved : goal.loop-i-preserved
loop-i-preserved c = let r = c in
    let l = r in
    let a = (start (goal.at.loop-i-preserved l).At-loop-i).args in
    let i = l.loop-i.i in
    let level = get_or a.levels.now i (pos 0) in
    let own = r.residue_or_0-x.ensures ∙ ap (λ (z : ℤ). residue_or0 (residue_of a.p z)) (handed level r.residue_or_0-arg-1.given) in (
      omega arith,
      filled_more (g (goal.at.loop-i-preserved l).At-loop-i) i a.to.now l.loop-i.to l.loop-i.invariant.1 _ (omega arith)
          (elim c.if-m-i.branch-raw [
            | inl w ↦ w.x-is ∙ first_past a.p a.m i a.levels.now (omega arith) w.if-m-i.true
            | inr w ↦ w.x-is ∙ own ∙ first_there a.p a.m i a.levels.now (omega arith) w.if-m-i.false (omega arith)
          ]),
    )

pub shape_of-to : goal.shape_of-to
shape_of-to c = long (goal.at.shape_of-to c).At-loop-i

pub returns : goal.returns
returns c = let l = c in
    let a = (start (goal.at.returns l).At-loop-i).args in
    let R = residues a.p (take a.m a.levels.now) in
    l.loop-i.invariant.1 ∙ filled_all (g (goal.at.returns l).At-loop-i) l.loop-i.i (fill 8 R) a.to.now 0 (omega arith) (omega (arith, length_fill 8 R)) (λ k h. refl)
