-- `levels::put_residues` meets its contract. The loop has written the residues before i.
use mathlib.Core.Path.{◌≡◌, ap, ◌∙◌}
use Prim.Native.Nat.{ℕ}
use native.Mathlib.Omega.{arith}
use lib.IntN.{pos}
use lib.ListN.{length, get_or}
use Rattle.residue.proofs.vector.Filled.{filled_none, kept_length, filled_more}
use Rattle.residue.proofs.bytes.Copies.{mapped}
use Rattle.specification.specs.Levels.{residues}
use Rattle.points.proofs.levels.LevelLists.{handed}
use Rattle.points.proofs.levels.put_residues.Invariants.{entry}
use Rattle.points.proofs.levels.put_residues.Goals as goal
use Rattle.points.proofs.levels.put_residues.Goals.{At-loop-i, Start}

-- at the loop's head
module _ (l : At-loop-i) where
  abbrev start : Start
  start = (goal.at.At-loop-i l).Start

  abbrev g : ℕ → ℕ
  g k = entry start.args.p (get_or start.args.levels.now k (pos 0))

  long : length l.loop-i.to ≡ length start.args.to.now
  long = kept_length g l.loop-i.i start.args.to.now l.loop-i.to l.loop-i.invariant.1

pub loop-i-init : goal.loop-i-init
loop-i-init c = (omega arith, filled_none _ _)

pub bounds-to-i : goal.bounds-to-i
bounds-to-i c = omega (arith, long (goal.at.bounds-to-i c).At-loop-i)

pub loop-i-preserved : goal.loop-i-preserved
loop-i-preserved c = let l = c in
    let s = start (goal.at.loop-i-preserved l).At-loop-i in
    let e = ap (entry s.args.p) (handed (get_or s.args.levels.now l.loop-i.i (pos 0)) c.residue_or_0-arg-1.given) in
    (omega arith, filled_more (g (goal.at.loop-i-preserved l).At-loop-i) l.loop-i.i s.args.to.now l.loop-i.to l.loop-i.invariant.1 c.residue_or_0.result (omega arith) (c.residue_or_0.ensures ∙ e))

pub shape_of-to : goal.shape_of-to
shape_of-to c = long (goal.at.shape_of-to c).At-loop-i

pub returns : goal.returns
unfolding residues
returns c = let l = c in
    let s = start (goal.at.returns l).At-loop-i in
    l.loop-i.invariant.1 ∙ mapped (entry s.args.p) (pos 0) s.args.levels.now s.args.to.now l.loop-i.i (omega arith) (omega arith)
