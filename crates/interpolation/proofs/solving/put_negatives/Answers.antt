-- `solving::put_negatives` meets its contract. The loop has written the negatives before i.
use mathlib.Core.Path.{◌≡◌, ◌∙◌}
use Prim.Native.Nat.{ℕ, ◌-◌, ◌%◌}
use native.Mathlib.Omega.{arith}
use lib.ListN.{length, get_or}
use Rattle.residue.proofs.vector.Filled.{filled_none, kept_length, filled_more}
use Rattle.residue.proofs.bytes.Copies.{mapped}
use Rattle.interpolation.proofs.solving.put_negatives.Goals as goal
use Rattle.interpolation.proofs.solving.put_negatives.Goals.{At-loop-i, Start}

-- at the loop's head
module _ (l : At-loop-i) where
  abbrev start : Start
  start = (goal.at.At-loop-i l).Start

  abbrev g : ℕ → ℕ
  g k = (start.args.p - get_or start.args.from.now k 0) % start.args.p

  long : length l.loop-i.to ≡ length start.args.to.now
  long = kept_length g l.loop-i.i start.args.to.now l.loop-i.to l.loop-i.invariant.1

pub loop-i-init : goal.loop-i-init
loop-i-init c = (omega arith, filled_none _ _)

pub neg-requires : goal.neg-requires
neg-requires c = let l = c in let s = start (goal.at.neg-requires l).At-loop-i in record { p_bound = s.requires.p_bound; x_lt_p = s.requires.below l.loop-i.i (omega arith) }

pub bounds-to-i : goal.bounds-to-i
bounds-to-i c = omega (arith, long (goal.at.bounds-to-i c).At-loop-i)

pub loop-i-preserved : goal.loop-i-preserved
loop-i-preserved c = let l = c in
    (omega arith, filled_more (g (goal.at.loop-i-preserved l).At-loop-i) l.loop-i.i (start (goal.at.loop-i-preserved l).At-loop-i).args.to.now l.loop-i.to l.loop-i.invariant.1 c.neg.result (omega arith) c.neg.ensures)

pub shape_of-to : goal.shape_of-to
shape_of-to c = long (goal.at.shape_of-to c).At-loop-i

pub returns : goal.returns
returns c = let l = c in
    let s = start (goal.at.returns l).At-loop-i in
    l.loop-i.invariant.1 ∙ mapped (λ x. (s.args.p - x) % s.args.p) 0 s.args.from.now s.args.to.now l.loop-i.i (omega arith) (omega arith)
