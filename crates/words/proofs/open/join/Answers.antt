-- `open::join` meets its contract.
use native.Mathlib.Omega.{arith}
use Rattle.words.proofs.PlaceLaws.{turned_none, turned_more, turned_all}
use Rattle.words.proofs.open.join.Goals as goal

pub loop-w-init : goal.loop-w-init
loop-w-init c = (omega arith, turned_none _ _ _)

pub loop-w-preserved : goal.loop-w-preserved
loop-w-preserved c = let l = c in
    (omega arith, turned_more _ _ _ l.loop-w.w l.loop-w.a (omega arith) l.loop-w.invariant.1)

pub returns : goal.returns
returns c = let l = c in turned_all _ _ _ l.loop-w.w l.loop-w.a (omega arith) l.loop-w.invariant.1
