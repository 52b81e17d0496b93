-- `bytes::copy` meets its contract. The loop has written the entries before i.
use mathlib.Core.Path.{refl, ◌∙◌}
use native.Mathlib.Omega.{arith}
use lib.ListN.{get_or}
use Rattle.residue.proofs.vector.Filled.{filled_none, filled_more}
use Rattle.residue.proofs.bytes.Copies.{copied}
use Rattle.residue.proofs.bytes.copy.Goals as goal

pub loop-i-init : goal.loop-i-init
loop-i-init c = (omega arith, filled_none _ _)

pub loop-i-preserved : goal.loop-i-preserved
loop-i-preserved c = let l = c in
    let s = l in
    (omega arith, filled_more (λ k. get_or s.args.from.now k 0) l.loop-i.i s.args.to.now l.loop-i.to l.loop-i.invariant.1 _ (omega arith) refl)

pub returns : goal.returns
returns c = let l = c in
    let s = l in
    l.loop-i.invariant.1 ∙ copied s.args.from.now s.args.to.now l.loop-i.i (omega arith) (omega arith)
