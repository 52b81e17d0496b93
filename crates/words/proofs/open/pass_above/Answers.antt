-- `open::pass_above` meets its contract.
use Prim.Native.Nat.{◌+◌, ◌*◌, ◌-◌}
use native.Mathlib.Omega.{arith}
use Rattle.words.proofs.MultipleLaws.{passed_none, passed_more, passed_all, row_set}
use Rattle.words.proofs.open.pass_above.Goals as goal

pub loop-k-init : goal.loop-k-init
loop-k-init c = (omega arith, (omega arith, passed_none _ _ _))

pub loop-k-preserved : goal.loop-k-preserved
loop-k-preserved c = let l = c in
    let a = l in (
      omega arith,
      (
        omega arith,
        passed_more _ l.loop-k.k a.args.multiples.now _ _ _ _ l.loop-k.invariant.0 l.loop-k.invariant.1.1
            (λ i h. row_set l.loop-k.k i (4 * l.loop-k.k + 4 - 4 * l.loop-k.k) a.args.multiples.now h (omega arith)) c.join.ensures,
      ),
    )

pub returns : goal.returns
returns c = passed_all _ c.loop-k.k _ _ _ (omega arith) c.loop-k.invariant.1.1
