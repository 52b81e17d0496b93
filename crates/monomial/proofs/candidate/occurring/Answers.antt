-- `candidate::occurring` meets its contract. The count so far is that of the first i variables.
use mathlib.Core.Path.{refl}
use native.Mathlib.Omega.{arith}
use Rattle.monomial.specs.Candidate.{occurring_in}
use Rattle.monomial.proofs.candidate.Turns.{occurs_self, occurs_more, occurs_not}
use Rattle.monomial.proofs.candidate.occurring.Goals as goal
use Rattle.monomial.proofs.candidate.occurring.Goals.{then-i-k, then-i-k-via-then-i-k, then-i-k-via-else-i-k+then-x-ne0, else-i-k+else-x-ne0}

pub loop-i-init : goal.loop-i-init
unfolding occurring_in
loop-i-init c = (omega arith, refl)

pub loop-i-preserved : goal.loop-i-preserved
loop-i-preserved c =
    let a = c.args.a.now in
    let k = c.args.k in
    let i = c.loop-i.i in
    let e = c.loop-i.invariant.1 in
    elim c.if-i-k.branch [
      | then-i-k w ↦ elim w.then-i-k.branch [
        | then-i-k-via-then-i-k v ↦ (omega (arith, w.count-is), omega (arith, w.count-is, occurs_self a k i v.if-i-k.true))
        | then-i-k-via-else-i-k+then-x-ne0 v ↦ (omega (arith, w.count-is), omega (arith, w.count-is, occurs_more a k i v.if-i-k.false v.if-x-ne0.true))
      ]
      | else-i-k+else-x-ne0 w ↦ (omega (arith, w.count-is), omega (arith, w.count-is, occurs_not a k i w.if-i-k.false w.if-x-ne0.false))
    ]
