-- `candidate::pass` meets its contract. The first k variables have been looked at.
use mathlib.Core.Path.{◌≡◌}
use native.Mathlib.Omega.{arith}
use Rattle.monomial.proofs.candidate.Turns.{pass_start, pass_shut, pass_other, pass_one}
use Rattle.monomial.proofs.candidate.pass.Goals as goal
use Rattle.monomial.proofs.candidate.pass.Goals.{then-t-found+then-ranks-t, else-t-found, else-t-found-via-then-t-found+else-ranks-t, else-t-found-via-else-t-found}

pub loop-k-init : goal.loop-k-init
loop-k-init c = (omega arith, pass_start _ _ _ _ _)

pub loop-k-preserved : goal.loop-k-preserved
loop-k-preserved c =
    let v = c.loop-k.invariant.1 in (
      omega arith,
      elim c.if-t-found.branch [
        | then-t-found+then-ranks-t w ↦ pass_one _ _ _ v w.if-t-found.true w.if-ranks-t.true w.at-is w.count-is w.variable-is w.standard-is
        | else-t-found w ↦
            elim w.else-t-found.branch [
              | else-t-found-via-then-t-found+else-ranks-t u ↦ pass_other _ _ _ v u.if-t-found.true u.if-ranks-t.false w.at-is w.count-is w.variable-is w.standard-is
              | else-t-found-via-else-t-found u ↦ pass_shut _ _ _ v u.if-t-found.false w.at-is w.count-is w.variable-is w.standard-is
            ]
      ],
    )

pub returns : goal.returns
returns c = let l = c in
    let e : l.loop-k.k ≡ l.args.m = omega arith in record { value = rw e at l.loop-k.invariant.1.last; at_after = rw e at l.loop-k.invariant.1.moved }
