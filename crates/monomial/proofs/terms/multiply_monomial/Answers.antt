-- `terms::multiply_monomial` meets its contract. At each point, what is there times the value of the variables left is the monomial's value.
use native.Mathlib.Omega.{arith}
use Rattle.monomial.proofs.terms.TermRows.{variable_more, all_left}
use Rattle.monomial.proofs.terms.multiply_monomial.Goals as goal

pub loop-k-preserved : goal.loop-k-preserved
loop-k-preserved c =
    let s = c.args in
    variable_more s.p s.n s.a.now s.points.now c.loop-k.values _ c.loop-k.k (omega arith) (omega arith) (omega arith) (omega arith) c.multiply_variable.ensures c.loop-k.invariant

pub returns : goal.returns
returns c =
    let s = c.args in
    all_left s.p s.n s.a.now s.points.now c.loop-k.values c.loop-k.k (omega arith) (omega arith) c.loop-k.invariant
