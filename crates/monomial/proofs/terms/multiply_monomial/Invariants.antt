-- `terms::multiply_monomial` meets its contract. At each point, what is there times the value of the variables left is the monomial's value.
use Rattle.monomial.proofs.terms.TermRows.{VariablesLeft}
use Rattle.monomial.proofs.terms.multiply_monomial.Given as goal

abbrev pub invariant-loop-k : goal.invariant-loop-k
invariant-loop-k l = VariablesLeft l.p l.n l.a l.points l.values l.k
