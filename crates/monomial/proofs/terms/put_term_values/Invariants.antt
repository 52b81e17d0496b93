-- `terms::put_term_values` meets its contract. The working row begins with the values of the terms taken so far.
use mathlib.Core.Path.{◌≡◌}
use lib.ListN.{length}
use Rattle.residue.specs.Layout.{over}
use Rattle.monomial.proofs.terms.TermRows.{sums}
use Rattle.monomial.proofs.terms.put_term_values.Given as goal

abbrev pub invariant-loop-c : goal.invariant-loop-c
invariant-loop-c l = l.work ≡ over (sums l.p l.n l.coefficients l.exponents l.points (length l.yielded)) l.initial.work
