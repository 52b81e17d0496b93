-- `parity::put_terms` meets its contract: the set of the terms seen so far.
use Rattle.std.proofs.Common.{length}
use Rattle.interpolation.proofs.ParityLaws.{TermsIn}
use Rattle.interpolation.proofs.parity.put_terms.Given as goal

abbrev pub invariant-loop-c : goal.invariant-loop-c
invariant-loop-c l = TermsIn l.coefficients l.exponents (length l.yielded) l.polynomial
