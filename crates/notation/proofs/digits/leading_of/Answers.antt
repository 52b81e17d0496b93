-- `digits::leading_of` meets its contract.
use borrow.Author.Tests.{eq-eqb, ne_eqb}
use Rattle.notation.specs.Said.{leading_of}
use Rattle.notation.proofs.digits.leading_of.Goals as goal

pub returns-then-count-eq0 : goal.returns-then-count-eq0
unfolding leading_of
returns-then-count-eq0 c = simp (eq-eqb _ 0 c.if-count-eq0.true)

pub returns : goal.returns
unfolding leading_of
returns c = simp (ne_eqb _ 0 c.if-count-eq0.false)
