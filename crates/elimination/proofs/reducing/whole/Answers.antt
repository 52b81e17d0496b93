-- `reducing::whole` meets its contract.
use borrow.Author.Tests.{lt-ltb, le-ltb}
use Rattle.elimination.specs.Elimination.{whole_width}
use Rattle.elimination.proofs.reducing.whole.Goals as goal

pub returns-then-end-gt112 : goal.returns-then-end-gt112
unfolding whole_width
returns-then-end-gt112 c = simp (lt-ltb _ _ c.if-end-gt112.true)

pub returns : goal.returns
unfolding whole_width
returns c = simp (le-ltb _ _ c.if-end-gt112.false)
