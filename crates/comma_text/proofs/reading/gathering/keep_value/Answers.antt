-- `gathering::keep_value` meets its contract.
use mathlib.Core.Path.{refl}
use native.Mathlib.Omega.{arith}
use borrow.Author.Tests.{eq-eqb, ne_eqb}
use Rattle.comma_text.proofs.reading.gathering.keep_value.Goals as goal

pub returns-then-at-n : goal.returns-then-at-n
returns-then-at-n c = let e = eq-eqb _ _ c.if-at-n.true in record { fact_1 = rw e (omega arith); fact_2 = rw e refl; fact_3 = rw e refl }

pub returns : goal.returns
returns c = let e = ne_eqb _ _ c.if-at-n.false in record { fact_1 = rw e refl; fact_2 = rw e refl; fact_3 = rw e refl }
