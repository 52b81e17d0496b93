-- `moves::first_record` meets its contract.
use mathlib.Core.Path.{refl, sym}
use borrow.Author.Tests.{eq-eqb, ne_eqb}
use Rattle.courses.proofs.moves.first_record.Goals as goal

pub returns-then-found-ne0 : goal.returns-then-found-ne0
returns-then-found-ne0 c = rw (ne_eqb _ 0 c.if-found-ne0.true) refl

pub returns-then-fault : goal.returns-then-fault
returns-then-fault c = rw (eq-eqb _ 0 c.if-found-ne0.false, c.if-fault.true) refl

pub returns : goal.returns
returns c = let z = c.if-found-ne0.false in rw (eq-eqb _ 0 z, c.if-fault.false) (sym z)
