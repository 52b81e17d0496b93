-- `documents::is_table` meets its contract.
use mathlib.Core.Path.{◌∙◌}
use borrow.Author.Tests.{eq-eqb, ne_eqb}
use Rattle.json_text.proofs.Stored.{table_told}
use Rattle.json_text.proofs.documents.is_table.Goals as goal

pub returns-else-lengths-rows : goal.returns-else-lengths-rows
returns-else-lengths-rows c l e = let s = c in
    ne_eqb _ _ c.if-lengths-rows.false ∙ rw (ne_eqb _ _ c.if-lengths-rows.false)
    at (table_told s.args.rows s.args.columns l s.args.lengths e)

pub returns-then-rows-eq0 : goal.returns-then-rows-eq0
returns-then-rows-eq0 c l e = let s = c in
    eq-eqb _ _ c.if-rows-eq0.true ∙ rw (eq-eqb _ _ c.if-lengths-rows.true, eq-eqb _ 0 c.if-rows-eq0.true)
    at (table_told s.args.rows s.args.columns l s.args.lengths e)

pub returns-else-rows-eq0 : goal.returns-else-rows-eq0
returns-else-rows-eq0 c l e = let s = c in
    c.eq.ensures ∙ rw (eq-eqb _ _ c.if-lengths-rows.true, ne_eqb _ 0 c.if-rows-eq0.false)
    at (table_told s.args.rows s.args.columns l s.args.lengths e)
