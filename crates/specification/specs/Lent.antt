-- The five tables of a call as lists of numbers: as they are lent, and as they are left.
use Rattle.std.specs.Prelude.{List, ℕ}
use denote.Ref.{MutBor}
use Rattle.specification.specs.declared.tables.TablesRef.{TablesRef}
use Rattle.specification.specs.declared.tables.TablesMut.{TablesMut}
use Rattle.specification.specs.Tables.{Tables, five_tables}

abbrev pub lent : TablesRef → Tables
lent t = five_tables t.states.now t.standard.now t.leads.now t.coefficients.now t.counts.now

abbrev pub lent_mut : TablesMut → Tables
lent_mut t = five_tables t.states.now t.standard.now t.leads.now t.coefficients.now t.counts.now

-- What a call leaves in the tables that it was lent by value: `t.exit` has them in their order.
abbrev pub Exit : Type 0
Exit = MutBor (List ℕ) × (MutBor (List ℕ) × (MutBor (List ℕ) × (MutBor (List ℕ) × (MutBor (List ℕ) × Unit {0}))))

abbrev pub left_in : Exit → Tables
left_in t = five_tables t.0.now t.1.0.now t.1.1.0.now t.1.1.1.0.now t.1.1.1.1.0.now
