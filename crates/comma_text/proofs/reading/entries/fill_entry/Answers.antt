-- `entries::fill_entry` meets its contract: the point, and behind it the value.
use Rattle.comma_text.proofs.reading.entries.EntryFilled.{last_column, value_done}
use Rattle.comma_text.proofs.reading.entries.fill_entry.Goals as goal

pub residue_at-last-requires : goal.residue_at-last-requires
residue_at-last-requires c = let f = c in record { at_in_bounds = (f.fill_point-point.ensures.fact_1.within, f.requires.at_in_bounds.4); fact = (last_column _ _ _ _ _ _ f.fill_point-point.ensures.fact_1).read }

pub returns : goal.returns
returns c = let f = c.fill_point-point.ensures in record {
  fact_1 = value_done _ _ _ _ _ _ f.fact_1 c.residue_at-last.result c.residue_at-last.ensures c.is_some.result c.is_some.ensures c.unwrap_or.result c.unwrap_or.ensures;
  fact_2 = f.fact_2;
}
