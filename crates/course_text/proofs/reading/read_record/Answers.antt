-- `reading::read_record` meets its contract: the point, and behind it the course number.
use mathlib.Core.Path.{sym, ap, ◌∙◌, subst}
use lib.ListN.{length}
use Rattle.comma_text.specs.reading.Records.{level_at_said, LevelWithin}
use Rattle.comma_text.proofs.reading.records.Numbers.{some_level}
use Rattle.course_text.proofs.reading.RecordsRead.{column_there, number_done}
use Rattle.course_text.proofs.reading.read_record.Goals as goal

pub unwrap-level-requires : goal.unwrap-level-requires
unwrap-level-requires c = some_level _ _ c.level_at.result c.level_at.ensures (λ e. column_there _ _ _ _ _ _ c.fill_point-point.ensures.fact_1 (sym e))

pub returns : goal.returns
unfolding level_at_said
returns c = let t = c.args.text.now in
    let is = c.unwrap-level.ensures in record {
      fact_1 = number_done _ _ _ _ _ _ c.fill_point-point.ensures.fact_1 _ _ _ (ap (level_at_said t) (sym is) ∙ c.level_at.ensures.said)
          (subst (LevelWithin (length t)) is c.level_at.ensures.within) _ c.course_number.ensures;
      fact_2 = c.fill_point-point.ensures.fact_2;
    }
