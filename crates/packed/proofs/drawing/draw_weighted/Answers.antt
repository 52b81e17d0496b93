-- `drawing::draw_weighted` meets its contract: the tables are computed, and the walk takes them.
use Rattle.packed.proofs.SequenceTables.{weighted_under}
use Rattle.packed.proofs.drawing.draw_weighted.Goals as goal

pub walk-requires : goal.walk-requires
walk-requires c = let s = c in
    let t = weighted_under s.args.settings.order s.args.settings.weights s.requires.points_given.1.1
    (c.put_tables_under.ensures.sequence, c.put_tables_under.ensures.squares) in record { points_given = (s.requires.points_given.0, s.requires.points_given.1.0); sequence = t.0; squares = t.1; standard_value = s.requires.standard_value }
