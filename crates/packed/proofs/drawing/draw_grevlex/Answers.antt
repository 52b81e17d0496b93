-- `drawing::draw_grevlex` meets its contract: the constant tables are those of grevlex.
use Rattle.packed.proofs.SequenceTables.{grevlex_under}
use Rattle.packed.proofs.drawing.draw_grevlex.Goals as goal

pub walk-requires : goal.walk-requires
walk-requires c = let s = c in
    let t = grevlex_under s.args.settings.order s.args.settings.weights s.args.settings.variables s.requires.points_given.1.1
    s.requires.points_given.0.settings.few in record { points_given = (s.requires.points_given.0, s.requires.points_given.1.0); sequence = t.0; squares = t.1; standard_value = s.requires.standard_value }
