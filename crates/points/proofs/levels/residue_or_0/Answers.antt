-- `levels::residue_or_0` meets its contract.
use Rattle.std.proofs.Common.{ap, ◌∙◌, w8}
use mir.Facts.{to_z-of_z}
use Rattle.residue.specs.Level.{residue_of}
use Rattle.specification.specs.Levels.{residue_or0}
use Rattle.points.proofs.levels.residue_or_0.Goals as goal

pub returns : goal.returns
unfolding residue_or0
returns c =
    c.unwrap_or.ensures ∙ ap residue_or0 (c.residue.ensures ∙ ap (residue_of c.args.p) (to_z-of_z {w = w8} c.ranges.level))
