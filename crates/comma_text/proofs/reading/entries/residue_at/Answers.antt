-- `entries::residue_at` meets its contract: the field is a level by what is required, and its residue is that of the sign and size read.
use mathlib.Core.Path.{sym, ap, ◌∙◌, subst}
use lib.ListN.{length}
use Rattle.comma_text.specs.reading.Records.{level_at_said, LevelWithin}
use Rattle.comma_text.proofs.reading.records.Numbers.{some_level}
use Rattle.comma_text.proofs.reading.entries.LevelResidues.{placed}
use Rattle.comma_text.proofs.reading.entries.residue_at.Goals as goal

pub unwrap-level-requires : goal.unwrap-level-requires
unwrap-level-requires c = some_level _ _ c.level_at.result c.level_at.ensures c.requires.fact

pub returns : goal.returns
unfolding level_at_said
returns c = let t = c.args.text.now in
    let is = c.unwrap-level.ensures in
    placed _ t _ _ _ _ (ap (level_at_said t) (sym is) ∙ c.level_at.ensures.said) (subst (LevelWithin (length t)) is c.level_at.ensures.within) _ c.residue_of.ensures
