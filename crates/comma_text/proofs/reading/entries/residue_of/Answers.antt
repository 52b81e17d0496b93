-- `entries::residue_of` meets its contract: a size below 128 is a signed byte, and so is its negation.
use mathlib.Core.Path.{ap, ◌∙◌}
use native.Mathlib.Omega.{arith}
use Rattle.residue.specs.Level.{residue_of}
use Rattle.comma_text.proofs.reading.entries.LevelResidues.{outside, negation_fits, minus, plus}
use Rattle.comma_text.proofs.reading.entries.residue_of.Goals as goal

pub returns-then-size-gt127 : goal.returns-then-size-gt127
returns-then-size-gt127 c = outside _ _ _ (omega arith)

pub overflow_sub-level : goal.overflow_sub-level
overflow_sub-level c = negation_fits _ c.if-size-gt127.false

pub returns-then-negative : goal.returns-then-negative
returns-then-negative c = c.residue.ensures ∙ ap (residue_of _) (minus _ c.if-size-gt127.false _ c.if-negative.true)

pub returns : goal.returns
returns c = c.residue-2.ensures ∙ ap (residue_of _) (plus _ c.if-size-gt127.false _ c.if-negative.false)
