-- `pivots::lost` meets its contract.
use Rattle.words.specs.Packed.{words, pivot_words}
use Rattle.words.proofs.LoseLaws.{lose_none, lose_some}
use Rattle.words.proofs.pivots.lost.Goals as goal

pub returns-then-own-place-eq0 : goal.returns-then-own-place-eq0
returns-then-own-place-eq0 c = lose_none _ (pivot_words _ _ _) (words _ _) c.if-own-place-eq0.true

pub returns : goal.returns
returns c = lose_some _ (pivot_words _ _ _) (words _ _) c.if-own-place-eq0.false
