-- `open::first_open` meets its contract.
use mathlib.Core.Path.{sym, ◌∙◌}
use native.Mathlib.Omega.{arith}
use lib.Count.{trailing_le}
use Rattle.words.proofs.PlaceLaws.{full_word, open_word, no_open}
use Rattle.words.proofs.open.first_open.Goals as goal

pub loop-w-init : goal.loop-w-init
loop-w-init c = λ i h. c.requires.1 i (omega arith)

pub overflow_cast-result : goal.overflow_cast-result
overflow_cast-result c = record { fits = omega (arith, trailing_le 64 c.others-open.result) }

pub overflow_add-result : goal.overflow_add-result
overflow_add-result c = record { fits = omega (arith, trailing_le 64 c.others-open.result) }

pub returns-then-open-ne0 : goal.returns-then-open-ne0
returns-then-open-ne0 c = let l = c in open_word _ l.loop-w.w c.others-open.result c.others-open.ensures (omega arith)
    l.loop-w.invariant (omega (arith, c.others-open.type_inv)) c.if-open-ne0.true

pub loop-w-preserved : goal.loop-w-preserved
loop-w-preserved c = let l = c in full_word _ l.loop-w.w l.loop-w.invariant (sym c.others-open.ensures ∙ c.if-open-ne0.false)

pub returns : goal.returns
returns c = no_open _ (λ i h. c.loop-w.invariant i (omega arith))
