-- `reading::wrong_number` meets its contract.
use mathlib.Core.Path.{◌≡◌, sym, ap, ap₂}
use mathlib.Core.Bool.{Bool, true, false, not, ◌&&◌, ◌||◌}
use borrow.Author.Tests.{eq-eqb, ne_eqb}
use Rattle.course_text.proofs.reading.wrong_number.Goals as goal

-- the three cases of the test
none : (a b : Bool) → a ≡ true → true ≡ (a || b)
none a b e = sym (ap (λ (x : Bool). x || b) e)

unmarked : (a x b : Bool) → a ≡ false → x ≡ true → false ≡ (a || (not x && b))
unmarked a x b e f = sym (ap₂ (λ (y z : Bool). y || (not z && b)) e f)

marked : (a x b : Bool) → a ≡ false → x ≡ false → b ≡ (a || (not x && b))
marked a x b e f = sym (ap₂ (λ (y z : Bool). y || (not z && b)) e f)

pub returns-then-number-eq0 : goal.returns-then-number-eq0
returns-then-number-eq0 c = none _ _ (eq-eqb _ _ c.if-number-eq0.true)

pub returns-then-marks-number-eq0 : goal.returns-then-marks-number-eq0
returns-then-marks-number-eq0 c = unmarked _ _ _ (ne_eqb _ _ c.if-number-eq0.false) (eq-eqb _ _ c.if-marks-number-eq0.true)

pub returns : goal.returns
returns c = marked _ _ _ (ne_eqb _ _ c.if-number-eq0.false) (ne_eqb _ _ c.if-marks-number-eq0.false)
