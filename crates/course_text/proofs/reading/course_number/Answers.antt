-- `reading::course_number` meets its contract.
use mathlib.Core.Path.{◌≡◌, refl, sym, ap, ◌∙◌}
use mathlib.Core.Bool.{Bool, true, false, cond}
use Prim.Native.Nat.{ℕ, zero, suc, ◌<◌, ◌≤◌}
use native.Mathlib.Omega.{arith}
use borrow.Author.Tests.{le-leb, lt-leb}
use Rattle.notation.specs.Forms.{negative}
use Rattle.notation.specs.Said.{with_sign}
use Rattle.course_text.specs.Form.{course_in}
use Rattle.course_text.proofs.reading.course_number.Goals as goal

below_none : (b : Bool) (k : ℕ) → b ≡ true → 0 ≡ course_in (with_sign b k)
unfolding course_in with_sign negative
below_none true zero e = refl
below_none true (suc k) e = refl
below_none false k e = absurd (let z : ◌≡◌ {A = ℕ} 0 1 = cc in omega arith)

above_none : (b : Bool) (k : ℕ) → b ≡ false → 99 < k → 0 ≡ course_in (with_sign b k)
unfolding course_in with_sign
above_none b k e h = sym (ap (λ (x : Bool). course_in (with_sign x k)) e ∙ ap (λ (x : Bool). cond x k 0) (lt-leb k 99 h))

itself : (b : Bool) (k : ℕ) → b ≡ false → k ≤ 99 → k ≡ course_in (with_sign b k)
unfolding course_in with_sign
itself b k e h = sym (ap (λ (x : Bool). course_in (with_sign x k)) e ∙ ap (λ (x : Bool). cond x k 0) (le-leb k 99 h))

pub returns-then-negative : goal.returns-then-negative
returns-then-negative c = below_none _ _ c.if-negative.true

pub returns-then-size-gt99 : goal.returns-then-size-gt99
returns-then-size-gt99 c = above_none _ _ c.if-negative.false (omega (arith, c.if-size-gt99.true))

pub returns : goal.returns
returns c = itself _ _ c.if-negative.false (omega (arith, c.if-size-gt99.false))
