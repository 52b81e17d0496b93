-- `digits::read_leading` meets its contract. The digits from `i` on, behind the number so far, write the number of all, and end where all do.
use mathlib.Core.Path.{◌≡◌, refl, sym, ap, ◌∙◌}
use mathlib.Core.Bool.{true}
use mathlib.Core.List.{List}
use Prim.Native.Nat.{ℕ, ◌+◌, ◌*◌, ◌<◌, ◌≤◌}
use native.Mathlib.Nat.{zero-add}
use native.Mathlib.Omega.{arith}
use lib.ListN.{length, get_or, drop}
use Rattle.notation.specs.Digits.{is_digit, digits_from}
use Rattle.notation.specs.Fields.{front}
use Rattle.notation.specs.Said.{leading_of}
use Rattle.notation.proofs.digits.NumberDigits.{tens, hundred, digit_range}
use Rattle.notation.proofs.fields.Searches.{front_on, front_stop, front_end}
use Rattle.notation.proofs.digits.LeadingDigits.{digits, digits_next, leading_done, leading_long}
use Rattle.notation.proofs.digits.read_leading.Goals as goal
use Rattle.notation.proofs.digits.read_leading.Goals.{After-leading_of-2, At-loop-i, Else-i-eq3, Else-not-is_ascii_digit}

abbrev text : At-loop-i → List ℕ
text l = l.args.content.now

abbrev turn : Else-not-is_ascii_digit → At-loop-i
turn d = (goal.at.Else-not-is_ascii_digit d).At-loop-i

module _ (d : Else-not-is_ascii_digit) where
  taken : (turn d).loop-i.i < length (text (turn d))
  taken = d.loop-i-test.true

  digit : is_digit (get_or (text (turn d)) (turn d).loop-i.i 0) ≡ true
  unfolding is_digit
  digit = sym d.is_ascii_digit.ensures.value ∙ d.if-not-is_ascii_digit.false

  range : (48 ≤ get_or (text (turn d)) (turn d).loop-i.i 0) × (get_or (text (turn d)) (turn d).loop-i.i 0 ≤ 57)
  range = digit_range _ digit

  on : (turn d).loop-i.i + 1 + front is_digit (drop ((turn d).loop-i.i + 1) (text (turn d))) ≡ front is_digit (text (turn d))
  on = front_on is_digit _ (turn d).loop-i.i taken digit ∙ (turn d).loop-i.invariant.2

small : (c : Else-i-eq3) → (turn (goal.at.Else-i-eq3 c).Else-not-is_ascii_digit).loop-i.size < 100
small c =
    let l = turn (goal.at.Else-i-eq3 c).Else-not-is_ascii_digit in
    let h = hundred l.loop-i.i (omega (arith, l.loop-i.invariant.0, c.if-i-eq3.false)) in
    omega (arith, l.loop-i.invariant.1)

-- all bytes have been read
ended : (c : After-leading_of-2) → c.loop-i.i ≡ length c.args.content.now
ended c = omega arith

pub loop-i-init : goal.loop-i-init
loop-i-init c = (omega arith, omega arith, zero-add _, refl)

pub returns-then-not-is_ascii_digit : goal.returns-then-not-is_ascii_digit
unfolding is_digit
returns-then-not-is_ascii_digit c = let l = c in
    leading_done (text (goal.at.returns-then-not-is_ascii_digit l).At-loop-i) l.loop-i.size l.loop-i.i l.loop-i.invariant.0
    (front_stop is_digit _ l.loop-i.i c.loop-i-test.true (sym c.is_ascii_digit.ensures.value ∙ c.if-not-is_ascii_digit.true))
    l.loop-i.invariant.2 l.loop-i.invariant.3 c.leading_of.ensures

pub returns-then-i-eq3 : goal.returns-then-i-eq3
returns-then-i-eq3 c = leading_long _ (omega (arith, on (goal.at.returns-then-i-eq3 c).Else-not-is_ascii_digit, c.if-i-eq3.true))

pub overflow_mul-size : goal.overflow_mul-size
overflow_mul-size c = omega (arith, small (goal.at.overflow_mul-size c).Else-i-eq3)

pub overflow_add-size : goal.overflow_add-size
overflow_add-size c = omega (arith, small (goal.at.overflow_add-size c).Else-i-eq3, range (goal.at.overflow_add-size c).Else-not-is_ascii_digit, c.from.ensures)

pub loop-i-preserved : goal.loop-i-preserved
loop-i-preserved c = let d = c in
    let l = turn (goal.at.loop-i-preserved d).Else-not-is_ascii_digit in (
      omega (arith, l.loop-i.invariant.0, c.if-i-eq3.false),
      omega (arith, l.loop-i.invariant.1, tens l.loop-i.i, range (goal.at.loop-i-preserved d).Else-not-is_ascii_digit),
      on (goal.at.loop-i-preserved d).Else-not-is_ascii_digit,
      ap (λ (k : ℕ). digits_from (10 * c.loop-i.size + k) (digits (drop (c.loop-i.i + 1) c.args.content.now))) c.from.ensures ∙ digits_next _ l.loop-i.size l.loop-i.i (taken (goal.at.loop-i-preserved d).Else-not-is_ascii_digit) (digit (goal.at.loop-i-preserved d).Else-not-is_ascii_digit) ∙ l.loop-i.invariant.3,
    )

pub returns : goal.returns
returns c = let l = c in
    leading_done (text (goal.at.returns l).At-loop-i) l.loop-i.size l.loop-i.i l.loop-i.invariant.0 (front_end is_digit _ l.loop-i.i c.loop-i-test.false) l.loop-i.invariant.2 l.loop-i.invariant.3 (c.leading_of-2.ensures ∙ ap (leading_of c.loop-i.size) (sym (ended c)))
