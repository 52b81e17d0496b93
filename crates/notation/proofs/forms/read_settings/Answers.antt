-- `forms::read_settings` meets its contract: the digits, and the word behind them.
use Prim.Native.Nat.{◌≤◌}
use native.Mathlib.Omega.{arith}
use lib.ListN.{length}
use Rattle.notation.specs.Digits.{is_digit}
use Rattle.notation.specs.Forms.{header}
use Rattle.notation.specs.Said.{order_said, last_said}
use Rattle.notation.proofs.Numbers.{last_says}
use Rattle.notation.proofs.fields.FieldSpans.{front_le}
use Rattle.notation.proofs.forms.LastField.{no_digits, digits_and}
use Rattle.notation.proofs.forms.read_settings.Goals as goal
use Rattle.notation.proofs.forms.read_settings.Goals.{In_ok-number}

-- The place: the digits were found.
within : (c : In_ok-number) → c.in_ok-number.number.count ≤ length c.args.content.now
within c = omega (arith, c.in_ok-number.ensures.ends, front_le is_digit c.args.content.now)

pub returns-in_err-number : goal.returns-in_err-number
unfolding last_said
returns-in_err-number c = rw c.from_residual.ensures (last_says (no_digits _ _ c.in_err-number.ensures))

pub slice_bounds-read_order-count : goal.slice_bounds-read_order-count
slice_bounds-read_order-count c = within (goal.at.slice_bounds-read_order-count c).In_ok-number

pub slice_bounds-read_order-start : goal.slice_bounds-read_order-start
slice_bounds-read_order-start c = within (goal.at.slice_bounds-read_order-start c).In_ok-number

pub returns-in_err-order : goal.returns-in_err-order
unfolding last_said order_said header
returns-in_err-order c =
    rw c.from_residual-in_err-order.ensures (last_says (digits_and _ _ c.in_ok-number.number _ c.in_ok-number.ensures c.in_err-order.ensures.said))

pub returns : goal.returns
unfolding last_said order_said header
returns c = last_says (digits_and _ _ c.in_ok-number.number _ c.in_ok-number.ensures c.in_ok-order.ensures.said)
