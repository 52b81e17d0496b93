-- `reading::read_number` meets its contract: the digits there, their size and the byte in front.
use mathlib.Core.Path.{sym, ap, ◌∙◌, subst}
use mathlib.Core.List.{List}
use Prim.Native.Nat.{ℕ}
use native.Mathlib.Omega.{arith}
use Rattle.notation.specs.Said.{LeadingRead}
use Rattle.std.proofs.Common.{Some}
use Rattle.json_text.proofs.NumberAt.{no_byte, one_byte, lent, number_none, number_inside, number_large, number_zero, number_one, number_more}
use Rattle.json_text.specs.Said.{number_said}
use Rattle.json_text.proofs.reading.read_number.Goals as goal
use Rattle.json_text.proofs.reading.read_number.Goals.{In_ok-size, else-count-gt1-via-then-count-gt1+else-is_here, else-count-gt1-via-else-count-gt1}

-- The place where digits were found.
module _ (k : In_ok-size) where
  abbrev text : List ℕ
  text = k.args.text.now

  abbrev at : ℕ
  at = k.args.at

  abbrev size : ℕ
  size = k.in_ok-size.field-0.size

  abbrev count : ℕ
  count = k.in_ok-size.field-0.count

  digits : LeadingRead (lent text at) (Some k.in_ok-size.field-0)
  digits = subst (LeadingRead (lent text at)) k.in_ok-size.was k.read_leading.ensures

pub returns-in_err-size : goal.returns-in_err-size
unfolding number_said
returns-in_err-size c = ap number_said c.from_residual.ensures ∙ number_none _ _ (subst (LeadingRead _) c.in_err-size.was c.read_leading.ensures)

pub returns-in_err-value : goal.returns-in_err-value
unfolding number_said
returns-in_err-value c = let k = (goal.at.returns-in_err-value c).In_ok-size in
    ap number_said c.from_residual-in_err-value.ensures ∙ number_large (text k) (at k) (size k) (count k) (digits k) (no_byte c.try_from.result (size k) c.try_from.ensures (sym c.ok.ensures.value ∙ c.in_err-value.was))

pub returns-then-is_here : goal.returns-then-is_here
unfolding number_said
returns-then-is_here c = let k = (goal.at.returns-then-is_here c).In_ok-size in number_zero (text k) (at k) (size k) (count k) (digits k) (λ e. omega (arith, c.if-count-gt1.true, e)) (sym c.is_here.ensures ∙ c.if-is_here.true)

pub overflow_add-result : goal.overflow_add-result
overflow_add-result c = let k = (goal.at.overflow_add-result c).In_ok-size in let b = number_inside (text k) (at k) (size k) (count k) (digits k) in record { fits = omega arith }

pub returns : goal.returns
unfolding number_said
returns c =
    let k = (goal.at.returns c).In_ok-size in
    let b = one_byte c.try_from.result (size k) c.in_ok-value.value c.try_from.ensures (sym c.ok.ensures.value ∙ c.in_ok-value.was) in
    let inside = number_inside (text k) (at k) (size k) (count k) (digits k) in
    rw b.1 (elim c.else-count-gt1.branch [
      | else-count-gt1-via-then-count-gt1+else-is_here w ↦ number_more (text k) (at k) (size k) (count k) (digits k) b.0 (λ e. omega (arith, w.if-count-gt1.true, e)) (sym w.is_here.ensures ∙ w.if-is_here.false)
      | else-count-gt1-via-else-count-gt1 w ↦ number_one (text k) (at k) (size k) (count k) (digits k) b.0 (omega (arith, inside.0, w.if-count-gt1.false))
    ])
