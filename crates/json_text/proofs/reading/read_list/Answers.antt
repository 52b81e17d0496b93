-- `reading::read_list` meets its contract: the list from the place on is the items read and the rest of the reading.
use mathlib.Core.Path.{◌≡◌, refl, sym, ◌∙◌, ap, ap₂}
use mathlib.Core.List.{List, [], ◌∷◌, ◌++◌}
use Prim.Native.Nat.{ℕ, ◌+◌, ◌≤◌, ◌<◌}
use native.Mathlib.Omega.{arith}
use lib.ListN.{length, set, length-append}
use Rattle.json_text.specs.Places.{found, number_at}
use Rattle.json_text.proofs.Places.{here_inside}
use Rattle.json_text.proofs.Stored.{stored, stored_none, stored_put}
use Rattle.json_text.proofs.ListLoops.{Rest, list_none, list_empty, list_opens, list_broken, list_place, list_closed, list_comma, list_neither}
use Rattle.json_text.specs.Said.{number_said}
use Rattle.json_text.proofs.reading.read_list.Goals as goal
use Rattle.json_text.proofs.reading.read_list.Goals.{In_ok-value}

-- The place where a number was read.
module _ (k : In_ok-value) where
  abbrev text : List ℕ
  text = k.args.text.now

  abbrev at : ℕ
  at = k.args.at

  abbrev lent : List ℕ
  lent = k.args.out.now

  abbrev i : ℕ
  i = k.loop-value.i

  abbrev items : List ℕ
  items = k.loop-value.invariant.0

  abbrev here_text : i ≤ length text
  here_text = k.loop-value.invariant.1

  abbrev rest : Rest text at items i
  rest = k.loop-value.invariant.4

  abbrev value : ℕ
  value = k.in_ok-value.field-0.value

  abbrev next : ℕ
  next = k.in_ok-value.field-0.next

  number : found value next ≡ number_at text i
  unfolding number_said
  number = sym (ap number_said k.in_ok-value.was) ∙ k.read_number.ensures

  -- the buffer with the number stored
  kept : (new : List ℕ) → new ≡ set k.loop-value.out k.loop-value.count value → new ≡ stored lent (items ++ (value ∷ []))
  kept new e =
      e ∙ ap₂ (λ (o : List ℕ) (n : ℕ). set o n value) k.loop-value.invariant.5 k.loop-value.invariant.2 ∙ stored_put lent items value

  more : k.loop-value.count + 1 ≡ length (items ++ (value ∷ []))
  more = omega (arith, k.loop-value.invariant.2, length-append items (value ∷ []))

  place : (i < next) × (next ≤ length text)
  place = list_place text at items i here_text rest value next number

pub returns-then-not-is_here : goal.returns-then-not-is_here
returns-then-not-is_here c = list_none _ _ (sym c.is_here.ensures ∙ c.if-not-is_here.true)

pub returns-then-is_here : goal.returns-then-is_here
returns-then-is_here c = ([], list_empty _ _ (sym c.is_here.ensures ∙ c.if-not-is_here.false) (sym c.is_here-2.ensures ∙ c.if-is_here.true), refl, stored_none _)

pub loop-value-init : goal.loop-value-init
loop-value-init c = let e = sym c.is_here.ensures ∙ c.if-not-is_here.false in let h = here_inside 91 _ _ e in ([], omega arith, refl, omega arith, list_opens _ _ e (sym c.is_here-2.ensures ∙ c.if-is_here.false), stored_none _)

pub returns-in_err-value : goal.returns-in_err-value
unfolding number_said
returns-in_err-value c = rw c.from_residual.ensures (list_broken _ _ c.loop-value.invariant.0 _ c.loop-value.invariant.1 c.loop-value.invariant.4 (sym (ap number_said c.in_err-value.was) ∙ c.read_number.ensures))

pub overflow_add-result-then-is_here-2 : goal.overflow_add-result-then-is_here-2
overflow_add-result-then-is_here-2 c = let h = here_inside 93 _ _ (sym c.is_here-in-loop-value.ensures ∙ c.if-is_here-2.true) in record { fits = omega arith }

pub returns-then-is_here-2 : goal.returns-then-is_here-2
returns-then-is_here-2 c = let k = (goal.at.returns-then-is_here-2 c).In_ok-value in (items k ++ (value k ∷ []), list_closed (text k) (at k) (items k) (i k) (here_text k) (rest k) (value k) (next k) (number k) (sym c.is_here-in-loop-value.ensures ∙ c.if-is_here-2.true), more k, kept k _ c.store.ensures)

pub returns-then-not-is_here-2 : goal.returns-then-not-is_here-2
returns-then-not-is_here-2 c = let k = (goal.at.returns-then-not-is_here-2 c).In_ok-value in list_neither (text k) (at k) (items k) (i k) (here_text k) (rest k) (value k) (next k) (number k) (sym c.is_here-in-loop-value.ensures ∙ c.if-is_here-2.false) (sym c.is_here-in-loop-value-2.ensures ∙ c.if-not-is_here-2.true)

pub overflow_add-i-in-loop-value : goal.overflow_add-i-in-loop-value
overflow_add-i-in-loop-value c = let h = here_inside 44 _ _ (sym c.is_here-in-loop-value-2.ensures ∙ c.if-not-is_here-2.false) in record { fits = omega arith }

pub loop-value-smaller : goal.loop-value-smaller
loop-value-smaller c = let k = (goal.at.loop-value-smaller c).In_ok-value in let h = here_inside 44 (text k) (next k) (sym c.is_here-in-loop-value-2.ensures ∙ c.if-not-is_here-2.false) in let p = place k in omega arith

pub loop-value-preserved : goal.loop-value-preserved
loop-value-preserved c =
    let k = (goal.at.loop-value-preserved c).In_ok-value in
    let h = here_inside 44 (text k) (next k) (sym c.is_here-in-loop-value-2.ensures ∙ c.if-not-is_here-2.false) in
    let p = place k in
    let q = c.loop-value.invariant.3 in (
      items k ++ (value k ∷ []),
      omega arith,
      more k,
      omega arith,
      list_comma (text k) (at k) (items k) (i k) (here_text k) (rest k) (value k) (next k) (number k) (sym c.is_here-in-loop-value.ensures ∙ c.if-is_here-2.false) (sym c.is_here-in-loop-value-2.ensures ∙ c.if-not-is_here-2.false),
      kept k _ c.store.ensures,
    )
