-- `records::read_header` meets its contract. The header from `at` on, behind the names so far, is the whole one; each name takes a byte.
use mathlib.Core.Path.{◌≡◌, refl, sym, ap, ◌∙◌}
use mathlib.Core.Bool.{Bool, true, false}
use mathlib.Core.List.{List}
use Prim.Native.Nat.{ℕ, ◌-◌, ◌<◌, ◌≤◌}
use native.Mathlib.Omega.{arith}
use lib.ListN.{length, take, drop, length-drop}
use Rattle.std.specs.Prelude.{Option, Some, None}
use Rattle.notation.specs.Fields.{field, field_of, kept}
use Rattle.notation.specs.Forms.{header_of, last_field}
use Rattle.notation.specs.Spans.{undoubled, spanned}
use Rattle.notation.specs.Said.{last_said}
use Rattle.comma_text.specs.reading.Records.{header_part, header_said}
use Rattle.notation.specs.declared.fields.Span.{Span}
use Rattle.notation.specs.declared.forms.Settings.{Settings}
use Rattle.comma_text.proofs.reading.records.Numbers.{header_read}
use Rattle.comma_text.proofs.reading.records.HeaderFields.{headed, head_broken, head_more, head_last, field_shorter}
use Rattle.comma_text.proofs.reading.records.read_header.Goals as goal
use Rattle.comma_text.proofs.reading.records.read_header.Goals.{After-read_last, Else-not-more, In_ok-from}

-- The place: a field was read.
module _ (c : In_ok-from) where
  abbrev text : List ℕ
  text = c.args.text.now

  abbrev span : Span
  span = c.in_ok-from.field-0

  within : (span.from ≤ span.to) × (span.to ≤ length text) × (span.next ≤ length text)
  within = c.in_ok-from.ensures.within

  abbrev raw : List ℕ
  raw = take (span.to - span.from) (drop span.from text)

  abbrev rest : List ℕ
  rest = drop span.next text

  here : (more : Bool) → span.more ≡ more → field (undoubled raw) more rest ≡ field_of (drop c.loop-from.at text)
  unfolding spanned
  here more e = ap (λ (b : Bool). field (undoubled raw) b rest) (sym e) ∙ c.in_ok-from.ensures.said

-- The place: it was the last, and what it says was read or not.
module _ (c : After-read_last) where
  abbrev known : In_ok-from
  known = (goal.at.After-read_last c).In_ok-from

  last : (r : Option Settings) → last_said c.loop-from.variables c.read_last.new.weights r ≡ last_field c.loop-from.variables (raw known)
      → kept (last_said c.loop-from.variables c.read_last.new.weights r) (rest known) ≡ header_part (text known)
  last r e =
      head_last c.loop-from.variables (drop c.loop-from.at (text known)) (raw known) (rest known) (here known false c.if-not-more.true) e
      ∙ c.loop-from.invariant.whole

-- The place: another follows.
module _ (c : Else-not-more) where
  abbrev passed : In_ok-from
  passed = (goal.at.Else-not-more c).In_ok-from

  next : c.loop-from.at < (span passed).next
  next =
      let h = field_shorter c.loop-from.variables (drop c.loop-from.at (text passed)) (undoubled (raw passed)) (rest passed) (here passed true c.if-not-more.false) in
      let w = within passed in
      omega (arith, length-drop c.loop-from.at (text passed), length-drop (span passed).next (text passed))

pub loop-from-init : goal.loop-from-init
unfolding headed header_part header_of
loop-from-init c = record { within = omega arith; few = omega arith; whole = refl; kept = refl }

pub returns-in_err-from : goal.returns-in_err-from
unfolding header_said spanned
returns-in_err-from c =
    rw c.from_residual.ensures (header_read _ _ _ (head_broken c.loop-from.variables (drop c.loop-from.at c.args.text.now) c.in_err-from.ensures.said ∙ c.loop-from.invariant.whole) tt)

pub returns-in_err-modulus : goal.returns-in_err-modulus
unfolding header_said last_said kept
returns-in_err-modulus c = let d = (goal.at.returns-in_err-modulus c).After-read_last in
    rw c.from_residual-in_err-modulus.ensures (header_read _ _ _ (last d None c.in_err-modulus.ensures.said) tt)

pub returns-then-not-more : goal.returns-then-not-more
unfolding header_said last_said kept
returns-then-not-more c = let d = (goal.at.returns-then-not-more c).After-read_last in
    header_read _ _ _ (last d (Some c.in_ok-modulus.field-0) c.in_ok-modulus.ensures.said) (within (known d)).2

pub loop-from-smaller : goal.loop-from-smaller
loop-from-smaller c = let d = (goal.at.loop-from-smaller c).Else-not-more in let h = next d in let w = within (passed d) in omega arith

pub loop-from-preserved : goal.loop-from-preserved
loop-from-preserved c = let d = (goal.at.loop-from-preserved c).Else-not-more in
    let k = passed d in
    let h = next d in record {
      within = (within k).2;
      few = omega arith;
      whole = head_more c.loop-from.variables (drop c.loop-from.at (text k)) (undoubled (raw k)) (rest k) (here k true c.if-not-more.false) ∙ c.loop-from.invariant.whole;
      kept = c.loop-from.invariant.kept;
    }
