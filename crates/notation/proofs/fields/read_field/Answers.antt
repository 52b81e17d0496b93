-- `fields::read_field` meets its contract: with an opening quote or without.
use mathlib.Core.Path.{◌≡◌, sym, ◌∙◌, subst}
use mathlib.Core.List.{List}
use Prim.Native.Nat.{ℕ, ◌+◌, ◌-◌, ◌<◌, ◌≤◌}
use native.Mathlib.Omega.{arith}
use lib.ListN.{length, get_or, take, drop, length-drop}
use Rattle.std.specs.Prelude.{Option, Some, None}
use Rattle.std.proofs.Common.{rules}
use Rattle.notation.specs.Fields.{quote, is_plain, field_of}
use Rattle.notation.specs.Spans.{opening, content_length, ended_by, spanned, SpanAt, SpanRead}
use Rattle.notation.specs.declared.fields.Span.{Span}
use Rattle.notation.proofs.Numbers.{span_says}
use Rattle.notation.proofs.fields.FieldSpans.{rest_size, rest_first, front_le, span_plain, field_quoted, field_plain, places_quoted, places_plain}
use Rattle.notation.proofs.fields.read_field.Goals as goal
use Rattle.notation.proofs.fields.read_field.Goals.{After-plain_end-to, then-text-at-lt1, else-text-at-lt1+in_default-1}

-- places by equal numbers
placed : (r : Option Span) {a b c d : ℕ} → a ≡ c → b ≡ d → SpanAt a b r → SpanAt c d r
placed r {b = b} {c = c} e f p = subst (λ (x : ℕ). SpanAt c x r) f (subst (λ (x : ℕ). SpanAt x b r) e p)

-- The place: the field begins with no quote, and its end was looked for.
module _ (c : After-plain_end-to) where
  abbrev text : List ℕ
  text = c.args.text.now

  within : c.plain_end-to.result ≤ length text
  within = omega (arith, c.plain_end-to.ensures, front_le is_plain (drop c.args.at text), length-drop c.args.at text, c.requires)

  otherwise : c.args.at < length text → get_or text c.args.at 0 ≡ quote → ⊥
  otherwise h =
      elim c.if-text-at-lt1.branch [
        | then-text-at-lt1 w ↦ let z : length (take (length text - c.args.at) (drop c.args.at text)) < 1 = search rules in λ e. absurd (omega (arith, rest_size text c.args.at))
        | else-text-at-lt1+in_default-1 w ↦ rw (← rest_first text c.args.at h) (search rules)
      ]

pub returns-in-34 : goal.returns-in-34
returns-in-34 c = let t = c.args.text.now in
    let at = c.args.at in
    let r = c.read_quoted.ensures in
    let h : at < length t = omega (arith, rest_size t at) in
    let q : get_or t at 0 ≡ quote = rw (← rest_first t at h) (search rules) in
    let p = places_quoted t at h q in
    span_says (r.said ∙ field_quoted t at h q) (placed c.read_quoted.result p.0 p.1 r.places) r.within

pub read_end-requires : goal.read_end-requires
read_end-requires c = within c

pub returns-in_err-more : goal.returns-in_err-more
unfolding spanned ended_by
returns-in_err-more c = let t = c.args.text.now in
    let at = c.args.at in
    subst (SpanRead t (field_of (drop at t)) (at + opening (drop at t)) (at + opening (drop at t) + content_length (drop at t))) (sym c.from_residual.ensures)
    (span_says (span_plain t at c.plain_end-to.result None c.plain_end-to.ensures c.in_err-more.ensures.said ∙ field_plain t at (otherwise (goal.at.returns-in_err-more c).After-plain_end-to)) tt tt)

pub returns : goal.returns
unfolding spanned ended_by
returns c = let t = c.args.text.now in
    let at = c.args.at in
    let begins = otherwise (goal.at.returns c).After-plain_end-to in
    let end = c.in_ok-more.ensures in
    let p = places_plain t at begins in
    span_says (span_plain t at c.plain_end-to.result (Some c.in_ok-more.field-0) c.plain_end-to.ensures end.said ∙ field_plain t at begins) (p.0, c.plain_end-to.ensures ∙ p.1)
    (omega (arith, c.plain_end-to.ensures), within (goal.at.returns c).After-plain_end-to, end.within)
