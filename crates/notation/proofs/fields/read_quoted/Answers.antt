-- `fields::read_quoted` meets its contract: what stands at the closing quote ends the field.
use mathlib.Core.Path.{refl, sym, subst}
use Prim.Native.Nat.{◌+◌, ◌≤◌}
use native.Mathlib.Omega.{arith}
use lib.ListN.{length, drop, length-drop}
use Rattle.std.specs.Prelude.{Some, None}
use Rattle.notation.specs.Fields.{quoted}
use Rattle.notation.specs.Spans.{closing, ended_by, spanned, SpanRead}
use Rattle.notation.proofs.Numbers.{span_says}
use Rattle.notation.proofs.fields.FieldSpans.{closing_le, span_quoted}
use Rattle.notation.proofs.fields.read_quoted.Goals as goal
use Rattle.notation.proofs.fields.read_quoted.Goals.{After-quote_end-to}

-- The place: the closing quote was looked for.
within : (c : After-quote_end-to) → c.quote_end-to.result ≤ length c.args.text.now
within c = omega (arith, c.quote_end-to.ensures, closing_le (drop c.args.from c.args.text.now), length-drop c.args.from c.args.text.now, c.requires)

pub content_end-requires : goal.content_end-requires
content_end-requires c = within c

pub returns-in_err-more : goal.returns-in_err-more
unfolding spanned ended_by
returns-in_err-more c = let t = c.args.text.now in
    let from = c.args.from in
    subst (SpanRead t (quoted (drop from t)) from (from + closing (drop from t))) (sym c.from_residual.ensures)
    (span_says (span_quoted t from c.quote_end-to.result None c.quote_end-to.ensures c.in_err-more.ensures.said) tt tt)

pub returns : goal.returns
unfolding spanned ended_by
returns c = let t = c.args.text.now in
    let end = c.in_ok-more.ensures in
    span_says (span_quoted t c.args.from c.quote_end-to.result (Some c.in_ok-more.field-0) c.quote_end-to.ensures end.said) (refl, c.quote_end-to.ensures)
    (omega (arith, c.quote_end-to.ensures), within (goal.at.returns c).After-quote_end-to, end.within)
