-- The number of an answer follows from what it says.
use mathlib.Core.Path.{◌≡◌, refl, ap, ◌∙◌}
use mathlib.Core.Bool.{Bool}
use mathlib.Core.List.{List}
use mathlib.Core.Option.{Option}
use Prim.Native.Nat.{ℕ}
use lib.ListN.{length, take, drop}
use Rattle.std.specs.Prelude.{Option as Answer, Some, None}
use Rattle.notation.specs.Digits.{is_digit, decimal_number}
use Rattle.notation.specs.Fields.{Field, front}
use Rattle.notation.specs.Forms.{Ordered, Header}
use Rattle.notation.specs.Said.{form_number, leading_said, leading_number, LeadingEnds, LeadingRead}
use Rattle.notation.specs.Said.{order_said, order_number, OrderRead, last_said, last_number, LastRead}
use Rattle.notation.specs.Spans.{field_number, ended_by, end_number, EndWithin, ending_in, EndRead, spanned, span_number, SpanWithin, SpanAt, SpanRead}
use Rattle.notation.specs.declared.digits.Leading.{Leading}
use Rattle.notation.specs.declared.forms.Settings.{Settings}
use Rattle.notation.specs.declared.fields.End.{End}
use Rattle.notation.specs.declared.fields.Span.{Span}

leading_number_lem : (r : Answer Leading) → leading_number r ≡ form_number (leading_said r)
unfolding leading_number form_number leading_said
leading_number_lem (Some l) = refl
leading_number_lem None = refl

pub leading_says : {t : List ℕ} {r : Answer Leading} → leading_said r ≡ decimal_number (take (front is_digit t) t) → LeadingEnds (front is_digit t) r → LeadingRead t r
leading_says {t} {r} e f = record { said = e; number = leading_number_lem r ∙ ap form_number e; ends = f }

order_number_lem : (weights : List ℕ) (r : Answer ℕ) → order_number r ≡ form_number (order_said weights r)
unfolding order_number form_number order_said
order_number_lem weights (Some k) = refl
order_number_lem weights None = refl

pub order_says : {reads : Option Ordered} {weights : List ℕ} {r : Answer ℕ} → order_said weights r ≡ reads → OrderRead reads weights r
order_says {weights = weights} {r = r} e = record { said = e; number = order_number_lem weights r ∙ ap form_number e }

last_number_lem : (m : ℕ) (weights : List ℕ) (r : Answer Settings) → last_number r ≡ form_number (last_said m weights r)
unfolding last_number form_number last_said
last_number_lem m weights (Some s) = refl
last_number_lem m weights None = refl

pub last_says : {m : ℕ} {reads : Option Header} {weights : List ℕ} {r : Answer Settings} → last_said m weights r ≡ reads → LastRead m reads weights r
last_says {m} {weights = weights} {r = r} e = record { said = e; number = last_number_lem m weights r ∙ ap form_number e }

end_number_lem : (text content : List ℕ) (r : Answer End) → end_number r ≡ field_number (ended_by text content r)
unfolding end_number field_number ended_by
end_number_lem text content (Some e) = refl
end_number_lem text content None = refl

pub end_says : {text : List ℕ} {at : ℕ} {quotes : Bool} {r : Answer End}
    → ((content : List ℕ) → ended_by text content r ≡ ending_in quotes content (drop at text)) → EndWithin (length text) r → EndRead text at quotes r
end_says {text} {r = r} e w = record { said = e; number = λ content. end_number_lem text content r ∙ ap field_number (e content); within = w }

span_number_lem : (text : List ℕ) (r : Answer Span) → span_number r ≡ field_number (spanned text r)
unfolding span_number field_number spanned
span_number_lem text (Some s) = refl
span_number_lem text None = refl

pub span_says : {text : List ℕ} {f : Field (List ℕ)} {start end : ℕ} {r : Answer Span}
    → spanned text r ≡ f → SpanAt start end r → SpanWithin (length text) r → SpanRead text f start end r
span_says {text} {r = r} e p w = record { said = e; number = span_number_lem text r ∙ ap field_number e; places = p; within = w }
