-- What the inner readers answer, by places in the text, in the terms of the definitions of fields: for each case of an answer its number in docs/SCOPE.md's
-- list of refusals and its values. What was read is not refused; what breaks the rules of the text is, with 2.
use Rattle.std.specs.Prelude.{◌≡◌, Bool, true, false, cond, List, [], ◌∷◌, ℕ, suc, ◌-◌, ◌≤◌, length, take, drop, eqb, Option, Some, None}
use Rattle.notation.specs.Fields.{quote, Field, field, broken, ending, front, is_plain}
use Rattle.notation.specs.declared.fields.End.{End}
use Rattle.notation.specs.declared.fields.Span.{Span}

-- how many bytes stand before the quote that closes a quoted field, which no other quote follows; all where none closes it
unfoldable pub closing : List ℕ → ℕ
closing [] = 0
closing (b ∷ []) = cond (eqb b quote) 0 1
closing (b ∷ c ∷ l) = cond (eqb b quote) (cond (eqb c quote) (suc (suc (closing l))) 0) (suc (closing (c ∷ l)))

-- the bytes between the quotes, each pair of quotes as one
unfoldable pub undoubled : List ℕ → List ℕ
undoubled [] = []
undoubled (b ∷ []) = b ∷ []
undoubled (b ∷ c ∷ l) = cond (eqb b quote) (b ∷ undoubled l) (b ∷ undoubled (c ∷ l))

-- of a field that a definition reads, or does not
unfoldable pub field_number : {A : Type 0} → Field A → ℕ
field_number (field content more rest) = 0
field_number broken = 2

-- what ended a field of this content
unfoldable pub ended_by : List ℕ → List ℕ → Option End → Field (List ℕ)
ended_by text content (Some e) = field content e.more (drop e.next text)
ended_by text content None = broken

unfoldable pub end_number : Option End → ℕ
end_number (Some e) = 0
end_number None = 2

abbrev pub EndWithin : ℕ → Option End → Type 0
EndWithin n (Some e) = e.next ≤ n
EndWithin n None = Unit {0}

-- behind the content of a quoted field: the quote that closes it, and what comes behind
unfoldable pub closed : List ℕ → List ℕ → Field (List ℕ)
closed content [] = broken
closed content (b ∷ l) = cond (eqb b quote) (ending content l) broken

-- behind the content of a field with quotes or without
abbrev pub ending_in : Bool → List ℕ → List ℕ → Field (List ℕ)
ending_in true = closed
ending_in false = ending

-- `read_end` and `content_end` at a place: what ended a field with quotes or without there, whatever its content
pub record EndRead (text : List ℕ) (at : ℕ) (quotes : Bool) (r : Option End) : Type 0 where
  pub said : (content : List ℕ) → ended_by text content r ≡ ending_in quotes content (drop at text)
  pub number : (content : List ℕ) → end_number r ≡ field_number (ending_in quotes content (drop at text))
  pub within : EndWithin (length text) r

-- the field whose bytes, inside its quotes if it has them, are those from one place to the other
unfoldable pub spanned : List ℕ → Option Span → Field (List ℕ)
spanned text (Some s) = field (undoubled (take (s.to - s.from) (drop s.from text))) s.more (drop s.next text)
spanned text None = broken

unfoldable pub span_number : Option Span → ℕ
span_number (Some s) = 0
span_number None = 2

-- the content of a field at the front of a text: how many bytes stand before it, the opening quote or none, and how many it has
unfoldable pub opening : List ℕ → ℕ
opening [] = 0
opening (b ∷ l) = cond (eqb b quote) 1 0

unfoldable pub content_length : List ℕ → ℕ
content_length [] = 0
content_length (b ∷ l) = cond (eqb b quote) (closing l) (front is_plain (b ∷ l))

-- the places from which and up to which it is
abbrev pub SpanAt : ℕ → ℕ → Option Span → Type 0
SpanAt start end (Some s) = (s.from ≡ start) × (s.to ≡ end)
SpanAt start end None = Unit {0}

abbrev pub SpanWithin : ℕ → Option Span → Type 0
SpanWithin n (Some s) = (s.from ≤ s.to) × (s.to ≤ n) × (s.next ≤ n)
SpanWithin n None = Unit {0}

-- `read_quoted` and `read_field`: this field, whose content has these places
pub record SpanRead (text : List ℕ) (f : Field (List ℕ)) (start end : ℕ) (r : Option Span) : Type 0 where
  pub said : spanned text r ≡ f
  pub number : span_number r ≡ field_number f
  pub places : SpanAt start end r
  pub within : SpanWithin (length text) r
