-- Bytes to records of fields: RFC 4180 with LF accepted as well as CRLF as a record's end (docs/SCOPE.md, 'Reading text').
use Rattle.std.specs.Prelude.{Bool, true, false, not, cond, ◌||◌, List, [], ◌∷◌, ℕ, zero, suc, length, take, drop, eqb}
use Rattle.std.proofs.Math.Option.{Option, some, none}

-- the bytes that mean something
abbrev pub quote : ℕ
quote = 34

abbrev pub comma : ℕ
comma = 44

abbrev pub lf : ℕ
lf = 10

abbrev pub cr : ℕ
cr = 13

-- A field read from the front of a text: its content, whether another field of its record follows, and the text behind; or broken by the text.
pub data Field (A : Type 0) : Type 0 where
  field : (content : A) (more : Bool) (rest : List ℕ) → Field A
  broken : Field A

-- after CR outside quotes only LF may come
unfoldable pub after_cr : List ℕ → List ℕ → Field (List ℕ)
after_cr content [] = broken
after_cr content (b ∷ l) = cond (eqb b lf) (field content false l) broken

-- what comes behind a field's content: a comma, or its record ends by a break or by the text's end
unfoldable pub ending : List ℕ → List ℕ → Field (List ℕ)
ending content [] = field content false []
ending content (b ∷ l) =
    cond (eqb b comma) (field content true l) (cond (eqb b lf) (field content false l) (cond (eqb b cr) (after_cr content l) broken))

-- how many bytes at the front are of this kind
unfoldable pub front : (ℕ → Bool) → List ℕ → ℕ
front kind [] = 0
front kind (b ∷ l) = cond (kind b) (suc (front kind l)) 0

-- an unquoted field holds any bytes but comma, quote, CR and LF
unfoldable pub is_plain : ℕ → Bool
is_plain b = not (eqb b comma || eqb b quote || eqb b cr || eqb b lf)

unfoldable pub unquoted : List ℕ → Field (List ℕ)
unquoted l = ending (take (front is_plain l) l) (drop (front is_plain l) l)

-- a byte more at the front of the content
unfoldable pub with : ℕ → Field (List ℕ) → Field (List ℕ)
with b (field content more rest) = field (b ∷ content) more rest
with b broken = broken

-- inside a quoted field: any bytes, each quote doubled; a quote that is never closed breaks the field
unfoldable pub quoted : List ℕ → Field (List ℕ)
quoted [] = broken
quoted (b ∷ []) = cond (eqb b quote) (ending [] []) broken
quoted (b ∷ c ∷ l) = cond (eqb b quote) (cond (eqb c quote) (with quote (quoted l)) (ending [] (c ∷ l))) (with b (quoted (c ∷ l)))

unfoldable pub field_of : List ℕ → Field (List ℕ)
field_of [] = unquoted []
field_of (b ∷ l) = cond (eqb b quote) (quoted l) (unquoted (b ∷ l))

-- A record read from the front of a text, as the contents of its fields or what they say, and the text behind; or faulty.
pub data Part (A : Type 0) : Type 0 where
  part : (said : A) (rest : List ℕ) → Part A
  faulty : Part A

-- by what was read, if it has the form
unfoldable pub kept : {A : Type 0} → Option A → List ℕ → Part A
kept (some a) rest = part a rest
kept none rest = faulty

-- one more at the front
unfoldable pub with_first : {A : Type 0} → A → Part (List A) → Part (List A)
with_first a (part l rest) = part (a ∷ l) rest
with_first a faulty = faulty

-- behind a field; `next` reads the rest of its record
unfoldable pub behind_field : (List ℕ → Part (List (List ℕ))) → Field (List ℕ) → Part (List (List ℕ))
behind_field next (field content true rest) = with_first content (next rest)
behind_field next (field content false rest) = part (content ∷ []) rest
behind_field next broken = faulty

-- A field that another follows takes a byte, so one turn more than there are bytes is never used up.
unfoldable pub record_from : ℕ → List ℕ → Part (List (List ℕ))
record_from zero l = faulty
record_from (suc k) l = behind_field (record_from k) (field_of l)

unfoldable pub record_of : List ℕ → Part (List (List ℕ))
record_of l = record_from (suc (length l)) l

-- behind a record; `next` reads those behind it
unfoldable pub behind_record : (List ℕ → List (Option (List (List ℕ)))) → Part (List (List ℕ)) → List (Option (List (List ℕ)))
behind_record next (part fields rest) = some fields ∷ next rest
behind_record next faulty = none ∷ []

-- Each record takes a byte, so as many turns as there are bytes are enough. Where the text is at its end no record follows: its last break opens none.
unfoldable pub records_from : ℕ → List ℕ → List (Option (List (List ℕ)))
records_from zero l = []
records_from (suc k) [] = []
records_from (suc k) (b ∷ l) = behind_record (records_from k) (record_of (b ∷ l))

-- The records of a text, each as the contents of its fields, up to the first that is broken, `none`.
unfoldable pub records_of : List ℕ → List (Option (List (List ℕ)))
records_of text = records_from (length text) text
