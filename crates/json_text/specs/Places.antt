-- The reader again, by places in the text: a cursor takes what it can from a place on, and answers the place behind it. Each loop here is one of the code.
use Rattle.std.specs.Prelude.{Bool, cond, not, ◌&&◌, ◌||◌, List, [], ◌∷◌, ◌++◌, ℕ, zero, suc, ◌+◌, ◌-◌, ◌≤◌, length, get_or, take, drop, eqb, ltb}
use Rattle.std.proofs.Math.Option.{Option, some, none}
use Rattle.residue.specs.Layout.{with_place}
use Rattle.notation.specs.Digits.{is_digit, decimal_number}
use Rattle.notation.specs.Fields.{Part, part, faulty, front}
use Rattle.json_text.specs.Writing.{open_bracket, close_bracket, open_brace, close_brace, comma, key}
use Rattle.json_text.specs.Documents.{Document, is_byte, fitting}
use Rattle.json_text.specs.Documents.{coefficients_name, counts_name, leads_name, modulus_name, order_name}
use Rattle.json_text.specs.Documents.{points_name, standard_name, variables_name, weights_name}

pub data Found (A : Type 0) : Type 0 where
  found : (said : A) (next : ℕ) → Found A
  broken : Found A

abbrev pub Cursor : Type 0 → Type 0
Cursor A = List ℕ → ℕ → Found A

-- what was found, as the reader of lists has it
unfoldable pub seen : {A : Type 0} → List ℕ → Found A → Part A
seen text (found a next) = part a (drop next text)
seen text broken = faulty

abbrev pub Inside : {A : Type 0} → ℕ → Found A → Type 0
Inside n (found a next) = next ≤ n
Inside n broken = Unit {0}

unfoldable pub after_at : {A B : Type 0} → Found A → (A → ℕ → Found B) → Found B
after_at (found a next) go = go a next
after_at broken go = broken

abbrev pub ◌>>=◌ : {A B : Type 0} → Cursor A → (A → Cursor B) → Cursor B
◌>>=◌ q go text at = after_at (q text at) (λ a. go a text)

abbrev pub ◌>>◌ : {A B : Type 0} → Cursor A → Cursor B → Cursor B
◌>>◌ q go text at = after_at (q text at) (λ a. go text)

unfoldable pub done_at : {A : Type 0} → A → Cursor A
done_at a text at = found a at

-- this byte stands at the place
unfoldable pub here : ℕ → List ℕ → ℕ → Bool
here b text at = ltb at (length text) && eqb (get_or text at 0) b

unfoldable pub exactly_at : List ℕ → Cursor (Unit {0})
exactly_at [] text at = found tt at
exactly_at (b ∷ bs) text at = cond (here b text at) (exactly_at bs text (suc at)) broken

unfoldable pub number_found : Bool → Option ℕ → ℕ → Found ℕ
number_found plain none next = broken
number_found plain (some v) next = cond (plain && is_byte v) (found v next) broken

unfoldable pub number_at : Cursor ℕ
number_at text at = let k = front is_digit (drop at text) in
    number_found (eqb k 1 || not (eqb (get_or text at 0) 48)) (decimal_number (take k (drop at text))) (at + k)

-- behind an item, `items` being those before it and it
unfoldable pub behind_at : {A : Type 0} → List ℕ → List A → (ℕ → Found (List A)) → ℕ → Found (List A)
behind_at text items more at = cond (here close_bracket text at) (found items (suc at)) (cond (here comma text at) (more (suc at)) broken)

-- items up to the bracket, behind those that are done
unfoldable pub items_at : {A : Type 0} → Cursor A → ℕ → List A → Cursor (List A)
items_at item zero items text at = broken
items_at item (suc turns) items text at = after_at (item text at) (λ a next. behind_at text (items ++ (a ∷ [])) (items_at item turns (items ++ (a ∷ [])) text) next)

-- each item takes a byte, so as many turns as there are bytes are enough
abbrev pub items_from : {A : Type 0} → Cursor A → List A → Cursor (List A)
items_from item items text at = items_at item (length text - at) items text at

unfoldable pub opened_at : {A : Type 0} → Cursor A → Cursor (List A)
opened_at item text at = cond (here close_bracket text at) (found [] (suc at)) (items_from item [] text at)

unfoldable pub array_at : {A : Type 0} → Cursor A → Cursor (List A)
array_at item = do
  exactly_at (open_bracket ∷ [])
  opened_at item

unfoldable pub list_at : Cursor (List ℕ)
list_at = array_at number_at

unfoldable pub rows_at : Cursor (List (List ℕ))
rows_at = array_at list_at

-- a value behind these bytes; a member
unfoldable pub behind_word : {A : Type 0} → List ℕ → Cursor A → Cursor A
behind_word word value = do
  exactly_at word
  value

abbrev pub member_at : {A : Type 0} → ℕ → List ℕ → Cursor A → Cursor A
member_at before name = behind_word (before ∷ key name)

-- A document in three parts, as the code reads it: behind the first three members come the next four, and behind them the end.
unfoldable pub end_at : (coefficients : List (List ℕ)) (counts : List ℕ) (leads : List (List ℕ)) (modulus order : ℕ) (points standard : List (List ℕ))
    → Cursor Document
end_at coefficients counts leads modulus order points standard = do
  variables ← member_at comma variables_name number_at
  weights ← member_at comma weights_name list_at
  exactly_at (close_brace ∷ [])
  done_at (record {
    coefficients = coefficients;
    counts = counts;
    leads = leads;
    modulus = modulus;
    order = order;
    points = points;
    standard = standard;
    variables = variables;
    weights = weights;
  })

unfoldable pub middle_at : (coefficients : List (List ℕ)) (counts : List ℕ) (leads : List (List ℕ)) → Cursor Document
middle_at coefficients counts leads = do
  modulus ← member_at comma modulus_name number_at
  order ← member_at comma order_name number_at
  points ← member_at comma points_name rows_at
  standard ← member_at comma standard_name rows_at
  end_at coefficients counts leads modulus order points standard

unfoldable pub document_at : Cursor Document
document_at = do
  coefficients ← member_at open_brace coefficients_name rows_at
  counts ← member_at comma counts_name list_at
  leads ← member_at comma leads_name rows_at
  middle_at coefficients counts leads

-- a whole text
unfoldable pub whole_at : List ℕ → Found Document → Option Document
whole_at text broken = none
whole_at text (found d next) = cond (eqb next (length text) && fitting d) (some d) none

unfoldable pub read_at : List ℕ → Option Document
read_at text = whole_at text (document_at text 0)

-- A row in its place of a table of so many places, cut to its width; where there is no such place, the table as it is.
unfoldable pub row_in : (width places row : ℕ) → List ℕ → List ℕ → List ℕ
row_in width places row l table = cond (ltb row places) (with_place width row (take width l) table) table
