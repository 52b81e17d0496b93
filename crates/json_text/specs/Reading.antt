-- The reader, from small readers. A reader takes what it can from the front of a text, and leaves the text behind, or finds it faulty.
use Rattle.std.specs.Prelude.{Bool, true, false, cond, not, ◌&&◌, ◌||◌, List, [], ◌∷◌, ℕ, zero, suc, length, get_or, take, drop, eqb}
use Rattle.std.proofs.Math.Option.{Option, some, none}
use Rattle.notation.specs.Digits.{is_digit, decimal_number}
use Rattle.notation.specs.Fields.{Part, part, faulty, with_first, front}
use Rattle.json_text.specs.Writing.{open_bracket, close_bracket, open_brace, close_brace, comma, key}
use Rattle.json_text.specs.Documents.{Document, is_byte, fitting}
use Rattle.json_text.specs.Documents.{coefficients_name, counts_name, leads_name, modulus_name, order_name}
use Rattle.json_text.specs.Documents.{points_name, standard_name, variables_name, weights_name}

abbrev pub Reader : Type 0 → Type 0
Reader A = List ℕ → Part A

-- what was read, and the next reader behind it
unfoldable pub after : {A B : Type 0} → Part A → (A → Reader B) → Part B
after (part a rest) next = next a rest
after faulty next = faulty

abbrev pub ◌>>=◌ : {A B : Type 0} → Reader A → (A → Reader B) → Reader B
◌>>=◌ r next l = after (r l) next

abbrev pub ◌>>◌ : {A B : Type 0} → Reader A → Reader B → Reader B
◌>>◌ r next l = after (r l) (λ a. next)

unfoldable pub done : {A : Type 0} → A → Reader A
done a l = part a l

-- exactly these bytes
unfoldable pub exactly : List ℕ → Reader (Unit {0})
exactly [] l = part tt l
exactly (b ∷ bs) [] = faulty
exactly (b ∷ bs) (c ∷ l) = cond (eqb c b) (exactly bs l) faulty

-- A number: one to three digits that no other follows, 0 to 255, with no zero in front.
unfoldable pub number_said : Bool → Option ℕ → Reader ℕ
number_said plain none rest = faulty
number_said plain (some v) rest = cond (plain && is_byte v) (part v rest) faulty

unfoldable pub read_number : Reader ℕ
read_number l = let k = front is_digit l in number_said (eqb k 1 || not (eqb (get_or l 0 0) 48)) (decimal_number (take k l)) (drop k l)

-- Behind an item of a list: the bracket that closes the list, or a comma and more items.
unfoldable pub behind_item : {A : Type 0} → A → Reader (List A) → Reader (List A)
behind_item a more [] = faulty
behind_item a more (b ∷ l) = cond (eqb b close_bracket) (part (a ∷ []) l) (cond (eqb b comma) (with_first a (more l)) faulty)

-- items up to the bracket, at least one; each takes a byte, so as many turns as there are bytes are enough
unfoldable pub read_items : {A : Type 0} → Reader A → ℕ → Reader (List A)
read_items item zero l = faulty
read_items item (suc turns) l = after (item l) (λ a. behind_item a (read_items item turns))

unfoldable pub read_opened : {A : Type 0} → Reader A → Reader (List A)
read_opened item [] = faulty
read_opened item (b ∷ l) = cond (eqb b close_bracket) (part [] l) (read_items item (suc (length l)) (b ∷ l))

unfoldable pub read_array : {A : Type 0} → Reader A → Reader (List A)
read_array item = do
  exactly (open_bracket ∷ [])
  read_opened item

unfoldable pub read_list : Reader (List ℕ)
read_list = read_array read_number

unfoldable pub read_rows : Reader (List (List ℕ))
read_rows = read_array read_list

-- A member behind a brace or a comma.
unfoldable pub read_member : {A : Type 0} → ℕ → List ℕ → Reader A → Reader A
read_member before name value = do
  exactly (before ∷ key name)
  value

unfoldable pub read_document : Reader Document
read_document = do
  coefficients ← read_member open_brace coefficients_name read_rows
  counts ← read_member comma counts_name read_list
  leads ← read_member comma leads_name read_rows
  modulus ← read_member comma modulus_name read_number
  order ← read_member comma order_name read_number
  points ← read_member comma points_name read_rows
  standard ← read_member comma standard_name read_rows
  variables ← read_member comma variables_name read_number
  weights ← read_member comma weights_name read_list
  exactly (close_brace ∷ [])
  done (record {
    coefficients = coefficients;
    counts = counts;
    leads = leads;
    modulus = modulus;
    order = order;
    points = points;
    standard = standard;
    variables = variables;
    weights = weights;
  })

-- A whole text: nothing behind the document, and lists of the right lengths.
unfoldable pub whole : Part Document → Option Document
whole faulty = none
whole (part d (b ∷ rest)) = none
whole (part d []) = cond (fitting d) (some d) none

unfoldable pub read : List ℕ → Option Document
read text = whole (read_document text)

-- a text that is none of a document
unfoldable pub is_none : {A : Type 0} → Option A → Bool
is_none none = true
is_none (some a) = false
