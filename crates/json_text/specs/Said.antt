-- What the readers answer, in the terms of the cursors.
use Rattle.std.specs.Prelude.{◌≡◌, cond, List, [], ◌∷◌, ℕ, ◌*◌, length, take, eqb, Option, Some, None}
use Rattle.residue.specs.Lists.{every}
use Rattle.residue.specs.Layout.{over, fill, in_places}
use Rattle.json_text.specs.Places.{Found, found, broken, row_in}
use Rattle.json_text.specs.declared.reading.Number.{Number}
use Rattle.json_text.specs.declared.reading.Numbers.{Numbers}
use Rattle.json_text.specs.declared.reading.Lengths.{Lengths}
use Rattle.json_text.specs.declared.reading.Rows.{Rows}

unfoldable pub word_said : Option ℕ → Found (Unit {0})
word_said (Some next) = found tt next
word_said None = broken

unfoldable pub number_said : Option Number → Found ℕ
number_said (Some r) = found r.value r.next
number_said None = broken

-- the list was found, so many numbers of it, the front of which stands in the buffer; or none was
abbrev pub ListRead : Found (List ℕ) → List ℕ → List ℕ → Option Numbers → Type 0
ListRead x before after (Some r) =
    (items : List ℕ) × (x ≡ found items r.next) × (r.count ≡ length items) × (after ≡ over (take (length before) items) before)
ListRead x before after None = x ≡ broken

-- the row was found, and stands in its place
abbrev pub RowRead : ℕ → ℕ → ℕ → Found (List ℕ) → List ℕ → List ℕ → Option Numbers → Type 0
RowRead width places row x before after (Some r) =
    (items : List ℕ) × (x ≡ found items r.next) × (r.count ≡ length items) × (after ≡ row_in width places row items before)
RowRead width places row x before after None = x ≡ broken

-- What the loop over rows keeps of their lengths: the one that all have, if they are equally long; 0 where there is no row.
unfoldable pub columns_of : List (List ℕ) → ℕ
columns_of [] = 0
columns_of (l ∷ L) = length l

unfoldable pub common_length : List (List ℕ) → Option ℕ
common_length L = cond (every (λ l. eqb (length l) (columns_of L)) L) (Some (columns_of L)) None

unfoldable pub lengths_of : List (List ℕ) → Lengths
lengths_of rows = record { count = length rows; columns = common_length rows }

-- the rows were found, of these lengths, and stand in their places
abbrev pub RowsRead : ℕ → ℕ → Found (List (List ℕ)) → List ℕ → Option Rows → Type 0
RowsRead width places x after (Some r) =
    (rows : List (List ℕ)) × (x ≡ found rows r.next) × (r.lengths ≡ lengths_of rows) × (after ≡ fill (width * places) (in_places width rows))
RowsRead width places x after None = x ≡ broken
