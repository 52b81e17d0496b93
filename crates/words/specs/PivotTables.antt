-- The pivots as three lent tables: places, columns and polynomials.
use Rattle.std.specs.Prelude.{◌≡◌, Option, Some, None, ◌≢◌, List, [], ◌∷◌, ◌++◌, map, ℕ, zero, suc, ◌<◌, ◌≤◌, length, get_or}
use Rattle.residue.specs.Congruence.{Mod}
use Rattle.residue.specs.Lists.{Among}
use Rattle.residue.specs.Words.{bit_of}
use Rattle.words.specs.Packed.{Words, PivotWords, pivot_words, PlacesApart, rest_of, clear, pivot_from, with_pivot}

-- the first k pivots, in the order in which they were found
unfoldable pub pivots_in : ℕ → List ℕ → List ℕ → List ℕ → List PivotWords
pivots_in zero places columns polynomials = []
pivots_in (suc k) places columns polynomials =
    pivots_in k places columns polynomials ++ (pivot_words (get_or places k 0) (get_or columns k 0) (get_or polynomials k 0) ∷ [])

-- the columns and polynomials of the first k pivots cleared at a new pivot's place; the others are as they were
pub record Cleared (k : ℕ) (new : PivotWords) (columns polynomials columns' polynomials' : List ℕ) : Type 0 where
  pub long_columns : length columns' ≡ length columns
  pub long_polynomials : length polynomials' ≡ length polynomials
  pub cleared : (i : ℕ) → i ≤ k → (places : List ℕ) → pivots_in i places columns' polynomials' ≡ map (clear new) (pivots_in i places columns polynomials)
  pub behind_columns : (j : ℕ) → k ≤ j → get_or columns' j 0 ≡ get_or columns j 0
  pub behind_polynomials : (j : ℕ) → k ≤ j → get_or polynomials' j 0 ≡ get_or polynomials j 0

-- a word has the bits of the k pivots' places, and a table has the pivot of each such place
pub record RowsKnown (k pivots : ℕ) (row_of places columns polynomials : List ℕ) : Type 0 where
  pub marked : (j : ℕ) → j < k → bit_of (get_or places j 0) pivots ≡ 1
  pub known : (i : ℕ) → bit_of i pivots ≡ 1 → (get_or row_of i 0 < k) × (get_or places (get_or row_of i 0) 0 ≡ i)
  pub apart : PlacesApart (pivots_in k places columns polynomials)

-- what is left of a column, whatever the places are that the word and the table stand for
pub record LeftAt (own pivots : ℕ) (row_of columns polynomials : List ℕ) (w : Words) : Type 0 where
  pub is : (k : ℕ) (places : List ℕ) → RowsKnown k pivots row_of places columns polynomials → w ≡ rest_of own (pivots_in k places columns polynomials)

-- the rows of the table are rows of the pivots' tables
pub record RowsIn (pivots : ℕ) (row_of columns polynomials : List ℕ) : Type 0 where
  pub long : 64 ≤ length row_of
  pub in_columns : (i : ℕ) → bit_of i pivots ≡ 1 → get_or row_of i 0 < length columns
  pub in_polynomials : (i : ℕ) → bit_of i pivots ≡ 1 → get_or row_of i 0 < length polynomials

-- each pivot is 1 at its own place, and 0 at the places of the others
abbrev pub Apart : List PivotWords → Type 0
Apart [] = Unit {0}
Apart (v ∷ r) = ((u : PivotWords) → Among u r → Mod 2 (bit_of v.place u.column) 0 × Mod 2 (bit_of u.place v.column) 0) × Apart r

pub record Orthogonal (pivots : List PivotWords) : Type 0 where
  pub own : (v : PivotWords) → Among v pivots → Mod 2 (bit_of v.place v.column) 1
  pub apart : Apart pivots

-- The tables hold these k pivots, fully reduced. Their places stand nowhere but in the word and in the table of rows.
pub record Kept (k pivots : ℕ) (row_of columns polynomials : List ℕ) (vs : List PivotWords) : Type 0 where
  pub places : List ℕ
  pub long : length places ≡ 64
  pub are : vs ≡ pivots_in k places columns polynomials
  pub known : RowsKnown k pivots row_of places columns polynomials
  pub orthogonal : Orthogonal vs

-- the tables have their lengths
abbrev pub PivotsLong : List ℕ → List ℕ → List ℕ → Type 0
PivotsLong row_of columns polynomials = (length row_of ≡ 64) × ((length columns ≡ 64) × (length polynomials ≡ 64))

-- they are kept for a column, which may be a pivot more only where there is room for it
abbrev pub SomeKept : ℕ → ℕ → ℕ → List ℕ → List ℕ → List ℕ → Type 0
SomeKept own k pivots row_of columns polynomials = (vs : List PivotWords) × Kept k pivots row_of columns polynomials vs × ((rest_of own vs).column ≢ 0 → k < 64)

-- One column examined by k pivots: left 0 it is that of a lead, whose polynomial is answered, and the tables are as they were; any other is a pivot more.
pub record ExaminedAs (own k : ℕ) (row : Option ℕ) (pivots pivots' : ℕ) (row_of columns polynomials row_of' columns' polynomials' : List ℕ) : Type 0 where
  pub as_lead : (vs : List PivotWords) → Kept k pivots row_of columns polynomials vs → (rest_of own vs).column ≡ 0
      → (row ≡ Some (rest_of own vs).polynomial) × Kept k pivots' row_of' columns' polynomials' vs
  pub as_pivot : (vs : List PivotWords) → Kept k pivots row_of columns polynomials vs → (rest_of own vs).column ≢ 0
      → (row ≡ None) × Kept (suc k) pivots' row_of' columns' polynomials' (with_pivot (pivot_from k (rest_of own vs)) vs)
