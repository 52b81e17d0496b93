-- JSON as RFC 8785 writes it, as far as sheets need it: integers, arrays and objects, as bytes. No blanks.
use Rattle.std.specs.Prelude.{cond, List, [], ◌∷◌, ◌++◌, map, ℕ, eqb}
use Rattle.writing.specs.Decimal.{decimal}

-- the bytes that mean something: [ ] { } , : and the quote
abbrev pub open_bracket : ℕ
open_bracket = 91

abbrev pub close_bracket : ℕ
close_bracket = 93

abbrev pub open_brace : ℕ
open_brace = 123

abbrev pub close_brace : ℕ
close_brace = 125

abbrev pub comma : ℕ
comma = 44

abbrev pub colon : ℕ
colon = 58

abbrev pub quote : ℕ
quote = 34

-- texts one after the other, a comma between two
unfoldable pub separated : List (List ℕ) → List ℕ
separated [] = []
separated (x ∷ []) = x
separated (x ∷ y ∷ l) = x ++ (comma ∷ separated (y ∷ l))

-- what stands before the item of this number, from 0: nothing, or a comma
unfoldable pub before : ℕ → List ℕ
before i = cond (eqb i 0) [] (comma ∷ [])

unfoldable pub array : List (List ℕ) → List ℕ
array l = open_bracket ∷ (separated l ++ (close_bracket ∷ []))

unfoldable pub object : List (List ℕ) → List ℕ
object l = open_brace ∷ (separated l ++ (close_brace ∷ []))

-- a member's name, none of whose bytes needs an escape, and the colon behind it
abbrev pub key : List ℕ → List ℕ
key name = quote ∷ (name ++ (quote ∷ colon ∷ []))

unfoldable pub member : List ℕ → List ℕ → List ℕ
member name value = key name ++ value

-- A number in decimal, a list of numbers, a list of lists of numbers.
abbrev pub number_text : ℕ → List ℕ
number_text = decimal

unfoldable pub list_text : List ℕ → List ℕ
list_text l = array (map number_text l)

unfoldable pub rows_text : List (List ℕ) → List ℕ
rows_text L = array (map list_text L)
