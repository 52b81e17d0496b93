-- The printed lines: docs/SCOPE.md, 'Examples': the program.
use mathlib.Core.List.{List, [], ◌∷◌, ◌++◌, map, flatten, zip_with}
use Rattle.std.specs.Prelude.{ℕ, length}
use Rattle.writing.specs.Decimal.{decimal}

-- one space in front of each number and each colon, LF at the end of each line
unfoldable pub spaced : ℕ → List ℕ
spaced n = 32 ∷ decimal n

unfoldable pub spaced_numbers : List ℕ → List ℕ
spaced_numbers l = flatten (map spaced l)

abbrev pub colon : List ℕ
colon = 32 ∷ 58 ∷ []

abbrev pub line_end : List ℕ
line_end = 10 ∷ []

-- the words: points, standard, rows, row, interpolant, wiring, refused
abbrev pub points_word : List ℕ
points_word = 112 ∷ 111 ∷ 105 ∷ 110 ∷ 116 ∷ 115 ∷ []

abbrev pub standard_word : List ℕ
standard_word = 115 ∷ 116 ∷ 97 ∷ 110 ∷ 100 ∷ 97 ∷ 114 ∷ 100 ∷ []

abbrev pub rows_word : List ℕ
rows_word = 114 ∷ 111 ∷ 119 ∷ 115 ∷ []

abbrev pub row_word : List ℕ
row_word = 114 ∷ 111 ∷ 119 ∷ []

abbrev pub interpolant_word : List ℕ
interpolant_word = 105 ∷ 110 ∷ 116 ∷ 101 ∷ 114 ∷ 112 ∷ 111 ∷ 108 ∷ 97 ∷ 110 ∷ 116 ∷ []

abbrev pub wiring_word : List ℕ
wiring_word = 119 ∷ 105 ∷ 114 ∷ 105 ∷ 110 ∷ 103 ∷ []

abbrev pub refused_word : List ℕ
refused_word = 114 ∷ 101 ∷ 102 ∷ 117 ∷ 115 ∷ 101 ∷ 100 ∷ []

-- a word and numbers
unfoldable pub line : List ℕ → List ℕ → List ℕ
line word l = word ++ (spaced_numbers l ++ line_end)

unfoldable pub labelled : List ℕ → ℕ → List ℕ
labelled word n = word ++ spaced n

-- the first line: n, n and r
unfoldable pub first_line : ℕ → ℕ → List ℕ
first_line n r = labelled points_word n ++ (labelled (32 ∷ standard_word) n ++ (labelled (32 ∷ rows_word) r ++ line_end))

-- after `standard` m exponents
unfoldable pub standard_lines : List (List ℕ) → List ℕ
standard_lines standard = flatten (map (line standard_word) standard)

-- after `row` the lead's m exponents and, behind a colon, n coefficients
unfoldable pub row_line : List ℕ → List ℕ → List ℕ
row_line lead coefficients = row_word ++ (spaced_numbers lead ++ line colon coefficients)

unfoldable pub row_lines : List (List ℕ) → List (List ℕ) → List ℕ
row_lines leads rows = flatten (zip_with row_line leads rows)

-- all lines; after `interpolant` n coefficients, after `wiring` variables
unfoldable pub basis_lines : (standard leads rows : List (List ℕ)) (interpolant names : List ℕ) → List ℕ
basis_lines standard leads rows interpolant names =
    first_line (length standard) (length leads)
    ++ (standard_lines standard ++ (row_lines leads rows ++ (line interpolant_word interpolant ++ line wiring_word names)))

-- a refusal is a single line, `refused` with number and record
unfoldable pub refusal_line : ℕ → ℕ → List ℕ
refusal_line refusal at = labelled refused_word refusal ++ (spaced at ++ line_end)
