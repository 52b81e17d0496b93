-- Texts and what is printed of them: docs/SCOPE.md, 'Examples': the program.
use Rattle.std.specs.Prelude.{◌≡◌, ℕ, ◌≤◌, length}
use mathlib.Core.List.{List, [], ◌∷◌, ◌++◌, map, flatten}
use Prim.Native.String.{String}
use Rattle.residue.specs.Lists.{Among}
use Rattle.residue.specs.Layout.{over}
use Rattle.notation.specs.Words.{bytes_of}
use Rattle.printing.specs.Text.{printed, print_outcome}

-- lines as bytes: LF ends each
abbrev pub in_lines : List String → List ℕ
in_lines l = flatten (map (λ s. bytes_of s ++ (10 ∷ [])) l)

pub record Example : Type 0 where
  pub text : List String
  pub prints : List String

-- into every buffer that is long enough: these lines, and no other byte changes
unfoldable pub Prints : Example → Type 0
Prints e = (buffer : List ℕ) → 131072 ≤ length buffer → let lines = in_lines e.prints in
    print_outcome (in_lines e.text) buffer ≡ printed (length lines) (over lines buffer)

-- the text of docs/SCOPE.md
abbrev pub stated : Example
stated = record {
  text = "g1,g2,mod 5 grlex" ∷ "0,0,1" ∷ "1,2,0" ∷ "2,1,3" ∷ [];
  prints = "points 3 standard 3 rows 3" ∷ "standard 0 0" ∷ "standard 0 1" ∷ "standard 1 0"
      ∷ "row 0 2 : 0 1 4" ∷ "row 1 1 : 0 1 1" ∷ "row 2 0 : 0 4 1" ∷ "interpolant 1 2 0" ∷ "wiring" ∷ [];
}

-- a variable that is needed, under the order without the word
abbrev pub needing : Example
needing = record {
  text = "g1,g2,mod 5" ∷ "0,0,0" ∷ "0,1,1" ∷ [];
  prints = "points 2 standard 2 rows 2" ∷ "standard 0 0" ∷ "standard 0 1" ∷ "row 1 0 : 0 0" ∷ "row 0 2 : 0 4" ∷ "interpolant 0 1" ∷ "wiring 2" ∷ [];
}

-- the points and values of the text of docs/SCOPE.md under weights 1 and 2: 1, then the first variable, then the second (M-109)
abbrev pub weighing : Example
weighing = record {
  text = "g1,g2,mod 5 weight 1 2" ∷ "0,0,1" ∷ "1,2,0" ∷ "2,1,3" ∷ [];
  prints = "points 3 standard 3 rows 3" ∷ "standard 0 0" ∷ "standard 1 0" ∷ "standard 0 1"
      ∷ "row 2 0 : 0 1 4" ∷ "row 1 1 : 0 1 1" ∷ "row 0 2 : 0 4 1" ∷ "interpolant 1 0 2" ∷ "wiring" ∷ [];
}

-- a weight of 0, one weight for two variables, and a weight of 0 under a modulus that is none
abbrev pub no_weight : Example
no_weight = record { text = "g1,g2,mod 5 weight 1 00" ∷ []; prints = "refused 15 1" ∷ [] }

abbrev pub one_weight : Example
one_weight = record { text = "g1,g2,mod 5 weight 1" ∷ []; prints = "refused 2 1" ∷ [] }

abbrev pub modulus_first : Example
modulus_first = record { text = "a,mod 4 weight 0" ∷ []; prints = "refused 3 1" ∷ [] }

-- a header alone
abbrev pub empty : Example
empty = record { text = "g1,g2,mod 5 lex" ∷ []; prints = "points 0 standard 0 rows 1" ∷ "row 0 0 :" ∷ "interpolant" ∷ "wiring" ∷ [] }

-- a header with an order that is none, and a level out of range
abbrev pub wrong_word : Example
wrong_word = record { text = "g1,g2,mod 5 deglex" ∷ []; prints = "refused 2 1" ∷ [] }

abbrev pub out_of_range : Example
out_of_range = record { text = "g1,g2,mod 5 grlex" ∷ "0,0,1" ∷ "1,5,0" ∷ []; prints = "refused 9 3" ∷ [] }

abbrev pub examples : List Example
examples = stated ∷ needing ∷ weighing ∷ no_weight ∷ one_weight ∷ modulus_first ∷ empty ∷ wrong_word ∷ out_of_range ∷ []

abbrev pub PrintedExamples : Type 0
PrintedExamples = (e : Example) → Among e examples → Prints e
