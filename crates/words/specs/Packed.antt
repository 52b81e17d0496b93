-- Elimination modulo 2 with fully reduced pivots, computed with words: a column of values is a word, and so is a polynomial over the standard monomials
-- found, its bit t the coefficient of the t-th.
use Rattle.std.specs.Prelude.{cond, List, [], ◌∷◌, ◌++◌, map, ◌≢◌, ℕ, ◌^◌, length, eqb}
use Rattle.residue.specs.Lists.{Among}
use Rattle.std.specs.Int.Bits.{bit_xor}
use Rattle.std.specs.Int.Count.{count_trailing_zeros}
use Rattle.specification.specs.Space.{Space}
use Rattle.specification.specs.Polynomial.{eval, terms}
use Rattle.residue.specs.Words.{bit_of, bits_of}

-- A column of values, and the polynomial that it comes from.
pub record Words : Type 0 where
  pub column : ℕ
  pub polynomial : ℕ

abbrev pub words : ℕ → ℕ → Words
words c f = record { column = c; polynomial = f }

-- A pivot: its place, its column, which is 1 there, and the polynomial whose column it is.
pub record PivotWords : Type 0 where
  pub place : ℕ
  pub column : ℕ
  pub polynomial : ℕ

abbrev pub pivot_words : ℕ → ℕ → ℕ → PivotWords
pivot_words i c f = record { place = i; column = c; polynomial = f }

-- one pivot taken away where the monomial's own column is 1 at its place; and all of them
unfoldable pub lose : ℕ → PivotWords → Words → Words
lose own v w = cond (eqb (bit_of v.place own) 0) w (words (bit_xor w.column v.column) (bit_xor w.polynomial v.polynomial))

unfoldable pub loses : ℕ → List PivotWords → Words → Words
loses own [] w = w
loses own (v ∷ l) w = loses own l (lose own v w)

-- what is left of a monomial's column
abbrev pub rest_of : ℕ → List PivotWords → Words
rest_of own pivots = loses own pivots (words own 0)

-- a pivot cleared at a new one's place
unfoldable pub clear : PivotWords → PivotWords → PivotWords
clear new v = let w = lose v.column new (words v.column v.polynomial) in pivot_words v.place w.column w.polynomial

-- the pivot of what is left of the column of the monomial that becomes the k-th: at the lowest bit that is set
unfoldable pub pivot_from : ℕ → Words → PivotWords
pivot_from k w = pivot_words (count_trailing_zeros 64 w.column) w.column (bit_xor w.polynomial (2 ^ k))

unfoldable pub with_pivot : PivotWords → List PivotWords → List PivotWords
with_pivot new pivots = map (clear new) pivots ++ (new ∷ [])

-- no two pivots have one place
abbrev pub PlacesApart : List PivotWords → Type 0
PlacesApart [] = Unit {0}
PlacesApart (v ∷ r) = ((u : PivotWords) → Among u r → u.place ≢ v.place) × PlacesApart r

module _ (D : Space) where
  open D use {Mono, Pt}

  -- the value of a polynomial at a point, not reduced
  unfoldable pub polynomial_at : List Mono → ℕ → Pt → ℕ
  polynomial_at l f P = eval D (terms D (bits_of (length l) f) l) P
