-- The packed way of drawing up, computed: monomials without squares and squares of variables, in increasing order.
use Rattle.std.specs.Prelude.{cond, ◌≡◌, List, [], ◌∷◌, ◌++◌, map, ℕ, suc, ◌^◌, ◌<◌, length, eqb}
use Rattle.specification.specs.Space.{Space, same}
use Rattle.residue.specs.Lists.{Among}
use Rattle.specification.specs.Extension.{divided}
use Rattle.specification.specs.BasisOf.{standard_of, leads_of, rows_of}
use Rattle.residue.specs.Words.{bits_of, column_of}
use Rattle.specification.specs.Squares.{variable, square, is_in}
use Rattle.words.specs.Packed.{Words, PivotWords, rest_of, pivot_from, with_pivot}

module _ (D : Space) where
  open D use {Mono, Pt, val}

  -- What has been found: the standard monomials with a pivot each, and the leads with the word of their row's coefficients.
  pub record PackedFound : Type 0 where
    pub standard : List Mono
    pub leads : List Mono
    pub rows : List ℕ
    pub pivots : List PivotWords

  abbrev pub packed_found : List Mono → List Mono → List ℕ → List PivotWords → PackedFound
  packed_found s l r v = record { standard = s; leads = l; rows = r; pivots = v }

  -- a column left 0 is that of a lead, with the polynomial gathered as its row; any other becomes a pivot
  unfoldable pub settled_words : Mono → Words → PackedFound → PackedFound
  settled_words b w f =
      cond (eqb w.column 0) (packed_found f.standard (f.leads ++ (b ∷ [])) (f.rows ++ (w.polynomial ∷ [])) f.pivots)
      (packed_found (f.standard ++ (b ∷ [])) f.leads f.rows (with_pivot (pivot_from (length f.standard) w) f.pivots))

  -- one monomial without squares examined
  unfoldable pub examined_words : List Pt → Mono → PackedFound → PackedFound
  examined_words S b f = settled_words b (rest_of (column_of (val b) S) f.pivots) f

  -- the place of a monomial in a list
  unfoldable pub index_in : Mono → List Mono → ℕ
  index_in a [] = 0
  index_in a (b ∷ l) = cond (same D a b) 0 (suc (index_in a l))

  -- the square of variable k: a lead if the variable is standard, with the one coefficient of the variable
  unfoldable pub square_words : ℕ → PackedFound → PackedFound
  square_words k f =
      cond (is_in D (variable D k) f.standard)
      (packed_found f.standard (f.leads ++ (square D k ∷ [])) (f.rows ++ (2 ^ index_in (variable D k) f.standard ∷ [])) f.pivots) f

  -- what is visited: a monomial without squares, passed over if a lead found divides it, or the square of a variable
  pub data Visit : Type 0 where
    free : Mono → Visit
    squared : ℕ → Visit

  abbrev pub visited_monomial : Visit → Mono
  visited_monomial (free a) = a
  visited_monomial (squared k) = square D k

  unfoldable pub visited : List Pt → Visit → PackedFound → PackedFound
  visited S (free a) f = cond (divided D f.leads a) f (examined_words S a f)
  visited S (squared k) f = square_words k f

  -- What has been found is the basis of the points: its three lists, a row's coefficients as the bits of a word.
  pub record PackedBasis (S : List Pt) (f : PackedFound) : Type 0 where
    pub standard_are : f.standard ≡ standard_of D S
    pub leads_are : f.leads ≡ leads_of D S
    pub rows_are : map (bits_of (length S)) f.rows ≡ rows_of D S
    pub rows_small : (w : ℕ) → Among w f.rows → w < 2 ^ length S
