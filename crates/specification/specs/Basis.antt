-- What a basis of a list of points is, and what an interpolant is (docs/SCOPE.md, 'The sheet'), said and not computed.
use Rattle.std.specs.Prelude.{◌≡◌, List, [], ◌∷◌, ◌↔◌, ℕ, suc, ◌<◌, length}
use Rattle.residue.specs.Congruence.{Mod}
use Rattle.residue.specs.Lists.{Among}
use Rattle.monomial.specs.Increasing.{Increasing}
use Rattle.specification.specs.Space.{Space}
use Rattle.specification.specs.Polynomial.{eval, Vanishes, Standard, Minimal, terms}

module _ (D : Space) where
  open D use {q, Mono, Pt, cmp}

  -- A row is its lead plus standard monomials with coefficients, and vanishes at every point: the coefficients are residues,
  -- one for each standard monomial in table order.
  pub record Row (S : List Pt) (standard : List Mono) (a : Mono) (cs : List ℕ) : Type 0 where
    pub long : length cs ≡ length standard
    pub residues : (c : ℕ) → Among c cs → c < suc q
    pub vanishes : Vanishes D ((1, a) ∷ terms D cs standard) S

  -- A row for each lead, in the order of the leads.
  abbrev pub Rows : List Pt → List Mono → List Mono → List (List ℕ) → Type 0
  Rows S standard [] [] = Unit {0}
  Rows S standard [] (r ∷ rs) = ⊥
  Rows S standard (a ∷ l) [] = ⊥
  Rows S standard (a ∷ l) (r ∷ rs) = Row S standard a r × Rows S standard l rs

  -- The basis of the points: the three tables of a sheet as lists.
  pub record IsBasis (S : List Pt) (standard leads : List Mono) (rows : List (List ℕ)) : Type 0 where
    pub standard_increasing : Increasing cmp standard
    pub standard_members : (a : Mono) → Among a standard ↔ Standard D S a
    pub leads_increasing : Increasing cmp leads
    pub leads_members : (a : Mono) → Among a leads ↔ Minimal D S a
    pub rows_are : Rows S standard leads rows

  -- The interpolant of the values φ: residues for the standard monomials, whose combination has these values at the points.
  -- The remainder of a polynomial f is the interpolant of its values, eval f.
  pub record Fits (S : List Pt) (standard : List Mono) (φ : Pt → ℕ) (cs : List ℕ) : Type 0 where
    pub long : length cs ≡ length standard
    pub residues : (c : ℕ) → Among c cs → c < suc q
    pub values : (P : Pt) → Among P S → Mod (suc q) (eval D (terms D cs standard) P) (φ P)
