-- The basis of a list of points, its interpolants and its remainders, computed: what contracts cite. proofs/ideal shows that they are what Basis.antt says.
use Rattle.std.specs.Prelude.{List, [], ◌∷◌, map, cond, ℕ, ◌*◌}
use Rattle.specification.specs.Space.{Space}
use Rattle.specification.specs.Polynomial.{Polynomial, eval}
use Rattle.specification.specs.Extension.{Basis, grow}

module _ (D : Space) where
  open D use {q, Mono, Pt, one, val, same_point}

  -- the only row for n = 0 is the monomial 1
  unfoldable pub basis_of : List Pt → Basis D
  basis_of [] = record { standard = []; leads = one ∷ []; interpolant = λ φ. [] }
  basis_of (P ∷ S) = grow D P (basis_of S)

  abbrev pub standard_of : List Pt → List Mono
  standard_of S = (basis_of S).standard

  abbrev pub leads_of : List Pt → List Mono
  leads_of S = (basis_of S).leads

  -- the row of a monomial: the interpolant of minus its values
  abbrev pub row_of : List Pt → Mono → List ℕ
  row_of S a = (basis_of S).interpolant (λ P. q * val a P)

  abbrev pub rows_of : List Pt → List (List ℕ)
  rows_of S = map (row_of S) (leads_of S)

  -- values in the order of the points, as a function
  unfoldable pub value_at : List Pt → List ℕ → Pt → ℕ
  value_at [] vs P = 0
  value_at (Q ∷ S) [] P = 0
  value_at (Q ∷ S) (v ∷ vs) P = cond (same_point P Q) v (value_at S vs P)

  -- the interpolant of n values in the points' order
  abbrev pub interpolant_of : List Pt → List ℕ → List ℕ
  interpolant_of S vs = (basis_of S).interpolant (value_at S vs)

  -- the remainder of a polynomial
  abbrev pub remainder_of : List Pt → Polynomial D → List ℕ
  remainder_of S f = (basis_of S).interpolant (eval D f)
