-- Polynomials, their values, and the leading and standard monomials of a list of points (docs/SCOPE.md, 'The sheet', Definitions).
use Rattle.std.specs.Prelude.{List, [], ◌∷◌, ◌≢◌, cond, ℕ, suc, ◌*◌}
use Rattle.residue.specs.Congruence.{Mod}
use Rattle.residue.specs.Lists.{Among, sum_over}
use Rattle.specification.specs.Space.{Space, Less, Divides, same}

module _ (D : Space) where
  open D use {q, Mono, Pt, val}

  -- Terms, each a coefficient and a monomial. Repeated terms are added up.
  abbrev pub Polynomial : Type 0
  Polynomial = List (ℕ × Mono)

  -- the value at a point, not reduced
  abbrev pub eval : Polynomial → Pt → ℕ
  eval f P = sum_over (λ t. t.0 * val t.1 P) f

  -- 1 where the two monomials are the same, and else 0
  unfoldable pub hit : Mono → Mono → ℕ
  hit a b = cond (same D a b) 1 0

  -- the coefficient of a monomial, not reduced
  abbrev pub coefficient : Polynomial → Mono → ℕ
  coefficient f a = sum_over (λ t. t.0 * hit a t.1) f

  -- the polynomial vanishes at all points
  abbrev pub Vanishes : Polynomial → List Pt → Type 0
  Vanishes f S = (P : Pt) → Among P S → Mod (suc q) (eval f P) 0

  -- the monomial is its greatest
  abbrev pub Greatest : Polynomial → Mono → Type 0
  Greatest f a = (¬ Mod (suc q) (coefficient f a) 0) × ((b : Mono) → Less D a b → Mod (suc q) (coefficient f b) 0)

  -- Leading is a monomial that is the greatest of some polynomial which vanishes at all points.
  abbrev pub Leading : List Pt → Mono → Type 0
  Leading S a = (f : Polynomial) × Vanishes f S × Greatest f a

  -- Standard is every other.
  abbrev pub Standard : List Pt → Mono → Type 0
  Standard S a = ¬ Leading S a

  -- a leading monomial without another leading one as a proper divisor: the lead of a row
  abbrev pub Minimal : List Pt → Mono → Type 0
  Minimal S a = Leading S a × ((b : Mono) → Divides D b a → b ≢ a → Standard S b)

  -- no point stands twice
  abbrev pub Distinct : List Pt → Type 0
  Distinct [] = Unit {0}
  Distinct (P ∷ S) = ((Q : Pt) → Among Q S → P ≢ Q) × Distinct S

  -- the combination of the monomials of a list with the coefficients of another
  abbrev pub terms : List ℕ → List Mono → Polynomial
  terms [] l = []
  terms (c ∷ cs) [] = []
  terms (c ∷ cs) (a ∷ l) = (c, a) ∷ terms cs l
