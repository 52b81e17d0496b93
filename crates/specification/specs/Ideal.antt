-- The ideal that polynomials generate, and the reduced Gröbner basis of the polynomials that vanish at points. No contract cites these: proofs/ideal/Division
-- shows that the basis of docs/SCOPE.md, 'The sheet', is that one.
use Rattle.std.specs.Prelude.{List, [], ◌∷◌, ◌++◌, map, ◌↔◌, ◌≢◌, ℕ, suc, ◌*◌, ◌<◌}
use Rattle.residue.specs.Congruence.{Mod}
use Rattle.residue.specs.Lists.{Among}
use Rattle.specification.specs.Space.{Space, Divides}
use Rattle.specification.specs.Polynomial.{Polynomial, coefficient, Vanishes, Greatest, Leading, terms}

module _ (D : Space) where
  open D use {q, m, Mono, Pt, x}

  abbrev pub Variable : Type 0
  Variable = (k : ℕ) × (k < m)

  -- a number times a product of variables times a polynomial
  abbrev pub multiple : ℕ → List Variable → Polynomial D → Polynomial D
  multiple c [] f = map (λ t. (c * t.0, t.1)) f
  multiple c (v ∷ vs) f = map (λ t. (t.0, x v.0 t.1)) (multiple c vs f)

  -- A factor is a polynomial, each term a coefficient and the variables whose product its monomial is.
  abbrev pub Factor : Type 0
  Factor = List (ℕ × List Variable)

  -- a factor times a polynomial
  abbrev pub multiplied : Factor → Polynomial D → Polynomial D
  multiplied [] f = []
  multiplied (t ∷ h) f = multiple t.0 t.1 f ++ multiplied h f

  -- the sum of the products of factors, one after the other, with polynomials; those left over count for nothing
  abbrev pub combination : List Factor → List (Polynomial D) → Polynomial D
  combination [] fs = []
  combination (h ∷ hs) [] = []
  combination (h ∷ hs) (f ∷ fs) = multiplied h f ++ combination hs fs

  -- f is such a sum: it has the same coefficient at every monomial
  abbrev pub Generated : List (Polynomial D) → Polynomial D → Type 0
  Generated fs f = (hs : List Factor) × ((a : Mono) → Mod (suc q) (coefficient D f a) (coefficient D (combination hs fs) a))

  -- the polynomials of rows: each lead plus its combination of standard monomials
  abbrev pub row_polynomials : List Mono → List Mono → List (List ℕ) → List (Polynomial D)
  row_polynomials standard [] rows = []
  row_polynomials standard (a ∷ leads) [] = []
  row_polynomials standard (a ∷ leads) (r ∷ rows) = ((1, a) ∷ terms D r standard) ∷ row_polynomials standard leads rows

  -- gs is the reduced Gröbner basis of the ideal of all polynomials that vanish at S (Farr and Gao, section 2): it generates the ideal; the greatest monomial
  -- of a polynomial of the ideal is a multiple of that of one of gs; each of gs is monic; and no monomial of one is a multiple of the greatest of another.
  pub record ReducedGroebner (S : List Pt) (gs : List (Polynomial D)) : Type 0 where
    pub generates : (f : Polynomial D) → Vanishes D f S ↔ Generated gs f
    pub leading : (a : Mono) → Leading D S a → (g : Polynomial D) × (c : Mono) × Among g gs × Greatest D g c × Divides D c a
    pub monic : (g : Polynomial D) → Among g gs → (a : Mono) × Greatest D g a × Mod (suc q) (coefficient D g a) 1
    pub reduced : (g h : Polynomial D) → Among g gs → Among h gs → g ≢ h
        → (a b : Mono) → Greatest D g a → ¬ Mod (suc q) (coefficient D h b) 0 → ¬ Divides D a b
