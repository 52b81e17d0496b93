-- Monomials. A monomial in m variables is the list of its m exponents, x1's first; a point is the list of its m coordinates.
use Rattle.std.specs.Prelude.{Bool, true, false, ◌&&◌, List, [], ◌∷◌, ℕ, ◌+◌, ◌*◌, ◌^◌, leb, replicate, get_or, set}

-- the total degree (docs/SCOPE.md, 'Monomial orders')
abbrev pub degree : List ℕ → ℕ
degree [] = 0
degree (x ∷ xs) = x + degree xs

-- the monomial 1 in m variables (docs/SCOPE.md, 'The sheet')
abbrev pub one : ℕ → List ℕ
one m = replicate m 0

-- the product of two monomials: exponents add up (docs/SCOPE.md, 'The sheet': what divides what)
abbrev pub product : List ℕ → List ℕ → List ℕ
product [] b = b
product (x ∷ xs) [] = x ∷ xs
product (x ∷ xs) (y ∷ ys) = (x + y) ∷ product xs ys

-- x_(k+1) times a (docs/SCOPE.md, 'The sheet': the rows that a new state brings)
abbrev pub times_variable : ℕ → List ℕ → List ℕ
times_variable k a = set a k (get_or a k 0 + 1)

-- a divides b: no exponent of a is larger than b's (docs/SCOPE.md, 'The sheet': rows)
abbrev pub divides : List ℕ → List ℕ → Bool
divides [] b = true
divides (x ∷ xs) [] = false
divides (x ∷ xs) (y ∷ ys) = leb x y && divides xs ys

-- the value at a point, not reduced; zero to the power 0 is 1 (docs/SCOPE.md, 'The sheet')
abbrev pub monomial_at : List ℕ → List ℕ → ℕ
monomial_at [] a = 1
monomial_at (p ∷ ps) [] = 1
monomial_at (p ∷ ps) (x ∷ xs) = p ^ x * monomial_at ps xs
