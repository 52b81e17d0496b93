-- The values of a polynomial's terms. No public promise names this definition.
use Rattle.std.specs.Prelude.{List, map, ℕ, ◌%◌, length}
use Rattle.residue.specs.Vector.{dot_of}
use Rattle.residue.specs.Layout.{groups}
use Rattle.monomial.specs.Monomial.{monomial_at}

-- the values of terms, with the coefficients cs and 8 exponents each, at the first n points of a table
unfoldable pub term_values : ℕ → List ℕ → List ℕ → ℕ → List ℕ → List ℕ
term_values p cs exponents n points = map (λ P. dot_of cs (map (monomial_at P) (groups 8 (length cs) exponents)) % p) (groups 8 n points)
