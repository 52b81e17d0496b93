-- What is read from lent tables: monomials, rows, and what it is that two sheets are compared by.
use Rattle.std.specs.Prelude.{◌≡◌, List, map, ◌↔◌, ℕ, take}
use Rattle.residue.specs.Sizes.{standard_size, leads_size, coefficients_size}
use Rattle.residue.specs.Lists.{Among}
use Rattle.residue.specs.Layout.{groups, fill}
use Rattle.specification.specs.declared.settings.Settings.{Settings}
use Rattle.specification.specs.Instance.{Monomial, monomial_of}
use Rattle.specification.specs.Tables.{Tables, points_in}

-- the first n monomials in m variables of a table, as lists of exponents and as monomials; the first r rows of n coefficients
abbrev pub exponents_in : ℕ → ℕ → List ℕ → List (List ℕ)
exponents_in m n table = map (fill m) (groups 8 n table)

abbrev pub monomials_in : (m n : ℕ) → List ℕ → List (Monomial m)
monomials_in m n table = map (monomial_of m) (groups 8 n table)

abbrev pub rows_in : ℕ → ℕ → List ℕ → List (List ℕ)
rows_in n r table = map (fill n) (groups 64 r table)

-- 'equal standard, lead and coefficient tables': in each byte of their sizes
pub record SameAlgebra (t t' : Tables) : Type 0 where
  pub standard : take standard_size t.standard ≡ take standard_size t'.standard
  pub leads : take leads_size t.leads ≡ take leads_size t'.leads
  pub coefficients : take coefficients_size t.coefficients ≡ take coefficients_size t'.coefficients

-- 'their sets of states are equal'
abbrev pub SameStates : Settings → ℕ → Tables → ℕ → Tables → Type 0
SameStates s n t n' t' = (P : List ℕ) → Among P (points_in s n t.states) ↔ Among P (points_in s n' t'.states)
