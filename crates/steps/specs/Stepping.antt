-- The model, its step and its run as the code makes them, over states in 8 bytes. No public promise names these definitions: they follow the functions whose
-- contracts cite them.
use Rattle.std.specs.Prelude.{List, [], ◌∷◌, ◌++◌, map, ℕ, zero, suc, ◌+◌, ◌*◌, ◌%◌, ◌^◌, get_or, take}
use Rattle.residue.specs.Sizes.{work_size}
use Rattle.residue.specs.Vector.{dot_of}
use Rattle.residue.specs.Layout.{fill, groups}
use Rattle.monomial.specs.Monomial.{monomial_at}
use Rattle.monomial.specs.Columns.{column_of}
use Rattle.interpolation.specs.Solving.{solution}

-- byte g of each record that stands behind one of those named
unfoldable pub next_values : ℕ → List ℕ → List ℕ → List ℕ
next_values g records firsts = map (λ i. get_or records (8 * (i + 1) + g) 0) firsts

-- what elimination finds for the first k genes
unfoldable pub solutions_of : ℕ → ℕ → List ℕ → List ℕ → List ℕ → List ℕ → ℕ → List (List ℕ)
solutions_of p n rows pivots records firsts zero = []
solutions_of p n rows pivots records firsts (suc k) =
    solutions_of p n rows pivots records firsts k ++ (solution p n rows pivots (fill work_size (next_values k records (take n firsts))) ∷ [])

-- the powers of each coordinate with exponents below e
unfoldable pub powers_of : ℕ → List ℕ → ℕ → List (List ℕ)
powers_of p P zero = []
powers_of p P (suc e) = powers_of p P e ++ (map (λ x. x ^ e % p) P ∷ [])

-- the powers of x_(k+1) that n monomials have, out of a table of powers
unfoldable pub factors_of : ℕ → ℕ → List ℕ → List ℕ → List ℕ
factors_of k n standard powers = map (λ e. get_or powers (8 * e + k) 0) (column_of k n standard)

-- the values of n monomials at a state, of which the first m coordinates count
unfoldable pub values_at : ℕ → ℕ → ℕ → List ℕ → List ℕ → List ℕ
values_at p m n standard P = map (λ a. monomial_at (take m P) a % p) (groups 8 n standard)

-- the next state: the values of m interpolants
unfoldable pub step_of : ℕ → ℕ → ℕ → List ℕ → List ℕ → List ℕ → List ℕ
step_of p m n standard genes P = fill 8 (map (λ cs. dot_of (take n cs) (values_at p m n standard P) % p) (groups 64 m genes))
