-- The interpolant as elimination leaves it. No public promise names this definition: it follows the functions whose contracts cite it.
use Rattle.std.specs.Prelude.{List, map, ℕ, ◌-◌, ◌%◌, take, drop}
use Rattle.elimination.specs.Elimination.{eliminated}

-- minus the coefficients of a working row, after it met the pivot rows of all n points
unfoldable pub solution : ℕ → ℕ → List ℕ → List ℕ → List ℕ → List ℕ
solution p n rows pivots w = map (λ x. (p - x) % p) (take n (drop n (eliminated p rows pivots n w)))
