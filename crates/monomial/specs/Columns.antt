-- Columns: one coordinate of each point of a table. No public promise names these definitions.
use Rattle.std.specs.Prelude.{List, map, [], ◌∷◌, ◌++◌, ℕ, zero, suc, get_or}
use Rattle.residue.specs.Layout.{groups}

-- the values of x_(k+1) at the first n points of a table
unfoldable pub column_of : ℕ → ℕ → List ℕ → List ℕ
column_of k n points = map (λ P. get_or P k 0) (groups 8 n points)

-- those of x1 to xk
unfoldable pub columns_of : ℕ → ℕ → List ℕ → List (List ℕ)
columns_of zero n points = []
columns_of (suc k) n points = columns_of k n points ++ (column_of k n points ∷ [])
