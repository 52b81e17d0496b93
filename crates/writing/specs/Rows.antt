-- The rows that lie in a lent table, as they are written.
use Rattle.std.specs.Prelude.{List, map, ℕ, take}
use Rattle.residue.specs.Layout.{groups}

-- the first m numbers in each of the first n places of a table
unfoldable pub in_table : (width n m : ℕ) → List ℕ → List (List ℕ)
in_table width n m table = map (take m) (groups width n table)
