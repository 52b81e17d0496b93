-- The points that a table and bytes of counts hold. No public promise names this: it serves the contract of the function that leaves a coordinate out of them.
use mathlib.Core.List.{List, map, zip}
use Rattle.std.specs.Prelude.{ℕ, take}
use Rattle.residue.specs.Layout.{groups, fill}
use Rattle.specification.specs.Counted.{Counted}

-- the first n points of a table of 8 bytes a place, of m numbers each, with their counts
unfoldable pub counted_in : ℕ → ℕ → List ℕ → List ℕ → Counted
counted_in m n states times = zip (map (take m) (groups 8 n states)) (fill n times)
