-- `pairs::put_names` meets its contract: the names of the first k variables have been put.
use mathlib.Core.Path.{◌≡◌}
use mathlib.Core.List.{List}
use Prim.Native.Nat.{ℕ, ◌-◌, ◌≤◌}
use lib.ListN.{length, take}
use Rattle.residue.specs.Layout.{groups, fill}
use Rattle.specification.specs.Needed.{wiring_of}
use Rattle.interpolation.proofs.pairs.put_names.Given as goal

-- the names of the first k variables
abbrev pub put : ℕ → List ℕ → List ℕ → ℕ → List ℕ
put n points values k = wiring_of k (groups 8 n points) (take n values)

abbrev pub invariant-loop-k : goal.invariant-loop-k
invariant-loop-k l = (l.k ≤ l.m) × ((l.count ≡ length (put l.n l.points l.values l.k)) × (l.out ≡ fill 8 (put l.n l.points l.values l.k)))

abbrev pub decreases-loop-k : goal.decreases-loop-k
decreases-loop-k l = l.m - l.k
