-- `pairs::has_pair` meets its contract: the first i points are linked, and no two of them are a pair.
use mathlib.Core.Path.{◌≡◌}
use mathlib.Core.Bool.{false}
use Prim.Native.Nat.{ℕ, ◌-◌, ◌<◌, ◌≤◌}
use lib.ListN.{length}
use Rattle.interpolation.specs.Pairs.{Chained, some_below, contrary_to}
use Rattle.interpolation.proofs.Chains.{Lasts}
use Rattle.interpolation.proofs.pairs.has_pair.Given as goal

abbrev pub invariant-loop-i : goal.invariant-loop-i
invariant-loop-i l = (l.i ≤ l.n) × ((length l.before ≡ 64) × (length l.last ≡ 251))
    × (Lasts l.rests l.i l.last × Chained l.rests l.i l.before)
    × ((t : ℕ) → t < l.i → some_below t (contrary_to l.k l.points l.values t) ≡ false)

abbrev pub decreases-loop-i : goal.decreases-loop-i
decreases-loop-i l = l.n - l.i
