-- `stepping::put_values` meets its contract. The loop has multiplied by the powers of the first k coordinates.
use mathlib.Core.Path.{◌≡◌}
use Prim.Native.Nat.{◌-◌, ◌≤◌}
use lib.ListN.{length}
use Rattle.steps.specs.Stepping.{values_at}
use Rattle.steps.proofs.stepping.put_values.Given as goal

abbrev pub invariant-loop-k : goal.invariant-loop-k
invariant-loop-k l = (l.k ≤ l.m) × (l.values ≡ values_at l.p l.k (length l.initial.values) l.standard l.state)

abbrev pub decreases-loop-k : goal.decreases-loop-k
decreases-loop-k l = l.m - l.k
