-- `model::put_next` meets its contract. The loop has written the values before its index.
use mathlib.Core.Path.{◌≡◌}
use Prim.Native.Nat.{◌+◌, ◌*◌, ◌-◌, ◌≤◌}
use lib.ListN.{get_or, take}
use Rattle.residue.proofs.vector.Filled.{filled}
use Rattle.steps.proofs.model.put_next.Given as goal

abbrev pub invariant-loop-j : goal.invariant-loop-j
invariant-loop-j l = (l.j ≤ l.n) × (l.values ≡ filled (λ i. get_or l.records (8 * (get_or (take l.n l.firsts) i 0 + 1) + l.g) 0) l.j l.initial.values)

abbrev pub decreases-loop-j : goal.decreases-loop-j
decreases-loop-j l = l.n - l.j
