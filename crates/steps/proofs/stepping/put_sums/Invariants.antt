-- `stepping::put_sums` meets its contract. The loop has written the values of the first g interpolants.
use mathlib.Core.List.{[]}
use mathlib.Core.Path.{◌≡◌}
use Prim.Native.Nat.{◌-◌, ◌%◌, ◌≤◌}
use lib.ListN.{length, get_or, take}
use Rattle.residue.specs.Layout.{groups}
use Rattle.residue.specs.Vector.{dot_of}
use Rattle.residue.proofs.vector.Filled.{filled}
use Rattle.steps.proofs.stepping.put_sums.Given as goal

abbrev pub invariant-loop-g : goal.invariant-loop-g
invariant-loop-g l = (l.g ≤ l.m) × (l.next ≡ filled (λ i. dot_of (take (length l.values) (get_or (groups 64 l.m l.genes) i [])) l.values % l.p) l.g l.initial.next)

abbrev pub decreases-loop-g : goal.decreases-loop-g
decreases-loop-g l = l.m - l.g
