-- `model::put_genes` meets its contract. The loop has written the interpolants of the first g genes.
use mathlib.Core.Path.{◌≡◌}
use Prim.Native.Nat.{◌-◌, ◌≤◌}
use Rattle.residue.specs.Layout.{fill, in_places}
use Rattle.steps.specs.Stepping.{solutions_of}
use Rattle.steps.proofs.model.put_genes.Given as goal

abbrev pub invariant-loop-g : goal.invariant-loop-g
invariant-loop-g l = (l.g ≤ l.m) × (l.genes ≡ fill 512 (in_places 64 (solutions_of l.p l.n l.rows l.pivots l.records l.firsts l.g)))

abbrev pub decreases-loop-g : goal.decreases-loop-g
decreases-loop-g l = l.m - l.g
