-- `levels::put_first` meets its contract. The loop has written what is before i.
use mathlib.Core.Path.{◌≡◌}
use mathlib.Core.List.{List}
use Prim.Native.Nat.{ℕ, ◌-◌, ◌≤◌}
use lib.IntN.{ℤ}
use lib.ListN.{get_or, take}
use Rattle.residue.specs.Layout.{fill}
use Rattle.residue.proofs.vector.Filled.{filled}
use Rattle.specification.specs.Levels.{residues}
use Rattle.points.proofs.levels.put_first.Given as goal

-- what is to stand at k
abbrev pub entry : ℕ → ℕ → List ℤ → ℕ → ℕ
entry p m levels k = get_or (fill 8 (residues p (take m levels))) k 0

abbrev pub invariant-loop-i : goal.invariant-loop-i
invariant-loop-i l = (l.i ≤ 8) × (l.to ≡ filled (entry l.p l.m l.levels) l.i l.initial.to)

abbrev pub decreases-loop-i : goal.decreases-loop-i
decreases-loop-i l = 8 - l.i
