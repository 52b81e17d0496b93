-- `levels::put_residues` meets its contract. The loop has written the residues before i.
use mathlib.Core.Path.{◌≡◌}
use Prim.Native.Nat.{ℕ, ◌≤◌}
use lib.IntN.{ℤ, pos}
use lib.ListN.{length, get_or}
use Rattle.residue.specs.Level.{residue_of}
use Rattle.residue.proofs.vector.Filled.{filled}
use Rattle.specification.specs.Levels.{residue_or0}
use Rattle.points.proofs.levels.put_residues.Given as goal

abbrev pub entry : ℕ → ℤ → ℕ
entry p z = residue_or0 (residue_of p z)

abbrev pub invariant-loop-i : goal.invariant-loop-i
invariant-loop-i l = (l.i ≤ length l.levels) × (l.to ≡ filled (λ k. entry l.p (get_or l.levels k (pos 0))) l.i l.initial.to)
