-- `levels::put_reduced` meets its contract. The loop has written the remainders before i.
use mathlib.Core.Path.{◌≡◌}
use Prim.Native.Nat.{◌%◌, ◌≤◌}
use lib.ListN.{length, get_or}
use Rattle.residue.proofs.vector.Filled.{filled}
use Rattle.points.proofs.levels.put_reduced.Given as goal

abbrev pub invariant-loop-i : goal.invariant-loop-i
invariant-loop-i l = (l.i ≤ length l.from) × (l.to ≡ filled (λ k. get_or l.from k 0 % l.p) l.i l.initial.to)
