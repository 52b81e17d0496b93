-- `solving::put_negatives` meets its contract. The loop has written the negatives before i.
use mathlib.Core.Path.{◌≡◌}
use Prim.Native.Nat.{◌-◌, ◌%◌, ◌≤◌}
use lib.ListN.{length, get_or}
use Rattle.residue.proofs.vector.Filled.{filled}
use Rattle.interpolation.proofs.solving.put_negatives.Given as goal

abbrev pub invariant-loop-i : goal.invariant-loop-i
invariant-loop-i l = (l.i ≤ length l.from) × (l.to ≡ filled (λ k. (l.p - get_or l.from k 0) % l.p) l.i l.initial.to)
