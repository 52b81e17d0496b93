-- `bytes::copy` meets its contract. The loop has written the entries before i.
use mathlib.Core.Path.{◌≡◌}
use Prim.Native.Nat.{◌≤◌}
use lib.ListN.{length, get_or}
use Rattle.residue.proofs.vector.Filled.{filled}
use Rattle.residue.proofs.bytes.copy.Given as goal

abbrev pub invariant-loop-i : goal.invariant-loop-i
invariant-loop-i l = (l.i ≤ length l.from) × (l.to ≡ filled (λ k. get_or l.from k 0) l.i l.initial.to)
