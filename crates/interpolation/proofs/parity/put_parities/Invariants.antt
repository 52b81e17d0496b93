-- `parity::put_parities` meets its contract: the values at the points seen so far are written.
use Rattle.std.proofs.Common.{◌≡◌, length}
use Rattle.residue.proofs.vector.Filled.{filled}
use Rattle.interpolation.proofs.PointValues.{parity_at}
use Rattle.interpolation.proofs.parity.put_parities.Given as goal

abbrev pub invariant-loop-i : goal.invariant-loop-i
invariant-loop-i l = l.work ≡ filled (parity_at l.polynomial l.points) (length l.yielded) l.initial.work
