-- `parity::low_mask` meets its contract: the mask of the first k variables.
use Rattle.std.proofs.Common.{◌≡◌, ◌≤◌}
use Rattle.residue.specs.Words.{word_of}
use Rattle.interpolation.specs.Parity.{values_at}
use Rattle.interpolation.proofs.parity.low_mask.Given as goal

abbrev pub invariant-loop-k : goal.invariant-loop-k
invariant-loop-k l = (l.k ≤ 6) × (l.mask ≡ word_of (values_at l.k l.point))
