-- `pairs::put_rests` meets its contract: the keys of the points seen so far have been put.
use Rattle.std.proofs.Common.{◌≡◌, length}
use Rattle.interpolation.specs.Pairs.{Rests}
use Rattle.interpolation.proofs.pairs.put_rests.Given as goal

abbrev pub invariant-loop-i : goal.invariant-loop-i
invariant-loop-i l = (length l.rests ≡ length l.initial.rests) × Rests l.k (length l.yielded) l.points l.rests
