-- `pairs::varies` meets its contract: the points seen so far have the same coordinate.
use Rattle.std.proofs.Common.{length}
use Rattle.interpolation.specs.Pairs.{Constant}
use Rattle.interpolation.proofs.pairs.varies.Given as goal

abbrev pub invariant-loop-point : goal.invariant-loop-point
invariant-loop-point l = Constant l.k (length l.yielded) l.points
