-- `pairs::only_difference` meets its contract: of the places seen so far the only one that differs is kept.
use Rattle.std.proofs.Common.{length}
use Rattle.interpolation.proofs.Differences.{OnlyOne}
use Rattle.interpolation.proofs.pairs.only_difference.Given as goal

abbrev pub invariant-loop-i : goal.invariant-loop-i
invariant-loop-i l = OnlyOne l.a l.b (length l.yielded) l.only
