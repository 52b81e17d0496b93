-- `leaving::gather_without` meets its contract: what is gathered of the points before the ith, with the rest of them, gives all.
use Rattle.points.proofs.leaving.Entries.{Before}
use Rattle.points.proofs.leaving.gather_without.Given as goal

abbrev pub invariant-loop-i : goal.invariant-loop-i
invariant-loop-i l = Before l.m l.k l.n l.states l.times l.i l.left l.points l.counts
