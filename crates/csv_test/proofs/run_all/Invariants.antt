use Rattle.std.proofs.Common.{◌≤◌}
use Rattle.csv_test.proofs.run_all.Given as goal

abbrev pub invariant-loop-i : goal.invariant-loop-i
invariant-loop-i g l = l.passed ≤ l.i
