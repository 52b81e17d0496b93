-- `columns::put_variables` meets its contract.
use Prim.Native.Nat.{◌-◌, ◌≤◌}
use Rattle.words.proofs.EightLaws.{Gathered}
use Rattle.words.proofs.columns.put_variables.Given as goal

abbrev pub invariant-loop-j : goal.invariant-loop-j
invariant-loop-j l = (l.j ≤ l.n) × Gathered l.n l.points l.j l.eight l.columns

abbrev pub decreases-loop-j : goal.decreases-loop-j
decreases-loop-j l = l.n - l.j
