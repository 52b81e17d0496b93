-- `pivots::clear_all` meets its contract.
use Prim.Native.Nat.{◌-◌, ◌≤◌}
use Rattle.words.specs.Packed.{pivot_words}
use Rattle.words.specs.PivotTables.{Cleared}
use Rattle.words.proofs.pivots.clear_all.Given as goal

abbrev pub invariant-loop-j : goal.invariant-loop-j
invariant-loop-j l = (l.j ≤ l.k) × Cleared l.j (pivot_words l.place l.column l.polynomial) l.initial.columns l.initial.polynomials l.columns l.polynomials

abbrev pub decreases-loop-j : goal.decreases-loop-j
decreases-loop-j l = l.k - l.j
