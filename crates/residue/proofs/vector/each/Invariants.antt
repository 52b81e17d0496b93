-- `vector::each` meets its contract. The entries before the index are results of f, and those from it on are as they came.
use Rattle.std.proofs.Common.{◌≡◌, ℕ, ◌<◌, ◌≤◌, get_or}
use Rattle.residue.proofs.vector.each.Given as goal

abbrev pub invariant-loop-x : goal.invariant-loop-x
invariant-loop-x g l = record {
  done : (k : ℕ) → k < l.x-index → goal.F-post g l.f (get_or l.initial.dst k 0) (get_or l.dst k 0);
  left : (k : ℕ) → l.x-index ≤ k → get_or l.dst k 0 ≡ get_or l.initial.dst k 0;
}
