-- `vector::each_with` meets its contract. The entries before the index are results of f, and those from it on are as they came.
use Rattle.std.proofs.Common.{◌≡◌, ℕ, ◌<◌, ◌≤◌, get_or}
use Rattle.residue.proofs.vector.each_with.Given as goal

abbrev pub invariant-loop-i : goal.invariant-loop-i
invariant-loop-i g l = record {
  done : (k : ℕ) → k < l.i → goal.F-post g l.f (get_or l.initial.dst k 0) (get_or l.src k 0) (get_or l.dst k 0);
  left : (k : ℕ) → l.i ≤ k → get_or l.dst k 0 ≡ get_or l.initial.dst k 0;
}
