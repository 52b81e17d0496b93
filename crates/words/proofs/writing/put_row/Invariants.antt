-- `writing::put_row` meets its contract.
use lib.ListN.{length}
use Prim.Native.Nat.{◌-◌, ◌≤◌}
use mathlib.Core.Path.{◌≡◌}
use Rattle.words.proofs.WritingLaws.{written}
use Rattle.words.proofs.writing.put_row.Given as goal

abbrev pub invariant-loop-k : goal.invariant-loop-k
invariant-loop-k l = (l.k ≤ 8) × ((length l.to ≡ 64) × (l.to ≡ written l.k l.word l.initial.to))

abbrev pub decreases-loop-k : goal.decreases-loop-k
decreases-loop-k l = 8 - l.k
