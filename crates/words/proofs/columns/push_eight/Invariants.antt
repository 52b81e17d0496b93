-- `columns::push_eight` meets its contract: each column is shifted by a byte, and has one of the word's at the front.
use Prim.Native.Nat.{◌-◌, ◌≤◌}
use Rattle.words.proofs.EightLaws.{Fronted}
use Rattle.words.proofs.columns.push_eight.Given as goal

abbrev pub invariant-loop-j : goal.invariant-loop-j
invariant-loop-j l = (l.j ≤ 8) × Fronted l.j l.eight l.rest l.initial.columns l.columns

abbrev pub decreases-loop-j : goal.decreases-loop-j
decreases-loop-j l = 8 - l.j
