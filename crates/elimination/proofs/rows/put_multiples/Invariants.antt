-- `rows::put_multiples` meets its contract. The first k multiples are in the block, the next is at hand, and the first of the three that it is one of.
use mathlib.Core.Path.{◌≡◌}
use mathlib.Core.List.{List}
use Prim.Native.Nat.{ℕ, ◌+◌, ◌*◌, ◌-◌, ◌%◌, ◌<◌, ◌≤◌}
use lib.ListN.{length, get_or}
use Rattle.residue.specs.Vector.{scaled}
use Rattle.elimination.specs.Elimination.{factors}
use Rattle.elimination.proofs.rows.put_multiples.Given as goal

abbrev pub multiple : ℕ → List ℕ → ℕ → List ℕ
multiple p row k = scaled p (get_or factors k 0) row

pub record Filling (p : ℕ) (row block first last : List ℕ) (k : ℕ) : Type 0 where
  pub most : k ≤ 9
  pub size : length block ≡ 1152
  pub first_long : length first ≡ 128
  pub last_long : length last ≡ 128
  pub last_is : k < 9 → last ≡ multiple p row k
  pub first_is : (k % 3 ≡ 0 → ⊥) → first ≡ multiple p row (k - k % 3)
  pub put : (j i : ℕ) → j < k → i < 128 → get_or block (128 * j + i) 0 ≡ get_or (multiple p row j) i 0

abbrev pub invariant-loop-k : goal.invariant-loop-k
invariant-loop-k l = Filling l.p l.row l.block l.first l.last l.k
