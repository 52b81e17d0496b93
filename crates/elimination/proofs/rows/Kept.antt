-- Pivot rows: what a working row is made into.
use mathlib.Core.Path.{◌≡◌, ap, ◌∙◌}
use mathlib.Core.List.{List, ◌++◌}
use Prim.Native.Nat.{ℕ, ◌+◌, ◌-◌, ◌≤◌, ◌*◌, ◌<◌}
use native.Mathlib.Omega.{arith}
use native.Mathlib.Decide.{dec_lt}
use lib.ListN.{length, get_or, drop, set, take, length-append, length-set, length-drop, get_or-append}
use lib.Seq.{get_or-drop, get_or-append-add, get_or-take, get_or-set_other, length-take-le}
use Rattle.residue.specs.Congruence.{Mod}
use Rattle.residue.specs.Vector.{Below, scaled}
use Rattle.elimination.specs.Rows.{pivot_row}
use Rattle.residue.proofs.Congruence.{of, reduce, ◌then◌}
use Rattle.residue.proofs.vector.Vectors.{scaled_length, scaled_at, scaled_below, below_drop, below_append, below_set}

-- what lies behind a new front is the row's own
past_front : (f w : List ℕ) (k i : ℕ) → length f ≡ k → k ≤ i → get_or (f ++ drop k w) i 0 ≡ get_or w i 0
past_front f w k i l h =
    let e : i ≡ length f + (i - k) = omega arith in
    let g : k + (i - k) ≡ i = omega arith in
    ap (λ (j : ℕ). get_or (f ++ drop k w) j 0) e ∙ get_or-append-add f (drop k w) (i - k) 0 ∙ get_or-drop k w (i - k) 0 ∙ ap (λ (j : ℕ). get_or w j 0) g

-- A pivot row is c times the working row with its own coefficient at 1. Behind it the row is 0.
module _ (p own c : ℕ) (w : List ℕ) (inside : own < length w) where
  abbrev own_front : List ℕ
  own_front = take (own + 1) (set w own 1)

  own_length : length (scaled p c own_front) ≡ own + 1
  own_length = scaled_length p c own_front ∙ length-take-le (own + 1) (set w own 1) (simp length-set (omega arith))

  pub pivot_row_length : length (pivot_row p own c w) ≡ length w
  unfolding pivot_row
  pivot_row_length = simp (length-append, length-drop, length-set, own_length) (omega arith)

  pub pivot_row_below : 1 < p → Below p w → Below p (pivot_row p own c w)
  unfolding pivot_row
  pivot_row_below h b = below_append p (scaled p c own_front) (drop (own + 1) (set w own 1)) (scaled_below p c own_front (omega arith)) (below_drop p (own + 1) (set w own 1) (below_set p own 1 w h b))

  pub pivot_row_at : (i : ℕ) → (own < i → get_or w i 0 ≡ 0) → Mod p (get_or (pivot_row p own c w) i 0) (c * get_or (set w own 1) i 0)
  unfolding pivot_row
  pivot_row_at i h = go (dec_lt own i)
    where
      go : Dec (own < i) → Mod p (get_or (scaled p c own_front ++ drop (own + 1) (set w own 1)) i 0) (c * get_or (set w own 1) i 0)
      go (no k) =
          let l = own_length in
          of (get_or-append (scaled p c own_front) (drop (own + 1) (set w own 1)) 0 i (omega (arith, k)) ∙ scaled_at p c own_front i (omega (arith, k, scaled_length p c own_front)))
          then reduce p (c * get_or own_front i 0)
          then of (ap (λ (x : ℕ). c * x) (get_or-take (own + 1) (set w own 1) i 0 (omega (arith, k))))
      go (yes k) =
          let z : get_or (set w own 1) i 0 ≡ 0 = get_or-set_other w own i 1 0 (λ e. omega arith) ∙ h k in
          of (past_front (scaled p c own_front) (set w own 1) (own + 1) i own_length (omega arith) ∙ rw z (omega arith))
