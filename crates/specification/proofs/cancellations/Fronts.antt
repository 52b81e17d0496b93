-- The front of a working row, its values at the n points, and what drawing up does to it: the first that is not 0, and the scaled row.
use mathlib.Core.Path.{◌≡◌, refl, sym, ap, ◌∙◌}
use mathlib.Core.Bool.{Bool, true, false, cond, ◌&&◌}
use mathlib.Core.List.{List, [], ◌∷◌}
use Prim.Native.Nat.{ℕ, zero, suc, ◌+◌, ◌*◌, ◌%◌, ◌<◌, ◌≤◌}
use native.Mathlib.Omega.{arith}
use lib.ListN.{length, set, take, drop, length-set}
use lib.Seq.{take-take, take-append-le, take-set-le, length-take-le}
use lib.Dec.{eqb}
use Rattle.residue.specs.Lists.{all_zero}
use Rattle.residue.specs.Vector.{scaled}
use Rattle.elimination.specs.Rows.{first_nonzero, pivot_row}
use Rattle.residue.proofs.vector.Vectors.{scaled_length}
use Rattle.elimination.proofs.rows.Zeros.{zero_first}
use Rattle.specification.specs.Cancellations.{first_place}
use Rattle.specification.proofs.Recognised.{map_take}

pub first_same : (n : ℕ) (w : List ℕ) → n ≤ length w → first_nonzero n w ≡ first_place (take n w)
unfolding first_nonzero first_place
first_same zero w h = refl
first_same (suc n) [] h = absurd (omega arith)
first_same (suc n) (x ∷ w) h = ap (λ (k : ℕ). cond (eqb x 0) (suc k) 0) (first_same n w (omega arith))

-- it is n exactly where all n are 0
pub zero_same : (n : ℕ) (w : List ℕ) → n ≤ length w → first_nonzero n w ≡ n → all_zero (take n w) ≡ true
unfolding first_nonzero all_zero
zero_same zero w h e = refl
zero_same (suc n) [] h e = absurd (omega arith)
zero_same (suc n) (x ∷ w) h e = go (eqb x 0) e (zero_same n w (omega arith))
  where
    go : (b : Bool) → cond b (suc (first_nonzero n w)) 0 ≡ suc n → (first_nonzero n w ≡ n → all_zero (take n w) ≡ true) → b && all_zero (take n w) ≡ true
    go true e ih = ih (omega arith)
    go false e ih = absurd (omega arith)

pub other_same : (n : ℕ) (w : List ℕ) → n ≤ length w → first_nonzero n w < n → all_zero (take n w) ≡ false
other_same n w h k = go (all_zero (take n w)) refl
  where
    go : (b : Bool) → all_zero (take n w) ≡ b → all_zero (take n w) ≡ false
    go true e = absurd (omega (arith, zero_first n w h e))
    go false e = e

-- the row's own coefficient lies behind its values
pub pivot_front : (p n own c : ℕ) (w : List ℕ) → n ≤ own → own < length w → take n (pivot_row p own c w) ≡ scaled p c (take n w)
unfolding pivot_row scaled
pivot_front p n own c w h k =
    take-append-le n (scaled p c (take (own + 1) (set w own 1))) (drop (own + 1) (set w own 1))
    (omega (arith, scaled_length p c (take (own + 1) (set w own 1)), length-take-le (own + 1) (set w own 1) (omega (arith, length-set w own 1))))
    ∙ sym (map_take (λ x. (c * x) % p) n (take (own + 1) (set w own 1)))
    ∙ ap (scaled p c) (take-take n (own + 1) (set w own 1) (omega arith) ∙ take-set-le n w own 1 h)
