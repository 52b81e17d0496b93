-- Laws of elimination: lengths and residues, what a cancellation does to each entry, and the count of cancellations.
use mathlib.Core.Path.{◌≡◌, refl, sym, ap, ◌∙◌}
use mathlib.Core.Bool.{Bool, true, false, cond}
use mathlib.Core.List.{List}
use Prim.Native.Nat.{ℕ, zero, suc, ◌+◌, ◌*◌, ◌-◌, ◌/◌, ◌%◌, ◌<◌, ◌≤◌}
use native.Mathlib.Numerals.{add-one}
use native.Mathlib.Omega.{arith}
use lib.ListN.{length, get_or, take, drop, length-drop}
use lib.Seq.{length-take-le}
use lib.Dec.{eqb, ltb}
use borrow.Author.Tests.{eq-eqb, ne_eqb, eqb-true, eqb-false, ltb-false}
use Rattle.residue.specs.Congruence.{Mod}
use Rattle.residue.specs.Vector.{Below, add_scaled}
use Rattle.elimination.specs.Elimination.{cancelled, eliminated, counted, cancellations, whole_width}
use Rattle.residue.proofs.Congruence.{rfl, of, reduce, negative, ◌then◌, ◌plus◌, ◌times◌}
use Rattle.residue.proofs.vector.Vectors.{add_scaled_length, add_scaled_at, add_scaled_below}

-- whole vectors reach as far as the row is not 0, and no further than it has entries
pub whole_limits : (end : ℕ) → (whole_width end ≤ 128) × ((i : ℕ) → whole_width end ≤ i → i < 128 → end ≤ i)
unfolding whole_width
whole_limits end = go (ltb 112 end) refl
  where
    go : (b : Bool) → ltb 112 end ≡ b → (cond b 128 ((end + 15) / 16 * 16) ≤ 128) × ((i : ℕ) → cond b 128 ((end + 15) / 16 * 16) ≤ i → i < 128 → end ≤ i)
    go true e = (omega arith, λ i h k. absurd (omega arith))
    go false e = let l = ltb-false 112 end e in (omega (arith, l), λ i h k. omega (arith, h))

-- A cancellation.
module _ (p : ℕ) (row : List ℕ) (at : ℕ) (w : List ℕ) where
  pub cancel_none : get_or w at 0 ≡ 0 → cancelled p row at w ≡ w
  unfolding cancelled
  cancel_none e = simp (eq-eqb (get_or w at 0) 0 e)

  pub cancel_some : (get_or w at 0 ≡ 0 → ⊥) → cancelled p row at w ≡ add_scaled p (p - get_or w at 0) w row
  unfolding cancelled
  cancel_some e = simp (ne_eqb (get_or w at 0) 0 e)

  -- what holds of both holds of the result
  either : (P : List ℕ → Type 0) → (get_or w at 0 ≡ 0 → P w) → P (add_scaled p (p - get_or w at 0) w row) → P (cancelled p row at w)
  either P h k = go (eqb (get_or w at 0) 0) refl
    where
      go : (b : Bool) → eqb (get_or w at 0) 0 ≡ b → P (cancelled p row at w)
      go true e = rw (cancel_none (eqb-true (get_or w at 0) 0 e)) (h (eqb-true (get_or w at 0) 0 e))
      go false e = rw (cancel_some (eqb-false (get_or w at 0) 0 e)) k

  module _ (same : length w ≡ length row) where
    pub cancelled_length : length (cancelled p row at w) ≡ length w
    cancelled_length = either (λ l. length l ≡ length w) (λ z. refl) (add_scaled_length p (p - get_or w at 0) w row same)

    pub cancelled_below : 0 < p → Below p w → Below p (cancelled p row at w)
    cancelled_below z b = either (Below p) (λ e. b) (add_scaled_below p (p - get_or w at 0) w row same z)

-- It counts where the entry is not 0.
pub counted_none : {x : ℕ} → x ≡ 0 → 0 ≡ counted x
unfolding counted
counted_none {x} e = simp (eq-eqb x 0 e)

pub counted_one : {x : ℕ} → (x ≡ 0 → ⊥) → 1 ≡ counted x
unfolding counted
counted_one {x} e = simp (ne_eqb x 0 e)

counted_most : (x : ℕ) → counted x ≤ 1
unfolding counted
counted_most x = go (eqb x 0)
  where
    go : (b : Bool) → cond b 0 1 ≤ 1
    go true = omega arith
    go false = omega arith

-- Each entry gains the row's, times minus the entry to be cancelled; where p is suc q, minus 1 is q.
turned : (q x y z : ℕ) → x ≤ suc q → Mod (suc q) ((y + (suc q - x) * z) % suc q) (y + q * x * z)
turned q x y z h = reduce (suc q) (y + (suc q - x) * z) then (rfl {x = y} plus (negative q x h times rfl {x = z}))

pub cancelled_at : (q : ℕ) (row : List ℕ) (at : ℕ) (w : List ℕ) → length w ≡ length row → get_or w at 0 ≤ suc q
    → (i : ℕ) → i < length w → Mod (suc q) (get_or (cancelled (suc q) row at w) i 0) (get_or w i 0 + q * get_or w at 0 * get_or row i 0)
cancelled_at q row at w same h i l =
    either (suc q) row at w (λ r. Mod (suc q) (get_or r i 0) (get_or w i 0 + q * get_or w at 0 * get_or row i 0)) (λ z. of (none (get_or w at 0) z))
    (of (add_scaled_at (suc q) (suc q - get_or w at 0) w row same i l) then turned q (get_or w at 0) (get_or w i 0) (get_or row i 0) h)
  where
    none : (x : ℕ) → x ≡ 0 → get_or w i 0 ≡ get_or w i 0 + q * x * get_or row i 0
    none x z = rw z (omega arith)

-- The elimination.
module _ (p : ℕ) (rows pivots : List ℕ) (w : List ℕ) where
  pub eliminated_none : eliminated p rows pivots 0 w ≡ w
  unfolding eliminated
  eliminated_none = refl

  pub eliminated_more : (t : ℕ)
      → eliminated p rows pivots (t + 1) w ≡ cancelled p (take 128 (drop (1152 * t) rows)) (get_or pivots t 0) (eliminated p rows pivots t w)
  unfolding eliminated
  eliminated_more t = ap (λ (k : ℕ). eliminated p rows pivots k w) (add-one t)

  pub cancellations_none : cancellations p rows pivots 0 w ≡ 0
  unfolding cancellations
  cancellations_none = refl

  pub cancellations_more : (t : ℕ)
      → cancellations p rows pivots (t + 1) w ≡ cancellations p rows pivots t w + counted (get_or (eliminated p rows pivots t w) (get_or pivots t 0) 0)
  unfolding cancellations
  cancellations_more t = ap (λ (k : ℕ). cancellations p rows pivots k w) (add-one t)

  -- at most one for each pivot row
  pub cancellations_most : (t : ℕ) → cancellations p rows pivots t w ≤ t
  unfolding cancellations
  cancellations_most zero = omega arith
  cancellations_most (suc t) = omega (arith, cancellations_most t, counted_most (get_or (eliminated p rows pivots t w) (get_or pivots t 0) 0))

pub row_long : (t : ℕ) (rows : List ℕ) → 1152 * t + 1152 ≤ length rows → length (take 128 (drop (1152 * t) rows)) ≡ 128
row_long t rows h = length-take-le 128 (drop (1152 * t) rows) (omega (arith, length-drop (1152 * t) rows))

module _ (p : ℕ) (rows pivots : List ℕ) (w : List ℕ) (long : length w ≡ 128) where
  pub eliminated_length : (t : ℕ) → 1152 * t ≤ length rows → length (eliminated p rows pivots t w) ≡ 128
  unfolding eliminated
  eliminated_length zero h = long
  eliminated_length (suc t) h =
      let e = eliminated_length t (omega arith) in cancelled_length p _ (get_or pivots t 0) (eliminated p rows pivots t w) (e ∙ sym (row_long t rows (omega arith))) ∙ e

  pub eliminated_below : 0 < p → Below p w → (t : ℕ) → 1152 * t ≤ length rows → Below p (eliminated p rows pivots t w)
  unfolding eliminated
  eliminated_below z b zero h = b
  eliminated_below z b (suc t) h =
      cancelled_below p _ (get_or pivots t 0) (eliminated p rows pivots t w) (eliminated_length t (omega arith) ∙ sym (row_long t rows (omega arith))) z (eliminated_below z b t (omega arith))
