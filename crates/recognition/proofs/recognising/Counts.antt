-- Counts in a lent table, byte by byte: whether each of the first n is a count, and the places behind them are unused.
use mathlib.Core.Path.{◌≡◌, refl, sym, ◌∙◌, ap, ap₂}
use mathlib.Core.Bool.{Bool, true, false, not, ◌&&◌, ◌||◌}
use mathlib.Core.List.{List, [], ◌∷◌}
use Prim.Native.Nat.{ℕ, zero, suc, ◌-◌, ◌<◌, ◌≤◌}
use native.Mathlib.Nat.{le_of_suc-le-suc, sub-zero, suc-sub-suc}
use native.Mathlib.Omega.{arith}
use lib.ListN.{length, take, drop, get_or}
use lib.Dec.{eqb}
use borrow.Author.Tests.{eq-eqb, ne_eqb}
use Rattle.std.specs.List.{list_any}
use Rattle.residue.specs.Lists.{every, same_list, all_zero}
use Rattle.residue.specs.Layout.{fill, begins, length_fill}
use Rattle.specification.specs.Counted.{is_count}
use Rattle.specification.proofs.counted.Room.{byte_count}

-- the first n bytes are counts where 0 is none of them
pub all_counts : (n : ℕ) (c : List ℕ) → n ≤ length c → ((i : ℕ) → get_or c i 0 < 256) → not (list_any (λ y. eqb y 0) (take n c)) ≡ every is_count (fill n c)
unfolding fill
all_counts zero c h b = refl
all_counts (suc n) [] h b = absurd (omega arith)
all_counts (suc n) (x ∷ c) h b = rw (byte_count x (b 0)) (go (eqb x 0) (all_counts n c (le_of_suc-le-suc h) (λ i. b (suc i))))
  where
    go : (z : Bool) → not (list_any (λ y. eqb y 0) (take n c)) ≡ every is_count (fill n c)
        → not (z || list_any (λ y. eqb y 0) (take n c)) ≡ (not z && every is_count (fill n c))
    go true e = refl
    go false e = e

-- what is behind n bytes is 0
same_zeros : (w : ℕ) (c : List ℕ) → w ≤ length c → same_list (fill w []) (take w c) ≡ all_zero (take w c)
unfolding fill same_list all_zero
same_zeros zero c h = refl
same_zeros (suc w) [] h = absurd (omega arith)
same_zeros (suc w) (x ∷ c) h = ap₂ ◌&&◌ (flipped x) (same_zeros w c (le_of_suc-le-suc h))
  where
    flipped : (x : ℕ) → eqb 0 x ≡ eqb x 0
    flipped zero = refl
    flipped (suc x) = ne_eqb 0 (suc x) (λ e. omega arith) ∙ sym (ne_eqb (suc x) 0 (λ e. omega arith))

same_unused : (w n : ℕ) (c : List ℕ) → n ≤ w → w ≤ length c → same_list (fill w (fill n c)) (take w c) ≡ all_zero (take (w - n) (drop n c))
unfolding fill same_list
same_unused w zero c h l = rw (sub-zero w) (same_zeros w c l)
same_unused zero (suc n) c h l = absurd (omega arith)
same_unused (suc w) (suc n) [] h l = absurd (omega arith)
same_unused (suc w) (suc n) (x ∷ c) h l = rw (eq-eqb x x refl, suc-sub-suc w n) (same_unused w n c (le_of_suc-le-suc h) (le_of_suc-le-suc l))

pub unused : (w n : ℕ) (c : List ℕ) → n ≤ w → w ≤ length c → begins (fill w (fill n c)) c ≡ all_zero (take (w - n) (drop n c))
unfolding begins
unused w n c h l = ap (λ (k : ℕ). same_list (fill w (fill n c)) (take k c)) (length_fill w (fill n c)) ∙ same_unused w n c h l
