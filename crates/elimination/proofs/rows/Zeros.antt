-- The search for the first number that is not 0.
use mathlib.Core.Path.{◌≡◌, ◌∙◌, sym, ap, refl}
use mathlib.Core.Bool.{cond, not, Bool, ◌&&◌, true, false, true≢false}
use mathlib.Core.List.{List, [], ◌∷◌}
use Prim.Native.Nat.{ℕ, suc, ◌+◌, ◌<◌, ◌≤◌, zero}
use native.Mathlib.Omega.{arith}
use native.Mathlib.Nat.{not-suc-le-zero, le_of_suc-le-suc}
use lib.ListN.{get_or, drop, length, take}
use lib.Seq.{get_or-drop}
use lib.Dec.{eqb, ltb}
use borrow.Author.Tests.{eqb-true, eqb-false, ltb-true, ltb-false}
use Rattle.std.proofs.Common.{Option, Some, None, MatchOption}
use Rattle.std.specs.List.{position_or_len}
use Rattle.elimination.specs.Rows.{first_nonzero}
use Rattle.residue.specs.Lists.{all_zero}

-- The library's search for it, along the first n numbers.
pub first_position : (n : ℕ) (w : List ℕ) → n ≤ length w → position_or_len (λ x. not (eqb x 0)) (take n w) ≡ first_nonzero n w
unfolding first_nonzero
first_position zero w h = refl
first_position (suc n) [] h = absurd (not-suc-le-zero h)
first_position (suc n) (x ∷ w) h = go (eqb x 0) (first_position n w (le_of_suc-le-suc h))
  where
    go : (b : Bool) → position_or_len (λ x. not (eqb x 0)) (take n w) ≡ first_nonzero n w
        → cond (not (not b)) (1 + position_or_len (λ x. not (eqb x 0)) (take n w)) 0 ≡ cond b (suc (first_nonzero n w)) 0
    go true e = omega arith
    go false e = refl

-- where all are 0
pub zero_first : (n : ℕ) (w : List ℕ) → n ≤ length w → all_zero (take n w) ≡ true → n ≡ first_nonzero n w
unfolding all_zero first_nonzero
zero_first zero w h e = refl
zero_first (suc n) [] h e = absurd (not-suc-le-zero h)
zero_first (suc n) (x ∷ w) h e = go (eqb x 0) refl e (λ k. zero_first n w (le_of_suc-le-suc h) k)
  where
    go : (b : Bool) → eqb x 0 ≡ b → (b && all_zero (take n w)) ≡ true → (all_zero (take n w) ≡ true → n ≡ first_nonzero n w) → suc n ≡ cond b (suc (first_nonzero n w)) 0
    go true z k f = ap suc (f k)
    go false z k f = absurd (true≢false (sym k))

-- What is found: no number before it is other than 0, and it is, if it is one of the n.
step : (n : ℕ) (w : List ℕ) (P : ℕ → Type 0) → ((get_or w 0 0 ≡ 0 → ⊥) → P 0) → (get_or w 0 0 ≡ 0 → P (suc (first_nonzero n (drop 1 w)))) → P (first_nonzero (suc n) w)
unfolding first_nonzero
step n w P h k = go (eqb (get_or w 0 0) 0) refl
  where
    go : (b : Bool) → eqb (get_or w 0 0) 0 ≡ b → P (cond b (suc (first_nonzero n (drop 1 w))) 0)
    go true e = k (eqb-true (get_or w 0 0) 0 e)
    go false e = h (eqb-false (get_or w 0 0) 0 e)

next : (w : List ℕ) (i : ℕ) → get_or (drop 1 w) i 0 ≡ get_or w (suc i) 0
next w i = let e : 1 + i ≡ suc i = omega arith in get_or-drop 1 w i 0 ∙ ap (λ (j : ℕ). get_or w j 0) e

pub first_most : (n : ℕ) (w : List ℕ) → first_nonzero n w ≤ n
unfolding first_nonzero
first_most zero w = omega arith
first_most (suc n) w = let h = first_most n (drop 1 w) in step n w (λ q. q ≤ suc n) (λ z. omega arith) (λ z. omega arith)

pub zero_before : (n : ℕ) (w : List ℕ) (i : ℕ) → i < first_nonzero n w → get_or w i 0 ≡ 0
unfolding first_nonzero
zero_before zero w i h = absurd (not-suc-le-zero h)
zero_before (suc n) w zero h = step n w (λ q. 0 < q → get_or w 0 0 ≡ 0) (λ z k. absurd (not-suc-le-zero k)) (λ z k. z) h
zero_before (suc n) w (suc i) h =
    sym (next w i) ∙ step n w (λ q. suc i < q → get_or (drop 1 w) i 0 ≡ 0) (λ z k. absurd (not-suc-le-zero k)) (λ z k. zero_before n (drop 1 w) i (omega arith)) h

pub not_zero_there : (n : ℕ) (w : List ℕ) → first_nonzero n w < n → get_or w (first_nonzero n w) 0 ≡ 0 → ⊥
unfolding first_nonzero
not_zero_there zero w h = absurd (not-suc-le-zero h)
not_zero_there (suc n) w h =
    step n w (λ q. q < suc n → get_or w q 0 ≡ 0 → ⊥) (λ z k. z) (λ z k e. not_zero_there n (drop 1 w) (omega arith) (next w (first_nonzero n (drop 1 w)) ∙ e)) h

-- What the search answers: a place below n, or that there is none.
pub found : (n : ℕ) (w : List ℕ) (r : Option ℕ) → r ≡ cond (ltb (first_nonzero n w) n) (Some (first_nonzero n w)) None
    → MatchOption r (first_nonzero n w ≡ n) (λ q. (q < n) × (q ≡ first_nonzero n w))
found n w r e = rw e (go (ltb (first_nonzero n w) n) refl)
  where
    go : (b : Bool) → ltb (first_nonzero n w) n ≡ b
        → MatchOption (cond b (Some (first_nonzero n w)) None) (first_nonzero n w ≡ n) (λ q. (q < n) × (q ≡ first_nonzero n w))
    go true t = (ltb-true (first_nonzero n w) n t, refl)
    go false t = omega (arith, ltb-false (first_nonzero n w) n t, first_most n w)
