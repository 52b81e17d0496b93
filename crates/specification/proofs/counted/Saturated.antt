-- Counts as bytes while points are entered one after the other: a count stays at 255, and a flag says that one would be above (request M-106). No definition
-- names these; they are what a search over any number of points stands on.
use mathlib.Core.Path.{◌≡◌, refl, sym, ◌∙◌, ap}
use mathlib.Core.Bool.{Bool, true, false, cond, ◌||◌, or-true}
use mathlib.Core.List.{List, [], ◌∷◌, ◌++◌, map, map-append}
use Prim.Native.Nat.{ℕ, zero, suc, ◌<◌, ◌≤◌}
use native.Mathlib.Nat.{le_of_suc-le-suc}
use native.Mathlib.Decide.{dec_lt}
use native.Mathlib.Omega.{arith}
use lib.ListN.{length, get_or, set, length-map, length-append}
use lib.Dec.{eqb, ltb}
use borrow.Author.Tests.{eqb-true, eqb-false, le-ltb, lt-ltb, ltb-false}
use Rattle.residue.specs.Lists.{some}
use Rattle.residue.proofs.Tests.{neither}
use Rattle.specification.specs.Refusal.{first_of}
use Rattle.specification.specs.Levels.{is_among}
use Rattle.specification.specs.Counted.{Counted, points_of, counts_of, entered, entered_all, gathered, overfull, count_of, place_in}
use Rattle.specification.proofs.counted.Entered.{entered_there, entered_new, place_within, count_at}
use Rattle.specification.proofs.counted.Room.{all_grow}

abbrev pub capped : ℕ → ℕ
capped k = cond (ltb 255 k) 255 k

-- the counts of a list as bytes, and the flag
abbrev pub saturated : Counted → List ℕ
saturated L = map capped (counts_of L)

abbrev pub beyond : Counted → Bool
beyond L = some (ltb 255) (counts_of L)

-- one count more
module _ (k : ℕ) where
  pub capped_on : eqb (capped k) 255 ≡ false → (capped (suc k) ≡ suc (capped k)) × (ltb 255 (suc k) ≡ false)
  capped_on e = go (dec_lt 255 k)
    where
      go : Dec (255 < k) → (capped (suc k) ≡ suc (capped k)) × (ltb 255 (suc k) ≡ false)
      go (yes h) = absurd (eqb-false (capped k) 255 e (rw (lt-ltb 255 k h) refl))
      go (no h) =
          let low : ltb 255 k ≡ false = le-ltb 255 k (omega (arith, h)) in
          let not_at : k ≡ 255 → ⊥ = rw low at (eqb-false (capped k) 255 e) in
          let next : ltb 255 (suc k) ≡ false = le-ltb 255 (suc k) (omega (arith, h, not_at)) in
          (rw (low, next) refl, next)

  pub capped_full : eqb (capped k) 255 ≡ true → (capped (suc k) ≡ capped k) × (ltb 255 (suc k) ≡ true)
  capped_full e = let next : ltb 255 (suc k) ≡ true = lt-ltb 255 (suc k) (high (dec_lt 255 k)) in (rw next (sym (eqb-true (capped k) 255 e)), next)
    where
      high : Dec (255 < k) → 255 < suc k
      high (yes h) = omega arith
      high (no h) = let low : ltb 255 k ≡ false = le-ltb 255 k (omega (arith, h)) in omega (arith, rw low at (eqb-true (capped k) 255 e))

-- in a list of counts
capped_set : (l : List ℕ) (i v : ℕ) → map capped (set l i v) ≡ set (map capped l) i (capped v)
capped_set [] i v = refl
capped_set (x ∷ l) zero v = refl
capped_set (x ∷ l) (suc i) v = ap (λ (z : List ℕ). capped x ∷ z) (capped_set l i v)

capped_get : (l : List ℕ) (i : ℕ) → i < length l → get_or (map capped l) i 0 ≡ capped (get_or l i 0)
capped_get [] i h = absurd (omega arith)
capped_get (x ∷ l) zero h = refl
capped_get (x ∷ l) (suc i) h = capped_get l i (le_of_suc-le-suc h)

set_same : (l : List ℕ) (i : ℕ) → set l i (get_or l i 0) ≡ l
set_same [] i = refl
set_same (x ∷ l) zero = refl
set_same (x ∷ l) (suc i) = ap (λ (z : List ℕ). x ∷ z) (set_same l i)

-- none above 255: the bytes are the counts
pub none_capped : (l : List ℕ) → some (ltb 255) l ≡ false → map capped l ≡ l
none_capped [] e = refl
none_capped (x ∷ l) e = let n = neither (ltb 255 x) (some (ltb 255) l) e in rw n.0 (ap (λ (z : List ℕ). x ∷ z) (none_capped l n.1))

-- the flag, where one count of a list is raised
beyond_low : (l : List ℕ) (i : ℕ) → i < length l → ltb 255 (suc (get_or l i 0)) ≡ false → some (ltb 255) (set l i (suc (get_or l i 0))) ≡ some (ltb 255) l
beyond_low [] i h e = absurd (omega arith)
beyond_low (x ∷ l) zero h e = let low : ltb 255 x ≡ false = le-ltb 255 x (omega (arith, ltb-false 255 (suc x) e)) in rw (e, low) refl
beyond_low (x ∷ l) (suc i) h e = ap (λ (b : Bool). ltb 255 x || b) (beyond_low l i (le_of_suc-le-suc h) e)

beyond_high : (l : List ℕ) (i v : ℕ) → i < length l → ltb 255 v ≡ true → some (ltb 255) (set l i v) ≡ true
beyond_high [] i v h e = absurd (omega arith)
beyond_high (x ∷ l) zero v h e = rw e refl
beyond_high (x ∷ l) (suc i) v h e = ap (λ (b : Bool). ltb 255 x || b) (beyond_high l i v (le_of_suc-le-suc h) e) ∙ or-true (ltb 255 x)

beyond_last : (l : List ℕ) → some (ltb 255) (l ++ (1 ∷ [])) ≡ some (ltb 255) l
beyond_last [] = refl
beyond_last (x ∷ l) = ap (λ (b : Bool). ltb 255 x || b) (beyond_last l)

-- One point more.
module _ (P : List ℕ) (L : Counted) where
  abbrev i : ℕ
  i = place_in P (points_of L)

  -- the byte of its count
  abbrev byte : ℕ
  byte = get_or (saturated L) i 0

  module _ (e : is_among P (points_of L) ≡ true) where
    within : i < length (counts_of L)
    within = omega (arith, place_within P (points_of L) e, length-map L (λ q. q.0), length-map L (λ q. q.1))

    count : count_of P L ≡ get_or (counts_of L) i 0
    count = count_at P L e

    raised : counts_of (entered P L) ≡ set (counts_of L) i (suc (get_or (counts_of L) i 0))
    raised = (entered_there P L e).1 ∙ ap (λ (k : ℕ). set (counts_of L) i (suc k)) count

    byte_is : byte ≡ capped (get_or (counts_of L) i 0)
    byte_is = capped_get (counts_of L) i within

    after : saturated (entered P L) ≡ set (saturated L) i (capped (suc (get_or (counts_of L) i 0)))
    after = ap (map capped) raised ∙ capped_set (counts_of L) i (suc (get_or (counts_of L) i 0))

    pub there_on : eqb byte 255 ≡ false → (saturated (entered P L) ≡ set (saturated L) i (suc byte)) × (beyond (entered P L) ≡ beyond L)
    there_on f = let c = capped_on (get_or (counts_of L) i 0) (ap (λ (b : ℕ). eqb b 255) (sym byte_is) ∙ f) in
        (after ∙ ap (set (saturated L) i) (c.0 ∙ ap suc (sym byte_is)), ap (some (ltb 255)) raised ∙ beyond_low (counts_of L) i within c.1)

    pub there_full : eqb byte 255 ≡ true → (saturated (entered P L) ≡ saturated L) × (beyond (entered P L) ≡ true)
    there_full f = let c = capped_full (get_or (counts_of L) i 0) (ap (λ (b : ℕ). eqb b 255) (sym byte_is) ∙ f) in
        (after ∙ ap (set (saturated L) i) (c.0 ∙ sym byte_is) ∙ set_same (saturated L) i, ap (some (ltb 255)) raised ∙ beyond_high (counts_of L) i _ within c.1)

  pub new_last : is_among P (points_of L) ≡ false → (saturated (entered P L) ≡ saturated L ++ (1 ∷ [])) × (beyond (entered P L) ≡ beyond L)
  new_last e =
      let is = ap counts_of (entered_new P L e) ∙ map-append (λ q. q.1) L ((P, 1) ∷ []) in
      (ap (map capped) is ∙ map-append capped (counts_of L) (1 ∷ []), ap (some (ltb 255)) is ∙ beyond_last (counts_of L))

-- The number of all points: 8 as soon as a new one meets 64 others, and at the end 13 where the flag is set.
module _ (S : List (List ℕ)) where
  pub all_full : (P : List ℕ) (rest : List (List ℕ)) (L : Counted) → entered_all (P ∷ rest) L ≡ gathered S → is_among P (points_of L) ≡ false → length L ≡ 64
      → 8 ≡ first_of 0 (overfull (gathered S))
  unfolding entered_all overfull first_of
  all_full P rest L e new full =
      let more : length (entered P L) ≡ suc (length L) = ap length (entered_new P L new) ∙ length-append L ((P, 1) ∷ []) ∙ omega arith in
      rw (lt-ltb 64 (length (gathered S)) (omega (arith, all_grow rest (entered P L), ap length e, more, full))) refl

  pub all_entered : (L : Counted) → L ≡ gathered S → length L ≤ 64 → cond {A = ℕ} (beyond L) 13 0 ≡ first_of 0 (overfull (gathered S))
  unfolding overfull first_of
  all_entered L e few = rw (← e) (rw (le-ltb 64 (length L) few) refl)
