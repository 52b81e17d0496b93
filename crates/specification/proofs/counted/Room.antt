-- Refusals 8 and 13 of a call by what it meets: a point that is there or a new one, entered into a list that has room; all points of a list, one after the
-- other (request M-106).
use mathlib.Core.Path.{◌≡◌, refl, sym, ◌∙◌, ap}
use mathlib.Core.Bool.{Bool, true, false, not, cond, or-false}
use mathlib.Core.List.{List, [], ◌∷◌, ◌++◌, map-append}
use Prim.Native.Nat.{ℕ, zero, suc, ◌<◌, ◌≤◌}
use native.Mathlib.Nat.{le_of_suc-le-suc}
use native.Mathlib.Decide.{ℕ_discrete}
use native.Mathlib.Omega.{arith}
use lib.ListN.{length, set, length-map, length-append}
use lib.Dec.{T, eqb, leb, ltb}
use borrow.Author.Tests.{eq-eqb, ne_eqb, le-leb, le-ltb, lt-ltb, leb-true}
use Rattle.residue.specs.Lists.{every, some, same_list}
use Rattle.residue.proofs.Tests.{true_of, and_left, and_right, neither}
use Rattle.specification.specs.declared.settings.Settings.{Settings}
use Rattle.specification.specs.Refusal.{first_of}
use Rattle.specification.specs.Levels.{is_among}
use Rattle.specification.specs.Counted.{Counted, points_of, counts_of, is_count, entered, entered_all, overfull, count_of, place_in}
use Rattle.specification.proofs.counted.Entered.{entered_there, entered_new, place_within}
use Rattle.specification.proofs.counted.Gathered.{Entries, count_few}

-- no count is above 255
low : (k : ℕ) → T (is_count k) → ltb 255 k ≡ false
unfolding is_count
low k t = le-ltb 255 k (leb-true k 255 (true_of _ (and_right (leb 1 k) (leb k 255) t)))

none_above : (l : List ℕ) → T (every is_count l) → some (ltb 255) l ≡ false
none_above [] h = refl
none_above (k ∷ l) h = rw (low k (and_left (is_count k) (every is_count l) h)) (none_above l (and_right (is_count k) (every is_count l) h))

none_last : (l : List ℕ) → some (ltb 255) l ≡ false → some (ltb 255) (l ++ (1 ∷ [])) ≡ false
none_last [] e = refl
none_last (x ∷ l) e = let n = neither (ltb 255 x) (some (ltb 255) l) e in rw n.0 (none_last l n.1)

-- but for one that was set
above_set : (l : List ℕ) (i k : ℕ) → T (every is_count l) → i < length l → some (ltb 255) (set l i k) ≡ ltb 255 k
above_set [] i k h e = absurd (omega arith)
above_set (x ∷ l) zero k h e = rw (none_above l (and_right (is_count x) (every is_count l) h)) (or-false (ltb 255 k))
above_set (x ∷ l) (suc i) k h e =
    rw (low x (and_left (is_count x) (every is_count l) h)) (above_set l i k (and_right (is_count x) (every is_count l) h) (le_of_suc-le-suc e))

module _ (s : Settings) (P : List ℕ) (L : Counted) (h : Entries s L) where
  few : length L ≤ 64
  few = omega (arith, length-map L (λ q. q.0), h.points.few)

  -- A point that is there: 13 where its count is 255.
  pub room_there : is_among P (points_of L) ≡ true → first_of 0 (overfull (entered P L)) ≡ cond {A = ℕ} (eqb (count_of P L) 255) 13 0
  unfolding overfull first_of
  room_there e = rw (le-ltb 64 (length (entered P L)) (omega (arith, long, few)), above) (told (ℕ_discrete (count_of P L) 255))
    where
      is : (points_of (entered P L) ≡ points_of L) × (counts_of (entered P L) ≡ set (counts_of L) (place_in P (points_of L)) (suc (count_of P L)))
      is = entered_there P L e

      long : length (entered P L) ≡ length L
      long = sym (length-map (entered P L) (λ q. q.0)) ∙ ap length is.0 ∙ length-map L (λ q. q.0)

      above : some (ltb 255) (counts_of (entered P L)) ≡ ltb 255 (suc (count_of P L))
      above =
          ap (some (ltb 255)) is.1
          ∙ above_set (counts_of L) (place_in P (points_of L)) (suc (count_of P L)) h.counts
          (omega (arith, place_within P (points_of L) e, length-map L (λ q. q.0), length-map L (λ q. q.1)))

      told : Dec (count_of P L ≡ 255) → cond {A = ℕ} (ltb 255 (suc (count_of P L))) 13 0 ≡ cond (eqb (count_of P L) 255) 13 0
      told (yes z) = rw (eq-eqb (count_of P L) 255 z, lt-ltb 255 (suc (count_of P L)) (omega (arith, z))) refl
      told (no z) = rw (ne_eqb (count_of P L) 255 z, le-ltb 255 (suc (count_of P L)) (omega (arith, z, count_few P L h.counts))) refl

  -- A new point: 8 where there are 64 others.
  pub room_new : is_among P (points_of L) ≡ false → first_of 0 (overfull (entered P L)) ≡ cond {A = ℕ} (eqb (length L) 64) 8 0
  unfolding overfull first_of
  room_new e = rw (entered_new P L e) (rw above (told (ℕ_discrete (length L) 64)))
    where
      long : length (L ++ ((P, 1) ∷ [])) ≡ suc (length L)
      long = length-append L ((P, 1) ∷ []) ∙ omega arith

      above : some (ltb 255) (counts_of (L ++ ((P, 1) ∷ []))) ≡ false
      above = ap (some (ltb 255)) (map-append (λ q. q.1) L ((P, 1) ∷ [])) ∙ none_last (counts_of L) (none_above (counts_of L) h.counts)

      told : Dec (length L ≡ 64) → cond {A = ℕ} (ltb 64 (length (L ++ ((P, 1) ∷ [])))) 8 0 ≡ cond (eqb (length L) 64) 8 0
      told (yes z) = rw (eq-eqb (length L) 64 z, lt-ltb 64 (length (L ++ ((P, 1) ∷ []))) (omega (arith, z, long))) refl
      told (no z) = rw (ne_eqb (length L) 64 z, le-ltb 64 (length (L ++ ((P, 1) ∷ []))) (omega (arith, z, long, few))) refl

-- of bytes, 0 alone is no count
pub byte_count : (k : ℕ) → k < 256 → is_count k ≡ not (eqb k 0)
unfolding is_count
byte_count zero h = refl
byte_count (suc k) h = rw (le-leb 1 (suc k) (omega arith), le-leb (suc k) 255 (omega arith), ne_eqb (suc k) 0 (λ z. omega arith)) refl

-- All points of a list: none is lost on the way, so that the 65th decides.
entered_grows : (P : List ℕ) (L : Counted) → length L ≤ length (entered P L)
unfolding entered
entered_grows P [] = omega arith
entered_grows P (q ∷ L) = go (same_list P q.0) (entered_grows P L)
  where
    go : (b : Bool) → length L ≤ length (entered P L) → suc (length L) ≤ length (cond b ((q.0, suc q.1) ∷ L) (q ∷ entered P L))
    go true f = omega arith
    go false f = omega arith

pub all_grow : (S : List (List ℕ)) (L : Counted) → length L ≤ length (entered_all S L)
unfolding entered_all
all_grow [] L = omega arith
all_grow (P ∷ S) L = omega (arith, all_grow S (entered P L), entered_grows P L)
