-- The multiples of a row: what a block holds, and what the rows that a factor's digits name come to.
use mathlib.Core.Path.{◌≡◌, refl, sym, ap, ap₂, ◌∙◌}
use mathlib.Core.Bool.{cond}
use mathlib.Core.List.{List, [], ◌∷◌, ◌++◌, zip_with}
use Prim.Native.Nat.{ℕ, zero, suc, ◌+◌, ◌*◌, ◌-◌, ◌/◌, ◌%◌, ◌<◌, ◌≤◌}
use native.Mathlib.Nat.{not-suc-le-zero, le_of_suc-le-suc, mod-eq_of_lt}
use native.Mathlib.Omega.{arith}
use lib.ListN.{length, get_or, take, drop, replicate, length-append}
use lib.Seq.{take_at, drop_at, drop-drop, take-take, get_or-take, get_or-drop, ext_get_or}
use lib.Dec.{T, eqb}
use borrow.Author.Tests.{ne_eqb, eqb-true}
use Rattle.residue.specs.Vector.{Below, add_scaled, scaled}
use Rattle.residue.specs.Layout.{with_place}
use Rattle.elimination.specs.Elimination.{multiples_by, multiples_of, factors, ZeroFrom}
use Rattle.residue.proofs.Congruence.{rfl, of, reduce, ◌then◌, ◌plus◌}
use Rattle.residue.proofs.vector.Vectors.{scaled_length, scaled_at, scaled_one, add_scaled_at}
use Rattle.residue.proofs.Replaced.{place_there, place_apart}
use Rattle.residue.proofs.Tests.{true_of}
use Rattle.residue.proofs.level.Moduli.{below_at, below as all-below}

module _ (p : ℕ) (row : List ℕ) (long : length row ≡ 128) where
  pub multiples_length : (cs : List ℕ) → length (multiples_by p row cs) ≡ 128 * length cs
  unfolding multiples_by
  multiples_length [] = omega arith
  multiples_length (c ∷ cs) = length-append (scaled p c row) (multiples_by p row cs) ∙ omega (arith, scaled_length p c row, multiples_length cs)

  -- one of them
  part_of : (cs : List ℕ) (k : ℕ) → k < length cs → take 128 (drop (128 * k) (multiples_by p row cs)) ≡ scaled p (get_or cs k 0) row
  unfolding multiples_by
  part_of [] k h = absurd (not-suc-le-zero h)
  part_of (c ∷ cs) zero h = take_at (scaled p c row) (multiples_by p row cs) 128 (scaled_length p c row ∙ long)
  part_of (c ∷ cs) (suc k) h =
      let e : 128 * suc k ≡ 128 + 128 * k = omega arith in
      ap (λ (n : ℕ). take 128 (drop n (scaled p c row ++ multiples_by p row cs))) e
      ∙ ap (take 128) (sym (drop-drop (128 * k) 128 (scaled p c row ++ multiples_by p row cs)))
      ∙ ap (λ (l : List ℕ). take 128 (drop (128 * k) l)) (drop_at (scaled p c row) (multiples_by p row cs) 128 (scaled_length p c row ∙ long))
      ∙ part_of cs k (le_of_suc-le-suc h)

  pub block_length : length (multiples_of p row) ≡ 1152
  unfolding multiples_of factors
  block_length = multiples_length factors

  pub multiple_of : (k : ℕ) → k < 9 → take 128 (drop (128 * k) (multiples_of p row)) ≡ scaled p (get_or factors k 0) row
  unfolding multiples_of factors
  multiple_of k h = part_of factors k h

-- What the multiples are, from computed tests: of the first four the number of each, of each three the digits' multiples, and of each but the first the one
-- before it and the first of the three that this is one of.
tested : (f g : ℕ → ℕ) (n : ℕ) → T (all-below (λ k. eqb (f k) (g k)) n) → (k : ℕ) → k < n → f k ≡ g k
tested f g n t k h = eqb-true (f k) (g k) (true_of (eqb (f k) (g k)) (below_at (λ k. eqb (f k) (g k)) n t k h))

pub first_four : (k : ℕ) → k < 4 → get_or factors k 0 ≡ suc k
unfolding factors
first_four = tested (λ k. get_or factors k 0) suc 4 tt

abbrev pub Digits : ℕ → ℕ → Type 0
Digits first unit = (d : ℕ) → d < 3 → get_or factors (first + d) 0 ≡ suc d * unit

pub ones : Digits 0 1
unfolding factors
ones = tested (λ d. get_or factors (0 + d) 0) (λ d. suc d * 1) 3 tt

pub fours : Digits 3 4
unfolding factors
fours = tested (λ d. get_or factors (3 + d) 0) (λ d. suc d * 4) 3 tt

pub sixteens : Digits 6 16
unfolding factors
sixteens = tested (λ d. get_or factors (6 + d) 0) (λ d. suc d * 16) 3 tt

pub next_factor : (k : ℕ) → k < 8 → get_or factors (k + 1) 0 ≡ get_or factors k 0 + get_or factors (k - k % 3) 0
unfolding factors
next_factor = tested (λ k. get_or factors (k + 1) 0) (λ k. get_or factors k 0 + get_or factors (k - k % 3) 0) 8 tt

zero_scaled : (p : ℕ) (row : List ℕ) → 0 < p → scaled p 0 row ≡ replicate (length row) 0
unfolding scaled
zero_scaled p [] z = refl
zero_scaled p (x ∷ row) z = let e : 0 * x ≡ 0 = omega arith in ap₂ (λ (y : ℕ) (l : List ℕ). y ∷ l) (ap (λ (y : ℕ). y % p) e ∙ mod-eq_of_lt z) (zero_scaled p row z)

-- The rows that a factor names, in the block of a row.
module _ (p : ℕ) (row : List ℕ) (long : length row ≡ 128) (z : 0 < p) (block zeros : List ℕ) (holds : block ≡ multiples_of p row) (none : zeros ≡ replicate 128 0) where
  pub small_row : (k : ℕ) → k < 4 → take 128 (drop (128 * k) block) ≡ scaled p (suc k) row
  small_row k h =
      ap (λ (l : List ℕ). take 128 (drop (128 * k) l)) holds ∙ multiple_of p row long k (omega arith) ∙ ap (λ (c : ℕ). scaled p c row) (first_four k h)

  pub digit_row : (digit first unit : ℕ) → digit ≤ 3 → first ≤ 6 → Digits first unit
      → cond (eqb digit 0) zeros (take 128 (drop (128 * (first + digit - 1)) block)) ≡ scaled p (digit * unit) row
  digit_row zero first unit h f rule =
      let e : 0 * unit ≡ 0 = omega arith in
      none ∙ ap (λ (n : ℕ). replicate n 0) (sym long) ∙ sym (zero_scaled p row z) ∙ ap (λ (c : ℕ). scaled p c row) (sym e)
  digit_row (suc d) first unit h f rule =
      let e : first + suc d - 1 ≡ first + d = omega arith in
      simp (ne_eqb (suc d) 0 (λ y. omega arith))
      (ap₂ (λ (k : ℕ) (l : List ℕ). take 128 (drop (128 * k) l)) e holds ∙ multiple_of p row long (first + d) (omega arith) ∙ ap (λ (c : ℕ). scaled p c row) (rule d (omega arith)))

-- Rows added.
module _ (p : ℕ) (a b : List ℕ) (same : length a ≡ length b) where
  pub added_at : (i : ℕ) → i < length a → get_or (add_scaled p 1 a b) i 0 ≡ (get_or a i 0 + get_or b i 0) % p
  added_at i h = let e : get_or a i 0 + 1 * get_or b i 0 ≡ get_or a i 0 + get_or b i 0 = omega arith in add_scaled_at p 1 a b same i h ∙ ap (λ (x : ℕ). x % p) e

  pub added_none : Below p a → (i : ℕ) → i < length a → get_or b i 0 ≡ 0 → get_or (add_scaled p 1 a b) i 0 ≡ get_or a i 0
  added_none w i h e =
      let f : get_or a i 0 + get_or b i 0 ≡ get_or a i 0 = omega arith in
      added_at i h ∙ ap (λ (x : ℕ). x % p) f ∙ mod-eq_of_lt (w i h)

-- a multiple is 0 where the row is
pub scaled_zero : (p c width : ℕ) (row : List ℕ) → 0 < p → length row ≡ 128 → ZeroFrom width row → ZeroFrom width (scaled p c row)
scaled_zero p c width row z long h i w l =
    let e : c * get_or row i 0 ≡ 0 = rw (h i w l) (omega arith) in
    scaled_at p c row i (rw long l) ∙ ap (λ (x : ℕ). x % p) e ∙ mod-eq_of_lt z

-- multiples added one after the other are the multiple by the sum
pub added_scaled : (p c : ℕ) (w row : List ℕ) → add_scaled p 1 w (scaled p c row) ≡ add_scaled p c w row
unfolding add_scaled scaled zip_with
added_scaled p c [] row = refl
added_scaled p c (x ∷ w) [] = refl
added_scaled p c (x ∷ w) (y ∷ row) =
    let e : 1 * ((c * y) % p) ≡ (c * y) % p = omega arith in
    ap₂ (λ (z : ℕ) (l : List ℕ). z ∷ l) (rfl {x = x} plus (of e then reduce p (c * y))).same (added_scaled p c w row)

pub added_more : (p c d : ℕ) (w row : List ℕ) → add_scaled p 1 (add_scaled p c w row) (scaled p d row) ≡ add_scaled p (c + d) w row
unfolding add_scaled scaled zip_with
added_more p c d [] row = refl
added_more p c d (x ∷ w) [] = refl
added_more p c d (x ∷ w) (y ∷ row) =
    let e : 1 * ((d * y) % p) ≡ (d * y) % p = omega arith in
    ap₂ (λ (z : ℕ) (l : List ℕ). z ∷ l) (reduce p (x + c * y) plus (of e then reduce p (d * y)) then of (shape x y)).same (added_more p c d w row)
  where
    shape : (u v : ℕ) → u + c * v + d * v ≡ u + (c + d) * v
    shape u v = omega arith

pub scaled_sum : (p c d : ℕ) (row : List ℕ) → add_scaled p 1 (scaled p c row) (scaled p d row) ≡ scaled p (c + d) row
unfolding add_scaled scaled zip_with
scaled_sum p c d [] = refl
scaled_sum p c d (x ∷ row) =
    let e : 1 * ((d * x) % p) ≡ (d * x) % p = omega arith in
    ap₂ (λ (z : ℕ) (l : List ℕ). z ∷ l) (reduce p (c * x) plus (of e then reduce p (d * x)) then of (shape x)).same (scaled_sum p c d row)
  where
    shape : (v : ℕ) → c * v + d * v ≡ (c + d) * v
    shape v = omega arith

-- a block of which each multiple is known
pub block_is : (p : ℕ) (row block : List ℕ) → length row ≡ 128 → length block ≡ 1152
    → ((k i : ℕ) → k < 9 → i < 128 → get_or block (128 * k + i) 0 ≡ get_or (scaled p (get_or factors k 0) row) i 0) → block ≡ multiples_of p row
block_is p row block long size h =
    ext_get_or 0 block (multiples_of p row) (size ∙ sym (block_length p row long)) (λ i l.
    let e : 128 * (i / 128) + i % 128 ≡ i = omega arith in
    ap (λ (j : ℕ). get_or block j 0) (sym e) ∙ h (i / 128) (i % 128) (omega arith) (omega arith)
    ∙ ap (λ (l : List ℕ). get_or l (i % 128) 0) (sym (multiple_of p row long (i / 128) (omega arith)))
    ∙ get_or-take 128 (drop (128 * (i / 128)) (multiples_of p row)) (i % 128) 0 (omega arith) ∙ get_or-drop (128 * (i / 128)) (multiples_of p row) (i % 128) 0
    ∙ ap (λ (j : ℕ). get_or (multiples_of p row) j 0) e)

-- A block in a table: its front is the row itself, and the blocks before it are as they were.
module _ (p : ℕ) (row : List ℕ) (long : length row ≡ 128) where
  module _ (below : Below p row) where
    pub row_front : take 128 (multiples_of p row) ≡ row
    unfolding factors
    row_front = multiple_of p row long 0 (omega arith) ∙ scaled_one p row below

    pub block_front : (i : ℕ) → i < 128 → get_or (multiples_of p row) i 0 ≡ get_or row i 0
    block_front i h = sym (get_or-take 128 (multiples_of p row) i 0 h) ∙ ap (λ (l : List ℕ). get_or l i 0) row_front

    module _ (t : ℕ) (rows : List ℕ) (fits : 1152 * t + 1152 ≤ length rows) where
      there : take 1152 (drop (1152 * t) (with_place 1152 t (multiples_of p row) rows)) ≡ multiples_of p row
      there = place_there 1152 t (multiples_of p row) rows fits (block_length p row long)

      pub block_row : take 128 (drop (1152 * t) (with_place 1152 t (multiples_of p row) rows)) ≡ row
      block_row = sym (take-take 128 1152 (drop (1152 * t) (with_place 1152 t (multiples_of p row) rows)) (omega arith)) ∙ ap (take 128) there ∙ row_front

      pub block_put : take 1152 (drop (1152 * t) (with_place 1152 t (multiples_of p row) rows))
          ≡ multiples_of p (take 128 (drop (1152 * t) (with_place 1152 t (multiples_of p row) rows)))
      block_put = there ∙ sym (ap (multiples_of p) block_row)

pub block_kept : (p found : ℕ) (block rows : List ℕ) → 1152 * found + 1152 ≤ length rows → length block ≡ 1152 → (t : ℕ) → t < found
    → take 1152 (drop (1152 * t) rows) ≡ multiples_of p (take 128 (drop (1152 * t) rows))
    → take 1152 (drop (1152 * t) (with_place 1152 found block rows)) ≡ multiples_of p (take 128 (drop (1152 * t) (with_place 1152 found block rows)))
block_kept p found block rows fits long t h e =
    place_apart 1152 found block rows fits long (1152 * t) 1152 (omega arith) ∙ e
    ∙ ap (multiples_of p) (sym (place_apart 1152 found block rows fits long (1152 * t) 128 (omega arith)))
