-- One pivot more in the word of the places and in the table place → pivot.
use mathlib.Core.Path.{◌≡◌, refl, sym, ap, ◌∙◌}
use mathlib.Core.List.{List}
use mathlib.Core.Logic.{◌≢◌}
use Prim.Native.Nat.{ℕ, zero, suc, ◌/◌, ◌%◌, ◌^◌, ◌<◌, max}
use native.Mathlib.Nat.{mod-lt, zero-lt-suc, pow-suc, mul-div_cancel, mul-mod_left}
use native.Mathlib.Omega.{arith}
use native.Mathlib.Decide.{ℕ_discrete}
use lib.ListN.{length, get_or, set}
use lib.Seq.{get_or-set_same, get_or-set_other}
use lib.Arith.{digits_mod}
use lib.Bits.{bit_or, or_step, or_shr}
use Rattle.residue.specs.Words.{bit_of}
use Rattle.words.specs.Packed.{pivot_words, PlacesApart, rest_of}
use Rattle.words.specs.PivotTables.{pivots_in, RowsKnown, Orthogonal}
use Rattle.residue.proofs.BitLaws.{bit_small, bit_first, bit_next, bit_zero}
use Rattle.words.proofs.LeftLaws.{pivot_in}
use Rattle.words.proofs.Orthogonal.{rest_zero}

-- the bits of OR, and of a power of 2
max_small : (x y : ℕ) → x < 2 → y < 2 → max x y < 2
max_small zero zero h k = omega arith
max_small zero (suc zero) h k = omega arith
max_small (suc zero) zero h k = omega arith
max_small (suc zero) (suc zero) h k = omega arith
max_small (suc (suc x)) y h k = absurd (omega arith)
max_small zero (suc (suc y)) h k = absurd (omega arith)
max_small (suc zero) (suc (suc y)) h k = absurd (omega arith)

pub bit_or_lem : (i a b : ℕ) → bit_of i (bit_or a b) ≡ max (bit_of i a) (bit_of i b)
unfolding bit_of
bit_or_lem i a b = ap (λ (n : ℕ). n % 2) (or_shr a b i ∙ or_step (a / 2 ^ i) (b / 2 ^ i))
    ∙ digits_mod (bit_or (a / 2 ^ i / 2) (b / 2 ^ i / 2)) (max_small (a / 2 ^ i % 2) (b / 2 ^ i % 2) (mod-lt (a / 2 ^ i) (zero-lt-suc 1)) (mod-lt (b / 2 ^ i) (zero-lt-suc 1)))

even : (i : ℕ) → 2 ^ suc i % 2 ≡ 0
even i = ap (λ (n : ℕ). n % 2) (pow-suc 2 i) ∙ mul-mod_left (2 ^ i) 2

half : (i : ℕ) → 2 ^ suc i / 2 ≡ 2 ^ i
half i = ap (λ (n : ℕ). n / 2) (pow-suc 2 i) ∙ mul-div_cancel (2 ^ i) (zero-lt-suc 1)

pub bit_single : (i : ℕ) → bit_of i (2 ^ i) ≡ 1
bit_single zero = bit_first 1
bit_single (suc i) = bit_next i (2 ^ suc i) ∙ ap (bit_of i) (half i) ∙ bit_single i

pub bit_other : (n i : ℕ) → n ≢ i → bit_of n (2 ^ i) ≡ 0
bit_other zero zero h = absurd (h refl)
bit_other zero (suc i) h = bit_first (2 ^ suc i) ∙ even i
bit_other (suc n) zero h = bit_next n 1 ∙ bit_zero n
bit_other (suc n) (suc i) h = bit_next n (2 ^ suc i) ∙ ap (bit_of n) (half i) ∙ bit_other n i (λ e. h (ap suc e))

max_one : (x : ℕ) → x < 2 → max x 1 ≡ 1
max_one zero h = refl
max_one (suc zero) h = refl
max_one (suc (suc x)) h = absurd (omega arith)

max_zero : (x : ℕ) → x < 2 → max x 0 ≡ x
max_zero zero h = refl
max_zero (suc zero) h = refl
max_zero (suc (suc x)) h = absurd (omega arith)

module _ (k pivots : ℕ) (rows places columns polynomials : List ℕ) (R : RowsKnown k pivots rows places columns polynomials) where
  -- where what is left of a column is not 0, no pivot has its place
  pub new_place : Orthogonal (pivots_in k places columns polynomials) → (own i : ℕ) → bit_of i (rest_of own (pivots_in k places columns polynomials)).column ≡ 1 → bit_of i pivots ≢ 1
  new_place O own i set e =
      let t = R.known i e in
      let z = rest_zero own (pivots_in k places columns polynomials) O (pivot_words (get_or places (get_or rows i 0) 0) (get_or columns (get_or rows i 0) 0) (get_or polynomials (get_or rows i 0) 0))
      (pivot_in k (get_or rows i 0) places columns polynomials t.0) in
      clash z.same (ap (λ (j : ℕ). bit_of j (rest_of own (pivots_in k places columns polynomials)).column) t.1 ∙ set)
    where
      clash : {x : ℕ} → x % 2 ≡ 0 → x ≡ 1 → ⊥
      clash h e = let z : ◌≡◌ {A = ℕ} 0 1 = sym h ∙ ap (λ (n : ℕ). n % 2) e in omega arith

  pub rows_known_more : (i : ℕ) → bit_of i pivots ≢ 1 → i < length rows → k < length places → (columns' polynomials' : List ℕ) → PlacesApart (pivots_in (suc k) (set places k i) columns' polynomials')
      → RowsKnown (suc k) (bit_or pivots (2 ^ i)) (set rows i k) (set places k i) columns' polynomials'
  rows_known_more i new hr hp columns' polynomials' apart = record {
    marked = λ j h. marked j h (ℕ_discrete j k);
    known = λ n e. known n e (ℕ_discrete n i);
    apart = apart;
  }
    where
      here : bit_of i (bit_or pivots (2 ^ i)) ≡ 1
      here = bit_or_lem i pivots (2 ^ i) ∙ ap (max (bit_of i pivots)) (bit_single i) ∙ max_one (bit_of i pivots) (bit_small i pivots)

      there : (n : ℕ) → n ≢ i → bit_of n (bit_or pivots (2 ^ i)) ≡ bit_of n pivots
      there n h = bit_or_lem n pivots (2 ^ i) ∙ ap (max (bit_of n pivots)) (bit_other n i h) ∙ max_zero (bit_of n pivots) (bit_small n pivots)

      marked : (j : ℕ) → j < suc k → Dec (j ≡ k) → bit_of (get_or (set places k i) j 0) (bit_or pivots (2 ^ i)) ≡ 1
      marked j h (yes e) = ap (λ (n : ℕ). bit_of n (bit_or pivots (2 ^ i))) (ap (λ (m : ℕ). get_or (set places k i) m 0) e ∙ get_or-set_same places k i 0 hp) ∙ here
      marked j h (no n) = let m = R.marked j (omega arith) in
          ap (λ (z : ℕ). bit_of z (bit_or pivots (2 ^ i))) (get_or-set_other places k j i 0 n)
          ∙ there (get_or places j 0) (λ e. new (ap (λ (z : ℕ). bit_of z pivots) (sym e) ∙ m)) ∙ m

      known : (n : ℕ) → bit_of n (bit_or pivots (2 ^ i)) ≡ 1 → Dec (n ≡ i) → (get_or (set rows i k) n 0 < suc k) × (get_or (set places k i) (get_or (set rows i k) n 0) 0 ≡ n)
      known n e (yes z) =
          let r : get_or (set rows i k) n 0 ≡ k = ap (λ (m : ℕ). get_or (set rows i k) m 0) z ∙ get_or-set_same rows i k 0 hr in
          (omega arith, ap (λ (m : ℕ). get_or (set places k i) m 0) r ∙ get_or-set_same places k i 0 hp ∙ sym z)
      known n e (no z) =
          let t = R.known n (sym (there n z) ∙ e) in
          let r : get_or (set rows i k) n 0 ≡ get_or rows n 0 = get_or-set_other rows i n k 0 z in
          (omega (arith, t.0), ap (λ (m : ℕ). get_or (set places k i) m 0) r ∙ get_or-set_other places k (get_or rows n 0) i 0 (λ q. omega (arith, t.0)) ∙ t.1)
