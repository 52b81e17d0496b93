-- Laws of words of bits: what AND, XOR, shifts and the count of ones do to single bits and to the lists of bits.
use mathlib.Core.Path.{◌≡◌, refl, sym, ap, ap₂, ◌∙◌, subst}
use mathlib.Core.List.{List, [], ◌∷◌, ◌++◌}
use Prim.Native.Nat.{ℕ, zero, suc, ◌+◌, ◌*◌, ◌/◌, ◌%◌, ◌^◌, ◌<◌, min}
use native.Mathlib.Nat.{pow-suc, mod-lt, zero-div, mod-mod, mod-eq_of_lt, div-one, zero-lt-suc, div-add-mod'}
use native.Mathlib.Omega.{arith}
use native.Mathlib.Numerals.{add-one, unary_clauses}
use lib.ListN.{length, get_or}
use lib.Arith.{digits_div, digits_mod, digits_lt}
use lib.Pow.{shl_exact, shr-shr, shr_lt}
use lib.Bits.{bit_and, bit_xor, differ, and_step, xor_step, and_shr, xor_shr}
use lib.Count.{ones, ones_in, ones_step}
use mathlib.Core.Logic.{inl, inr}
use Rattle.residue.specs.Congruence.{Mod}
use Rattle.residue.specs.Lists.{Among, sum_over}
use Rattle.residue.proofs.Congruence.{rfl, of, ◌then◌}
use Rattle.residue.specs.Words.{bit_of, bits_of, word_of, length_bits}

pub shift_one : (i : ℕ) → i < 64 → (1 * 2 ^ i) % 2 ^ 64 ≡ 2 ^ i
shift_one i h = shl_exact 1 i 64 (omega arith) (omega arith) ∙ (omega arith)

small : (n : ℕ) → n % 2 < 2
small n = mod-lt n (zero-lt-suc 1)

-- two words are equal if their lowest bits and their other bits are
pub halves : {a b : ℕ} → a / 2 ≡ b / 2 → a % 2 ≡ b % 2 → a ≡ b
halves {a} {b} e f = sym (div-add-mod' a 2) ∙ ap₂ (λ (x y : ℕ). x * 2 + y) e f ∙ div-add-mod' b 2

-- a digit more
pub word_half : (b : ℕ) (l : List ℕ) → word_of (b ∷ l) / 2 ≡ word_of l
unfolding word_of
word_half b l = digits_div (word_of l) (small b)

pub word_odd : (b : ℕ) (l : List ℕ) → word_of (b ∷ l) % 2 ≡ b % 2
unfolding word_of
word_odd b l = digits_mod (word_of l) (small b)

pub word_lt : (l : List ℕ) → word_of l < 2 ^ length l
unfolding word_of
word_lt [] = omega arith
word_lt (b ∷ l) = rw (pow-suc 2 (length l)) (digits_lt (word_lt l) (small b))

pub half_lt : (k w : ℕ) → w < 2 ^ suc k → w / 2 < 2 ^ k
half_lt k w h = shr_lt k 1 (subst (λ (j : ℕ). w < 2 ^ j) (sym (add-one k)) h)

-- two digits
pub differ_sum : (x y : ℕ) → x < 2 → y < 2 → Mod 2 (differ x y) (x + y)
differ_sum zero y h k = of (omega arith)
differ_sum (suc zero) zero h k = rfl
differ_sum (suc zero) (suc zero) h k = record { same = refl }
differ_sum (suc zero) (suc (suc y)) h k = absurd (omega arith)
differ_sum (suc (suc x)) y h k = absurd (omega arith)

pub min_times : (x y : ℕ) → x < 2 → y < 2 → min x y ≡ x * y
min_times zero zero h k = refl
min_times zero (suc y) h k = simp unary_clauses (omega arith)
min_times (suc zero) zero h k = refl
min_times (suc zero) (suc zero) h k = refl
min_times (suc zero) (suc (suc y)) h k = absurd (omega arith)
min_times (suc (suc x)) y h k = absurd (omega arith)

differ_small : (x y : ℕ) → x < 2 → y < 2 → differ x y < 2
differ_small zero y h k = k
differ_small (suc zero) zero h k = omega arith
differ_small (suc zero) (suc zero) h k = omega arith
differ_small (suc zero) (suc (suc y)) h k = absurd (omega arith)
differ_small (suc (suc x)) y h k = absurd (omega arith)

pub xor_odd : (a b : ℕ) → Mod 2 (bit_xor a b % 2) (a % 2 + b % 2)
xor_odd a b = of (ap (λ (n : ℕ). n % 2) (xor_step a b) ∙ digits_mod (bit_xor (a / 2) (b / 2)) (differ_small (a % 2) (b % 2) (small a) (small b)))
    then differ_sum (a % 2) (b % 2) (small a) (small b)

pub and_odd : (a b : ℕ) → bit_and a b % 2 ≡ (a % 2) * (b % 2)
and_odd a b = ap (λ (n : ℕ). n % 2) (and_step a b ∙ ap (λ (n : ℕ). bit_and (a / 2) (b / 2) * 2 + n) (min_times (a % 2) (b % 2) (small a) (small b)))
    ∙ digits_mod (bit_and (a / 2) (b / 2)) (both (a % 2) (b % 2) (small a) (small b))
  where
    both : (x y : ℕ) → x < 2 → y < 2 → x * y < 2
    both zero y h k = omega arith
    both (suc zero) y h k = omega arith
    both (suc (suc x)) y h k = absurd (omega arith)

pub xor_half : (a b : ℕ) → bit_xor a b / 2 ≡ bit_xor (a / 2) (b / 2)
xor_half a b = xor_shr a b 1

pub and_half : (a b : ℕ) → bit_and a b / 2 ≡ bit_and (a / 2) (b / 2)
and_half a b = and_shr a b 1

-- single bits
pub bit_small : (i w : ℕ) → bit_of i w < 2
unfolding bit_of
bit_small i w = small (w / 2 ^ i)

pub bit_xor_lem : (i a b : ℕ) → Mod 2 (bit_of i (bit_xor a b)) (bit_of i a + bit_of i b)
unfolding bit_of
bit_xor_lem i a b = of (ap (λ (n : ℕ). n % 2) (xor_shr a b i)) then xor_odd (a / 2 ^ i) (b / 2 ^ i)

pub bit_and_lem : (i a b : ℕ) → bit_of i (bit_and a b) ≡ bit_of i a * bit_of i b
unfolding bit_of
bit_and_lem i a b = ap (λ (n : ℕ). n % 2) (and_shr a b i) ∙ and_odd (a / 2 ^ i) (b / 2 ^ i)

pub bit_first : (w : ℕ) → bit_of zero w ≡ w % 2
unfolding bit_of
bit_first w = ap (λ (n : ℕ). n % 2) (div-one w)

one_more : (i : ℕ) → suc i ≡ 1 + i
one_more i = omega arith

pub bit_next : (i w : ℕ) → bit_of (suc i) w ≡ bit_of i (w / 2)
unfolding bit_of
bit_next i w = ap (λ (j : ℕ). w / 2 ^ j % 2) (one_more i) ∙ ap (λ (n : ℕ). n % 2) (sym (shr-shr w 1 i))

pub bit_zero : (i : ℕ) → bit_of i 0 ≡ 0
unfolding bit_of
bit_zero i = ap (λ (n : ℕ). n % 2) (zero-div (2 ^ i))

-- the bits of a word of a list
pub bit_word : (l : List ℕ) (i : ℕ) → bit_of i (word_of l) ≡ get_or l i 0 % 2
unfolding word_of
bit_word [] i = bit_zero i
bit_word (b ∷ l) zero = bit_first (word_of (b ∷ l)) ∙ word_odd b l
bit_word (b ∷ l) (suc i) = bit_next i (word_of (b ∷ l)) ∙ ap (bit_of i) (word_half b l) ∙ bit_word l i

-- the lists of bits
pub bits_length : (k w : ℕ) → length (bits_of k w) ≡ k
bits_length k w = length_bits k w

pub word_bits : (k w : ℕ) → w < 2 ^ k → word_of (bits_of k w) ≡ w
unfolding bits_of word_of
word_bits zero w h = omega arith
word_bits (suc k) w h = ap₂ (λ (x y : ℕ). x * 2 + y) (word_bits k (w / 2) (half_lt k w h)) (mod-mod w 2) ∙ div-add-mod' w 2

pub bits_word : (l : List ℕ) → ((b : ℕ) → Among b l → b < 2) → bits_of (length l) (word_of l) ≡ l
unfolding bits_of
bits_word [] h = refl
bits_word (b ∷ l) h =
    ap₂ (λ (x : ℕ) (r : List ℕ). x ∷ r) (word_odd b l ∙ mod-eq_of_lt (h b (inl refl)))
    (ap (bits_of (length l)) (word_half b l) ∙ bits_word l (λ c mem. h c (inr mem)))

pub bits_among : (k w b : ℕ) → Among b (bits_of k w) → b < 2
unfolding bits_of
bits_among (suc k) w b (inl e) = rw e (small w)
bits_among (suc k) w b (inr mem) = bits_among k (w / 2) b mem
bits_among zero w b x' = elim x' [ ]

-- a word of k bits has the bit 0 behind them
pub bits_longer : (k w : ℕ) → w < 2 ^ k → bits_of (suc k) w ≡ bits_of k w ++ (0 ∷ [])
unfolding bits_of
bits_longer zero w h = let e : w ≡ 0 = omega arith in rw e
bits_longer (suc k) w h = ap (λ (r : List ℕ). w % 2 ∷ r) (bits_longer k (w / 2) (half_lt k w h))

-- a word that is 0 at all its bits
pub word_zero : (l : List ℕ) → word_of l ≡ 0 → (b : ℕ) → Among b l → b % 2 ≡ 0
word_zero (c ∷ l) e b (inl z) = rw z (sym (word_odd c l) ∙ ap (λ (n : ℕ). n % 2) e)
word_zero (c ∷ l) e b (inr mem) = word_zero l (sym (word_half c l) ∙ ap (λ (n : ℕ). n / 2) e) b mem
word_zero [] e b x'' = elim x'' [ ]

pub zero_word : (l : List ℕ) → ((b : ℕ) → Among b l → b % 2 ≡ 0) → word_of l ≡ 0
unfolding word_of
zero_word [] h = refl
zero_word (b ∷ l) h = rw (zero_word l (λ c mem. h c (inr mem)), h b (inl refl))

-- the count of ones is the sum of the bits
pub ones_bits : (k w : ℕ) → w < 2 ^ k → ones w ≡ sum_over (λ b. b) (bits_of k w)
unfolding bits_of ones ones_in
ones_bits zero w h = let e : w ≡ 0 = omega arith in rw e
ones_bits (suc k) w h = ones_step w ∙ ap (λ (n : ℕ). w % 2 + n) (ones_bits k (w / 2) (half_lt k w h))
