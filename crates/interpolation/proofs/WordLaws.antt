-- Words of lists one behind the other, and the parity of the ones of an XOR.
use mathlib.Core.Path.{◌≡◌, refl, sym, ap, ap₂, ◌∙◌}
use mathlib.Core.List.{List, [], ◌∷◌, ◌++◌, map}
use Prim.Native.Nat.{ℕ, zero, suc, ◌+◌, ◌*◌, ◌/◌, ◌%◌, ◌^◌, ◌<◌}
use native.Mathlib.Nat.{mod-lt, zero-lt-suc, pow-suc, mul-div_cancel, mul-mod_left}
use native.Mathlib.Omega.{arith}
use lib.Arith.{bin_ind}
use lib.ListN.{length}
use lib.Bits.{bit_and, bit_xor, and_zero_l, xor_zero_l}
use lib.Count.{ones, ones_in, ones_step}
use Rattle.residue.specs.Congruence.{Mod}
use Rattle.residue.proofs.Congruence.{rfl, of, flip, small, ◌then◌, ◌plus◌, ◌times◌}
use Rattle.residue.specs.Words.{bit_of, word_of}
use Rattle.residue.proofs.BitLaws.{halves, xor_odd, xor_half, and_odd, and_half, bit_first, bit_next}

-- words of lists
pub word_append : (l h : List ℕ) → word_of (l ++ h) ≡ word_of l + 2 ^ length l * word_of h
unfolding word_of
word_append [] h = omega arith
word_append (b ∷ l) h =
    ap (λ (n : ℕ). n * 2 + b % 2) (word_append l h) ∙ shape (word_of l) (2 ^ length l) (word_of h) (b % 2)
    ∙ ap (λ (n : ℕ). word_of l * 2 + b % 2 + n * word_of h) (sym (pow-suc 2 (length l)))
  where
    shape : (a p w d : ℕ) → (a + p * w) * 2 + d ≡ a * 2 + d + p * 2 * w
    shape a p w d = omega arith

pub word_times : (x : ℕ) (l : List ℕ) → x < 2 → word_of (map (λ v. x * v) l) ≡ x * word_of l
unfolding word_of
word_times x [] h = omega arith
word_times x (b ∷ l) h = ap₂ (λ (n d : ℕ). n * 2 + d) (word_times x l h) (digit x h) ∙ shape x (word_of l) (b % 2)
  where
    digit : (x : ℕ) → x < 2 → (x * b) % 2 ≡ x * (b % 2)
    digit zero h = omega arith
    digit (suc zero) h = omega arith
    digit (suc (suc x)) h = absurd (omega arith)

    shape : (x w d : ℕ) → x * w * 2 + x * d ≡ x * (w * 2 + d)
    shape x w d = omega arith

-- the ones of words
pub ones_zero : ones 0 ≡ 0
unfolding ones ones_in
ones_zero = refl

pub ones_xor : (a b : ℕ) → Mod 2 (ones (bit_xor a b)) (ones a + ones b)
ones_xor = bin_ind (λ (n : ℕ). (b : ℕ) → Mod 2 (ones (bit_xor n b)) (ones n + ones b)) (λ b. of (ap ones (xor_zero_l b) ∙ none (ones b) ones_zero)) step
  where
    none : (x : ℕ) {z : ℕ} → z ≡ 0 → x ≡ z + x
    none x e = omega arith

    shape : (a b x y : ℕ) → a + b + (x + y) ≡ a + x + (b + y)
    shape a b x y = omega arith

    step : (n : ℕ) → ((b : ℕ) → Mod 2 (ones (bit_xor (n / 2) b)) (ones (n / 2) + ones b)) → (b : ℕ) → Mod 2 (ones (bit_xor n b)) (ones n + ones b)
    step n ih b =
        of (ones_step (bit_xor n b)) then xor_odd n b plus (of (ap ones (xor_half n b)) then ih (b / 2)) then of (shape (n % 2) (b % 2) (ones (n / 2)) (ones (b / 2)))
        then of (sym (ap₂ (λ (x y : ℕ). x + y) (ones_step n) (ones_step b)))

and_xor : (a b m : ℕ) → bit_and (bit_xor a b) m ≡ bit_xor (bit_and a m) (bit_and b m)
and_xor = bin_ind (λ (n : ℕ). (b m : ℕ) → bit_and (bit_xor n b) m ≡ bit_xor (bit_and n m) (bit_and b m))
    (λ b m. ap (λ (z : ℕ). bit_and z m) (xor_zero_l b) ∙ sym (ap (λ (z : ℕ). bit_xor z (bit_and b m)) (and_zero_l m) ∙ xor_zero_l (bit_and b m))) step
  where
    low : (n : ℕ) → n % 2 < 2
    low n = mod-lt n (zero-lt-suc 1)

    shape : (x y z : ℕ) → (x + y) * z ≡ x * z + y * z
    shape x y z = omega arith

    step : (n : ℕ) → ((b m : ℕ) → bit_and (bit_xor (n / 2) b) m ≡ bit_xor (bit_and (n / 2) m) (bit_and b m)) → (b m : ℕ) → bit_and (bit_xor n b) m ≡ bit_xor (bit_and n m) (bit_and b m)
    step n ih b m = halves
        (and_half (bit_xor n b) m ∙ ap (λ (z : ℕ). bit_and z (m / 2)) (xor_half n b) ∙ ih (b / 2) (m / 2)
        ∙ sym (xor_half (bit_and n m) (bit_and b m) ∙ ap₂ bit_xor (and_half n m) (and_half b m)))
        (small (low (bit_and (bit_xor n b) m)) (low (bit_xor (bit_and n m) (bit_and b m)))
        (of (and_odd (bit_xor n b) m) then xor_odd n b times rfl {x = m % 2} then of (shape (n % 2) (b % 2) (m % 2))
        then flip (xor_odd (bit_and n m) (bit_and b m) then of (ap₂ (λ (x y : ℕ). x + y) (and_odd n m) (and_odd b m)))))

ones_single : (i m : ℕ) → ones (bit_and (2 ^ i) m) ≡ bit_of i m
ones_single zero m =
    ones_step (bit_and 1 m) ∙ ap₂ (λ (x y : ℕ). x + ones y) (and_odd 1 m) (and_half 1 m ∙ and_zero_l (m / 2)) ∙ end (m % 2) ones_zero ∙ sym (bit_first m)
  where
    end : (d : ℕ) {z : ℕ} → z ≡ 0 → 1 * d + z ≡ d
    end d e = omega arith
ones_single (suc i) m =
    ones_step (bit_and (2 ^ suc i) m)
    ∙ ap₂ (λ (x y : ℕ). x + ones y) (and_odd (2 ^ suc i) m ∙ ap (λ (n : ℕ). n * (m % 2)) (ap (λ (n : ℕ). n % 2) (pow-suc 2 i) ∙ mul-mod_left (2 ^ i) 2))
    (and_half (2 ^ suc i) m ∙ ap (λ (n : ℕ). bit_and n (m / 2)) (ap (λ (n : ℕ). n / 2) (pow-suc 2 i) ∙ mul-div_cancel (2 ^ i) (zero-lt-suc 1)))
    ∙ end (m % 2) (ones (bit_and (2 ^ i) (m / 2))) ∙ ones_single i (m / 2) ∙ sym (bit_next i m)
  where
    end : (d x : ℕ) → 0 * d + x ≡ x
    end d x = omega arith

-- c times bit i added modulo 2 to a word: the mask's bit i times c more ones are left
pub ones_toggled : (c i a m : ℕ) → c < 2 → Mod 2 (ones (bit_and (bit_xor a (c * 2 ^ i)) m)) (ones (bit_and a m) + c * bit_of i m)
ones_toggled c i a m h =
    of (ap ones (and_xor a (c * 2 ^ i) m)) then ones_xor (bit_and a m) (bit_and (c * 2 ^ i) m) then rfl {x = ones (bit_and a m)} plus of (counted c h)
  where
    counted : (c : ℕ) → c < 2 → ones (bit_and (c * 2 ^ i) m) ≡ c * bit_of i m
    counted zero h =
        let e : 0 * 2 ^ i ≡ 0 = omega arith in
        let z : 0 ≡ 0 * bit_of i m = omega arith in
        ap (λ (n : ℕ). ones (bit_and n m)) e ∙ ap ones (and_zero_l m) ∙ ones_zero ∙ z
    counted (suc zero) h =
        let e : 1 * 2 ^ i ≡ 2 ^ i = omega arith in
        let z : bit_of i m ≡ 1 * bit_of i m = omega arith in
        ap (λ (n : ℕ). ones (bit_and n m)) e ∙ ones_single i m ∙ z
    counted (suc (suc c)) h = absurd (omega arith)
