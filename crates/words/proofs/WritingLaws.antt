-- Bits as bytes: what is written of a monomial and of a row.
use mathlib.Core.Path.{◌≡◌, refl, sym, ap, ap₂, ◌∙◌, subst}
use mathlib.Core.List.{List, [], ◌∷◌, ◌++◌, append_assoc, append-nil}
use Prim.Native.Nat.{ℕ, zero, suc, ◌+◌, ◌*◌, ◌-◌, ◌/◌, ◌%◌, ◌^◌, ◌<◌, ◌≤◌}
use native.Mathlib.Nat.{pow-succ', div-one, mul-one, zero-add, suc-add, div-div-eq-div-mul}
use native.Mathlib.Omega.{arith}
use lib.ListN.{length, set, take, drop, length-append, length-drop}
use lib.Seq.{take_at, drop_at, drop-drop, drop-length}
use lib.Dec.{eqb, eqb→eq}
use lib.Bits.{bit_and, and_le_r}
use Rattle.residue.specs.Lists.{same_list}
use Rattle.residue.proofs.bytes.Equality.{same_is}
use Rattle.residue.proofs.level.Moduli.{below_at}
use Rattle.monomial.specs.Monomial.{one, times_variable}
use Rattle.residue.specs.Words.{bit_of, bits_of, bytes_of}
use Rattle.residue.proofs.BitLaws.{bit_first, bit_next, bit_and_lem, bits_length}

-- the bits of a byte in eight bytes of a word, as the code makes them
abbrev pub spread_of : ℕ → ℕ
spread_of b = bit_and ((bit_and (b * 72340172838076673) 9241421688590303745 + 9187201950435737471) / 2 ^ 7) 72340172838076673

-- one test over all bytes
pub spread_bits : (b : ℕ) → b < 256 → bytes_of 8 (spread_of b) ≡ bits_of 8 b
unfolding bytes_of bits_of same_list
spread_bits b h = same_is _ _ (below_at (λ b. same_list (bytes_of 8 (spread_of b)) (bits_of 8 b)) 256 tt b h)

pub spread_fits : (b : ℕ) → bit_and (b * 72340172838076673) 9241421688590303745 + 9187201950435737471 < 2 ^ 64
spread_fits b = omega (arith, and_le_r (b * 72340172838076673) 9241421688590303745)

-- and over all variables
pub square_bytes : (k : ℕ) → k < 8 → bytes_of 8 ((2 * 2 ^ (8 * k)) % 2 ^ 64) ≡ times_variable k (times_variable k (one 8))
unfolding bytes_of same_list
square_bytes k h = same_is _ _ (below_at (λ k. same_list (bytes_of 8 ((2 * 2 ^ (8 * k)) % 2 ^ 64)) (times_variable k (times_variable k (one 8)))) 8 tt k h)

-- eight bytes written one after the other
pub eight_set : (l : List ℕ) (a b c d e f g h : ℕ) → length l ≡ 8 → set (set (set (set (set (set (set (set l 0 a) 1 b) 2 c) 3 d) 4 e) 5 f) 6 g) 7 h ≡ a ∷ b ∷ c ∷ d ∷ e ∷ f ∷ g ∷ h ∷ []
eight_set [] a b c d e f g h z = absurd (omega arith)
eight_set (s ∷ []) a b c d e f g h z = absurd (omega arith)
eight_set (s ∷ t ∷ []) a b c d e f g h z = absurd (omega arith)
eight_set (s ∷ t ∷ u ∷ []) a b c d e f g h z = absurd (omega arith)
eight_set (s ∷ t ∷ u ∷ v ∷ []) a b c d e f g h z = absurd (omega arith)
eight_set (s ∷ t ∷ u ∷ v ∷ w ∷ []) a b c d e f g h z = absurd (omega arith)
eight_set (s ∷ t ∷ u ∷ v ∷ w ∷ x ∷ []) a b c d e f g h z = absurd (omega arith)
eight_set (s ∷ t ∷ u ∷ v ∷ w ∷ x ∷ y ∷ []) a b c d e f g h z = absurd (omega arith)
eight_set (s ∷ t ∷ u ∷ v ∷ w ∷ x ∷ y ∷ o ∷ []) a b c d e f g h z = refl
eight_set (s ∷ t ∷ u ∷ v ∷ w ∷ x ∷ y ∷ o ∷ p ∷ l) a b c d e f g h z = absurd (omega arith)

-- the bits of a word, some and then some more
pub bits_append : (j k w : ℕ) → bits_of (j + k) w ≡ bits_of j w ++ bits_of k (w / 2 ^ j)
unfolding bits_of
bits_append zero k w = ap₂ bits_of (zero-add k) (sym (div-one w))
bits_append (suc j) k w = ap (λ (n : ℕ). bits_of n w) (suc-add j k) ∙ ap (λ (l : List ℕ). w % 2 ∷ l) (bits_append j k (w / 2) ∙ ap (λ (x : ℕ). bits_of j (w / 2) ++ bits_of k x) (halved w j))
  where
    halved : (w j : ℕ) → w / 2 / 2 ^ j ≡ w / 2 ^ suc j
    halved w j = div-div-eq-div-mul w 2 (2 ^ j) ∙ ap (λ (x : ℕ). w / x) (sym (pow-succ' 2 j))

-- words with the same bits; only the lowest eight count
bits_same : (k a b : ℕ) → ((i : ℕ) → i < k → bit_of i a ≡ bit_of i b) → bits_of k a ≡ bits_of k b
unfolding bits_of
bits_same zero a b h = refl
bits_same (suc k) a b h = ap₂ (λ (x : ℕ) (l : List ℕ). x ∷ l) (sym (bit_first a) ∙ h 0 (omega arith) ∙ bit_first b)
    (bits_same k (a / 2) (b / 2) (λ i u. sym (bit_next i a) ∙ h (suc i) (omega arith) ∙ bit_next i b))

low_bits : (i : ℕ) → i < 8 → bit_of i 255 ≡ 1
unfolding bit_of
low_bits i h = eqb→eq (255 / 2 ^ i % 2) 1 (below_at (λ i. eqb (255 / 2 ^ i % 2) 1) 8 tt i h)

pub bits_low : (w : ℕ) → bits_of 8 (bit_and w 255) ≡ bits_of 8 w
bits_low w = bits_same 8 (bit_and w 255) w (λ i h. bit_and_lem i w 255 ∙ ap (λ (x : ℕ). bit_of i w * x) (low_bits i h) ∙ mul-one (bit_of i w))

-- Eight more of a row: the first 8k bits have been written.
abbrev pub written : ℕ → ℕ → List ℕ → List ℕ
written k word to = bits_of (8 * k) word ++ drop (8 * k) to

pub written_none : (word : ℕ) (to : List ℕ) → to ≡ written 0 word to
unfolding bits_of
written_none word to = refl

pub written_long : (k word : ℕ) (to : List ℕ) → k ≤ 8 → length to ≡ 64 → length (written k word to) ≡ 64
written_long k word to h l = length-append (bits_of (8 * k) word) (drop (8 * k) to) ∙ added (bits_length (8 * k) word) (length-drop (8 * k) to ∙ ap (λ (n : ℕ). n - 8 * k) l)
  where
    added : {x y : ℕ} → x ≡ 8 * k → y ≡ 64 - 8 * k → x + y ≡ 64
    added e f = omega arith

pub written_more : (k j word : ℕ) (to now part : List ℕ) → now ≡ written k word to → j ≡ 8 → part ≡ bits_of 8 (word / 2 ^ (8 * k))
    → take (8 * k) now ++ (part ++ drop j (drop (8 * k) now)) ≡ written (k + 1) word to
written_more k j word to now part e f p =
    ap₂ (λ (a b : List ℕ). a ++ (part ++ b)) (ap (take (8 * k)) e ∙ take_at (bits_of (8 * k) word) (drop (8 * k) to) (8 * k) (bits_length (8 * k) word))
    (ap₂ (λ (i : ℕ) (l : List ℕ). drop i (drop (8 * k) l)) f e ∙ ap (drop 8) (drop_at (bits_of (8 * k) word) (drop (8 * k) to) (8 * k) (bits_length (8 * k) word)) ∙ drop-drop 8 (8 * k) to)
    ∙ sym (append_assoc (bits_of (8 * k) word) part (drop (8 * k + 8) to))
    ∙ ap₂ (λ (a b : List ℕ). a ++ b) (ap (λ (l : List ℕ). bits_of (8 * k) word ++ l) p ∙ sym (bits_append (8 * k) 8 word) ∙ ap (λ (n : ℕ). bits_of n word) next) (ap (λ (n : ℕ). drop n to) next)
  where
    next : 8 * k + 8 ≡ 8 * (k + 1)
    next = omega arith

pub written_all : (k word : ℕ) (to : List ℕ) → k ≡ 8 → length to ≡ 64 → written k word to ≡ bits_of 64 word
written_all k word to e l = ap (λ (j : ℕ). written j word to) e ∙ ap (λ (r : List ℕ). bits_of 64 word ++ r) (subst (λ (n : ℕ). drop n to ≡ []) l (drop-length to)) ∙ append-nil (bits_of 64 word)
