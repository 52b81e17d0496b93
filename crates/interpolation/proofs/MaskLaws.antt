-- The mask of a point: the values of all monomials without squares there, one variable after another, as words.
use mathlib.Core.Path.{◌≡◌, refl, sym, ap, ap₂, ◌∙◌}
use mathlib.Core.List.{List, [], ◌∷◌, ◌++◌, map, map-append, append_assoc}
use Prim.Native.Nat.{ℕ, zero, suc, ◌+◌, ◌*◌, ◌/◌, ◌%◌, ◌^◌, ◌<◌, ◌≤◌}
use native.Mathlib.Nat.{pow-zero, pow-suc, mul-one}
use native.Mathlib.Omega.{arith}
use native.Mathlib.Numerals.{add-one}
use lib.ListN.{length, get_or, set, take, drop, length-map, length-append, get_or-append}
use lib.Seq.{take-suc, take_all, take_at, drop_at, get_or-take, get_or-drop, get_or-append-add, length-take-le}
use lib.Pow.{pow_mono, shl_exact}
use lib.Bits.{bit_or, or_shifted_r}
use Rattle.residue.specs.Vector.{Below}
use Rattle.residue.specs.Layout.{groups}
use Rattle.residue.proofs.vector.Vectors.{map_at}
use Rattle.residue.proofs.Places.{length_groups, groups_at}
use Rattle.monomial.specs.Monomial.{monomial_at}
use Rattle.residue.specs.Words.{bit_of, word_of, in_set}
use Rattle.residue.proofs.BitLaws.{shift_one, word_lt, bit_word}
use Rattle.interpolation.specs.Parity.{occurring, byte_of, values_at, mask_of}
use Rattle.interpolation.proofs.WordLaws.{word_append, word_times}
use Rattle.interpolation.proofs.ParityLaws.{byte_lt}

pub values_long : (k : ℕ) (P : List ℕ) → length (values_at k P) ≡ 2 ^ k
unfolding values_at
values_long zero P = refl
values_long (suc k) P =
    length-append (values_at k P) (map (λ v. get_or P k 0 * v) (values_at k P)) ∙ ap (λ (n : ℕ). length (values_at k P) + n) (length-map (values_at k P) (λ v. get_or P k 0 * v))
    ∙ double (values_long k P) ∙ sym (pow-suc 2 k)
  where
    double : {x y : ℕ} → x ≡ y → x + x ≡ y * 2
    double e = omega arith

-- a variable more
byte_snoc : (l : List ℕ) (x : ℕ) → byte_of (l ++ (x ∷ [])) ≡ byte_of l + 2 ^ length l * occurring x
unfolding byte_of word_of
byte_snoc l x =
    ap word_of (map-append occurring l (x ∷ [])) ∙ word_append (map occurring l) (occurring x ∷ [])
    ∙ ap₂ (λ (n d : ℕ). byte_of l + 2 ^ n * d) (length-map l occurring) (digit x)
  where
    digit : (x : ℕ) → 0 * 2 + occurring x % 2 ≡ occurring x
    digit zero = refl
    digit (suc x) = refl

monomial_snoc : (P a : List ℕ) (x y : ℕ) → length P ≡ length a → monomial_at (P ++ (x ∷ [])) (a ++ (y ∷ [])) ≡ monomial_at P a * x ^ y
monomial_snoc [] [] x y e = omega arith
monomial_snoc [] (b ∷ a) x y e = absurd (omega arith)
monomial_snoc (p ∷ P) [] x y e = absurd (omega arith)
monomial_snoc (p ∷ P) (b ∷ a) x y e = ap (λ (n : ℕ). p ^ b * n) (monomial_snoc P a x y (omega arith)) ∙ shape (p ^ b) (monomial_at P a) (x ^ y)
  where
    shape : (u v w : ℕ) → u * (v * w) ≡ u * v * w
    shape u v w = omega arith

bit_power : (x j : ℕ) → x < 2 → x ^ suc j ≡ x
bit_power zero j h = pow-suc 0 j ∙ (omega arith)
bit_power (suc zero) j h = one_power (suc j)
  where
    one_power : (j : ℕ) → 1 ^ j ≡ 1
    one_power zero = refl
    one_power (suc j) = pow-suc 1 j ∙ ap (λ (n : ℕ). n * 1) (one_power j)
bit_power (suc (suc x)) j h = absurd (omega arith)

-- the value of a monomial stands at its byte
module _ (P e : List ℕ) (bits : Below 2 P) where
  pub value_read : (k : ℕ) → k ≤ length P → k ≤ length e → get_or (values_at k P) (byte_of (take k e)) 0 ≡ monomial_at (take k P) (take k e)
  unfolding values_at byte_of word_of
  value_read zero h u = refl
  value_read (suc k) h u =
      ap (λ (l : List ℕ). get_or (values_at (suc k) P) (byte_of l) 0) (take-suc e k 0 u) ∙ ap (λ (n : ℕ). get_or (values_at (suc k) P) n 0) (byte_snoc (take k e) (get_or e k 0))
      ∙ go (get_or e k 0) (value_read k (omega arith) (omega arith))
      ∙ sym (ap₂ monomial_at (take-suc P k 0 h) (take-suc e k 0 u) ∙ monomial_snoc (take k P) (take k e) (get_or P k 0) (get_or e k 0) (front P (omega arith) ∙ sym (front e (omega arith))))
    where
      front : (l : List ℕ) → k ≤ length l → length (take k l) ≡ k
      front l v = length-take-le k l v

      low : byte_of (take k e) < length (values_at k P)
      low = below (byte_small (take k e)) (front e (omega arith)) (values_long k P)
        where
          below : {b x n : ℕ} → b < 2 ^ n → n ≡ k → x ≡ 2 ^ k → b < x
          below h u v = rw (v, ← u) h

          byte_small : (l : List ℕ) → byte_of l < 2 ^ length l
          byte_small l = rw (← length-map l occurring) (word_lt (map occurring l))

      go : (y : ℕ) → get_or (values_at k P) (byte_of (take k e)) 0 ≡ monomial_at (take k P) (take k e)
          → get_or (values_at (suc k) P) (byte_of (take k e) + 2 ^ length (take k e) * occurring y) 0 ≡ monomial_at (take k P) (take k e) * get_or P k 0 ^ y
      go zero ih =
          let i : byte_of (take k e) + 2 ^ length (take k e) * 0 ≡ byte_of (take k e) = omega arith in
          ap (λ (n : ℕ). get_or (values_at (suc k) P) n 0) i ∙ get_or-append (values_at k P) (map (λ v. get_or P k 0 * v) (values_at k P)) 0 (byte_of (take k e)) low ∙ ih
          ∙ sym (ap (λ (n : ℕ). monomial_at (take k P) (take k e) * n) (pow-zero (get_or P k 0)) ∙ mul-one (monomial_at (take k P) (take k e)))
      go (suc j) ih =
          let i : byte_of (take k e) + 2 ^ length (take k e) * 1 ≡ length (values_at k P) + byte_of (take k e) = shifted (byte_of (take k e)) (values_long k P) (front e (omega arith)) in
          ap (λ (n : ℕ). get_or (values_at (suc k) P) n 0) i ∙ get_or-append-add (values_at k P) (map (λ v. get_or P k 0 * v) (values_at k P)) (byte_of (take k e)) 0
          ∙ map_at (λ v. get_or P k 0 * v) (values_at k P) 0 0 (byte_of (take k e)) low ∙ ap₂ (λ (x v : ℕ). x * v) (sym (bit_power (get_or P k 0) j (bits k h))) ih
          ∙ swap (get_or P k 0 ^ suc j) (monomial_at (take k P) (take k e))
        where
          shifted : (b : ℕ) {x n : ℕ} → x ≡ 2 ^ k → n ≡ k → b + 2 ^ n * 1 ≡ x + b
          shifted b u v = rw v (omega arith)

          swap : (x y : ℕ) → x * y ≡ y * x
          swap x y = omega arith

-- the bits of the mask
pub mask_long : (P : List ℕ) → length (mask_of P) ≡ 4
unfolding mask_of
mask_long P = length-map (groups 64 4 (values_at 8 P)) word_of ∙ length_groups 64 4 (values_at 8 P)

mask_bit : (P : List ℕ) (b : ℕ) → b < 256 → in_set b (mask_of P) ≡ get_or (values_at 8 P) b 0 % 2
unfolding in_set mask_of
mask_bit P b h =
    ap (bit_of (b % 64)) (map_at word_of (groups 64 4 (values_at 8 P)) [] 0 (b / 64) (omega (arith, length_groups 64 4 (values_at 8 P))) ∙ ap word_of (groups_at 64 4 (b / 64) (values_at 8 P) [] (omega arith)))
    ∙ bit_word (take 64 (drop (64 * (b / 64)) (values_at 8 P))) (b % 64)
    ∙ ap (λ (n : ℕ). n % 2) (get_or-take 64 (drop (64 * (b / 64)) (values_at 8 P)) (b % 64) 0 (omega arith) ∙ get_or-drop (64 * (b / 64)) (values_at 8 P) (b % 64) 0 ∙ ap (λ (i : ℕ). get_or (values_at 8 P) i 0) whole)
  where
    whole : 64 * (b / 64) + b % 64 ≡ b
    whole = omega arith

pub mask_read : (P e : List ℕ) → length P ≡ 8 → Below 2 P → length e ≡ 8 → in_set (byte_of e) (mask_of P) ≡ monomial_at P e % 2
mask_read P e eight bits long =
    mask_bit P (byte_of e) (byte_lt e (omega arith))
    ∙ ap (λ (n : ℕ). n % 2) (ap (λ (l : List ℕ). get_or (values_at 8 P) (byte_of l) 0) (sym (take_all 8 e (omega arith))) ∙ value_read P e bits 8 (omega arith) (omega arith)
    ∙ ap₂ monomial_at (take_all 8 P (omega arith)) (take_all 8 e (omega arith)))

-- the first word, a variable more
module _ (P : List ℕ) (k : ℕ) where
  word_more : get_or P k 0 < 2 → word_of (values_at (k + 1) P) ≡ word_of (values_at k P) + 2 ^ (2 ^ k) * (get_or P k 0 * word_of (values_at k P))
  unfolding values_at
  word_more h =
      ap (λ (j : ℕ). word_of (values_at j P)) (add-one k) ∙ word_append (values_at k P) (map (λ v. get_or P k 0 * v) (values_at k P))
      ∙ ap₂ (λ (n w : ℕ). word_of (values_at k P) + 2 ^ n * w) (values_long k P) (word_times (get_or P k 0) (values_at k P) h)

  pub low_none : 1 ≡ word_of (values_at 0 P)
  unfolding values_at word_of
  low_none = refl

  pub low_same : get_or P k 0 ≡ 0 → word_of (values_at k P) ≡ word_of (values_at (k + 1) P)
  low_same e = sym (word_more (omega arith) ∙ none e)
    where
      none : {x : ℕ} → x ≡ 0 → word_of (values_at k P) + 2 ^ (2 ^ k) * (x * word_of (values_at k P)) ≡ word_of (values_at k P)
      none e = rw e (omega arith)

  step_lt : k < 6 → 2 ^ k ≤ 32
  step_lt h = pow_mono {j = 5} (omega arith)

  pub shift_lt : k < 6 → (1 * 2 ^ k) % 2 ^ 64 < 64
  shift_lt h = rw (shift_one k (omega arith)) (omega (arith, step_lt h))

  pub low_more : (m : ℕ) → k < 6 → get_or P k 0 ≡ 1 → m ≡ word_of (values_at k P) → bit_or m ((m * 2 ^ ((1 * 2 ^ k) % 2 ^ 64)) % 2 ^ 64) ≡ word_of (values_at (k + 1) P)
  low_more m h e v =
      ap₂ (λ (x j : ℕ). bit_or x ((x * 2 ^ j) % 2 ^ 64)) v (shift_one k (omega arith)) ∙ ap (bit_or w) (shl_exact (2 ^ k) (2 ^ k) 64 small (omega (arith, step_lt h))) ∙ or_shifted_r w (2 ^ k) w small
      ∙ turn w (2 ^ (2 ^ k)) e ∙ sym (word_more (omega arith))
    where
      w : ℕ
      w = word_of (values_at k P)

      small : w < 2 ^ (2 ^ k)
      small = rw (← values_long k P) (word_lt (values_at k P))

      turn : (w p : ℕ) {x : ℕ} → x ≡ 1 → w * p + w ≡ w + p * (x * w)
      turn w p e = rw e (omega arith)

-- the four words
groups_next : (k : ℕ) (a r : List ℕ) → length a ≡ 64 → groups 64 (suc k) (a ++ r) ≡ a ∷ groups 64 k r
unfolding groups
groups_next k a r e = ap₂ (λ (x : List ℕ) (l : List ℕ). x ∷ groups 64 k l) (take_at a r 64 e) (drop_at a r 64 e)

groups_last : (a : List ℕ) → length a ≡ 64 → groups 64 1 a ≡ a ∷ []
unfolding groups
groups_last a e = ap (λ (x : List ℕ). x ∷ []) (take_all 64 a (omega arith))

abbrev times : ℕ → List ℕ → List ℕ
times x l = map (λ v. x * v) l

values_two : (k : ℕ) (P : List ℕ) → values_at (suc (suc k)) P
    ≡ values_at k P ++ (times (get_or P k 0) (values_at k P) ++ (times (get_or P (suc k) 0) (values_at k P) ++ times (get_or P (suc k) 0) (times (get_or P k 0) (values_at k P))))
unfolding values_at
values_two k P =
    append_assoc (values_at k P) (times (get_or P k 0) (values_at k P)) _
    ∙ ap (λ (l : List ℕ). values_at k P ++ (times (get_or P k 0) (values_at k P) ++ l)) (map-append (λ v. get_or P (suc k) 0 * v) (values_at k P) (times (get_or P k 0) (values_at k P)))

four_parts : (front : List ℕ) (x y : ℕ) → length front ≡ 64 → x < 2 → y < 2
    → map word_of (groups 64 4 (front ++ (times x front ++ (times y front ++ times y (times x front))))) ≡ word_of front ∷ x * word_of front ∷ y * word_of front ∷ y * (x * word_of front) ∷ []
four_parts front x y long h u =
    ap (map word_of)
    (groups_next 3 front _ long ∙ ap (λ (l : List (List ℕ)). front ∷ l) (groups_next 2 (times x front) _ (times_long x front long) ∙ ap (λ (l : List (List ℕ)). times x front ∷ l)
    (groups_next 1 (times y front) _ (times_long y front long) ∙ ap (λ (l : List (List ℕ)). times y front ∷ l) (groups_last (times y (times x front)) (times_long y (times x front) (times_long x front long))))))
    ∙ ap₂ (λ (b : ℕ) (r : List ℕ). word_of front ∷ b ∷ r) (word_times x front h)
    (ap₂ (λ (c d : ℕ). c ∷ d ∷ []) (word_times y front u) (word_times y (times x front) u ∙ ap (λ (w : ℕ). y * w) (word_times x front h)))
  where
    times_long : (z : ℕ) (l : List ℕ) → length l ≡ 64 → length (times z l) ≡ 64
    times_long z l e = length-map l (λ v. z * v) ∙ e

four_words : (P : List ℕ) → get_or P 6 0 < 2 → get_or P 7 0 < 2
    → mask_of P ≡ word_of (values_at 6 P) ∷ get_or P 6 0 * word_of (values_at 6 P) ∷ get_or P 7 0 * word_of (values_at 6 P) ∷ get_or P 7 0 * (get_or P 6 0 * word_of (values_at 6 P)) ∷ []
unfolding mask_of
four_words P h u = ap (λ (l : List ℕ). map word_of (groups 64 4 l)) (values_two 6 P) ∙ four_parts (values_at 6 P) (get_or P 6 0) (get_or P 7 0) (values_long 6 P) h u

four_set : (m : List ℕ) (a b c d : ℕ) → length m ≡ 4 → set (set (set (set m 0 a) 1 b) 2 c) 3 d ≡ a ∷ b ∷ c ∷ d ∷ []
four_set [] a b c d e = absurd (omega arith)
four_set (w ∷ []) a b c d e = absurd (omega arith)
four_set (w ∷ x ∷ []) a b c d e = absurd (omega arith)
four_set (w ∷ x ∷ y ∷ []) a b c d e = absurd (omega arith)
four_set (w ∷ x ∷ y ∷ z ∷ []) a b c d e = refl
four_set (w ∷ x ∷ y ∷ z ∷ t ∷ m) a b c d e = absurd (omega arith)

-- as they are written
pub mask_written : (P m : List ℕ) (a b c d : ℕ) → length m ≡ 4 → get_or P 6 0 < 2 → get_or P 7 0 < 2 → a ≡ word_of (values_at 6 P) → b ≡ get_or P 6 0 * a → c ≡ get_or P 7 0 * a → d ≡ get_or P 7 0 * b
    → set (set (set (set m 0 a) 1 b) 2 c) 3 d ≡ mask_of P
mask_written P m a b c d four h u e f g k = four_set m a b c d four ∙ (cc (four_words P h u))
