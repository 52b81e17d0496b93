-- The set of a polynomial, gathered term by term, and the parity of what a mask leaves of it.
use mathlib.Core.Path.{◌≡◌, refl, sym, ap, ap₂, ◌∙◌}
use mathlib.Core.List.{List, [], ◌∷◌, map}
use Prim.Native.Nat.{ℕ, zero, suc, ◌+◌, ◌-◌, ◌*◌, ◌/◌, ◌%◌, ◌^◌, ◌<◌, ◌≤◌}
use native.Mathlib.Nat.{lt_of_lt_of_le}
use native.Mathlib.Omega.{arith}
use Rattle.std.proofs.Common.{zero-add}
use lib.ListN.{length, get_or, set, take, drop, replicate, drop_of_length-le, length-drop, length-map, length-set}
use lib.Seq.{drop-cons, take_all}
use lib.Pow.{pow_mono, shl_exact}
use lib.Bits.{bit_and, bit_xor, and_zero_l}
use lib.Count.{ones}
use Rattle.std.specs.List.{fold, zip}
use Rattle.residue.specs.Congruence.{Mod}
use Rattle.residue.specs.Vector.{dot_of}
use Rattle.residue.specs.Layout.{groups}
use Rattle.residue.proofs.Congruence.{rfl, of, ◌then◌, ◌plus◌}
use Rattle.residue.proofs.vector.Vectors.{map_at, dot_more}
use Rattle.residue.proofs.Places.{length_groups, groups_at}
use Rattle.residue.specs.Words.{bit_of, word_of, in_set}
use Rattle.residue.proofs.BitLaws.{word_lt}
use Rattle.interpolation.specs.Parity.{occurring, byte_of, toggled, ones_left, SetOf}
use Rattle.interpolation.proofs.WordLaws.{ones_zero, ones_xor, ones_toggled}

-- the byte of a monomial, from the last variable to the first
pub byte_lt : (e : List ℕ) → length e ≤ 8 → byte_of e < 256
unfolding byte_of
byte_lt e h = lt_of_lt_of_le (word_lt (map occurring e)) (pow_mono {j = 8} (omega (arith, length-map e occurring)))

-- 1 for an exponent of 1 or more
pub occurring_le : (e : ℕ) → occurring e ≤ 1
occurring_le zero = omega arith
occurring_le (suc e) = omega arith

-- the byte of the last k variables
module _ (a : List ℕ) (eight : length a ≡ 8) where
  pub byte_none : 0 ≡ byte_of (drop 8 a)
  unfolding byte_of word_of
  byte_none = sym (ap byte_of (drop_of_length-le a {i = 8} (omega arith)))

  pub byte_bound : (k byte : ℕ) → byte ≡ byte_of (drop (8 - k) a) → byte < 256
  byte_bound k byte e = rw e (byte_lt (drop (8 - k) a) (omega (arith, length-drop (8 - k) a)))

  pub byte_all : (k byte : ℕ) → 8 ≤ k → byte ≡ byte_of (drop (8 - k) a) → byte ≡ byte_of a
  byte_all k byte h e = let z : 8 - k ≡ 0 = omega arith in e ∙ ap (λ (i : ℕ). byte_of (drop i a)) z

pub byte_more : (a : List ℕ) (k : ℕ) → length a ≡ 8 → k < 8 → byte_of (drop (8 - k) a) * 2 + occurring (get_or a (7 - k) 0) ≡ byte_of (drop (8 - (k + 1)) a)
unfolding byte_of word_of
byte_more a k e h =
    let i : 8 - (k + 1) ≡ 7 - k = omega arith in
    let j : 8 - k ≡ suc (7 - k) = omega arith in
    sym (ap (λ (n : ℕ). byte_of (drop n a)) i ∙ ap byte_of (drop-cons a (7 - k) 0 (omega arith)) ∙ ap₂ (λ (n d : ℕ). byte_of (drop n a) * 2 + d) (sym j) (digit (get_or a (7 - k) 0)))
  where
    digit : (x : ℕ) → occurring x % 2 ≡ occurring x
    digit zero = refl
    digit (suc x) = refl

-- a byte counted once more, or not
left_toggled : (c i w : ℕ) (s mask : List ℕ) → c < 2 → w < length s → w < length mask
    → Mod 2 (ones_left (set s w (bit_xor (get_or s w 0) (c * 2 ^ i))) mask) (ones_left s mask + c * bit_of i (get_or mask w 0))
unfolding ones_left
left_toggled c i w [] mask h u v = absurd (omega arith)
left_toggled c i w (a ∷ s) [] h u v = absurd (omega arith)
left_toggled c i zero (a ∷ s) (m ∷ mask) h u v = ones_toggled c i a m h plus rfl {x = ones_left s mask} then of (shape (ones (bit_and a m)) (c * bit_of i m) (ones_left s mask))
  where
    shape : (x y z : ℕ) → x + y + z ≡ x + z + y
    shape x y z = omega arith
left_toggled c i (suc w) (a ∷ s) (m ∷ mask) h u v =
    rfl {x = ones (bit_and a m)} plus left_toggled c i w s mask h (omega arith) (omega arith)
    then of (shape (ones (bit_and a m)) (ones_left s mask) (c * bit_of i (get_or mask w 0)))
  where
    shape : (x y z : ℕ) → x + (y + z) ≡ x + y + z
    shape x y z = omega arith

pub toggled_is : (c byte : ℕ) (s : List ℕ) → c < 2 → set s (byte / 64) (bit_xor (get_or s (byte / 64) 0) ((c * 2 ^ (byte % 64)) % 2 ^ 64)) ≡ toggled c byte s
unfolding toggled
toggled_is c byte s h = ap (λ (b : ℕ). set s (byte / 64) (bit_xor (get_or s (byte / 64) 0) b)) (shl_exact 1 (byte % 64) 64 h (omega arith))

pub byte_toggled : (c byte : ℕ) (s mask : List ℕ) → c < 2 → byte < 256 → length s ≡ 4 → length mask ≡ 4
    → Mod 2 (ones_left (toggled c byte s) mask) (ones_left s mask + c * in_set byte mask)
unfolding toggled in_set
byte_toggled c byte s mask h u e f = left_toggled c (byte % 64) (byte / 64) s mask h (omega arith) (omega arith)

left_none : (k : ℕ) (mask : List ℕ) → ones_left (replicate k 0) mask ≡ 0
unfolding ones_left
left_none zero mask = refl
left_none (suc k) [] = refl
left_none (suc k) (m ∷ mask) = ap₂ (λ (x y : ℕ). x + y) (ap ones (and_zero_l m) ∙ ones_zero) (left_none k mask)

-- the set of the first i terms
module _ (cs exponents : List ℕ) where
  abbrev in_mask : List ℕ → List ℕ
  in_mask mask = map (λ e. in_set (byte_of e) mask) (groups 8 (length cs) exponents)

  abbrev pub TermsIn : ℕ → List ℕ → Type 0
  TermsIn i s = (length s ≡ 4) × ((mask : List ℕ) → length mask ≡ 4 → Mod 2 (ones_left s mask) (dot_of (take i cs) (take i (in_mask mask))))

  pub terms_none : (s : List ℕ) → s ≡ replicate 4 0 → TermsIn 0 s
  unfolding dot_of
  terms_none s e = (ap length e, λ mask h. of (ap (λ (l : List ℕ). ones_left l mask) e ∙ left_none 4 mask))

  long : (mask : List ℕ) → length (in_mask mask) ≡ length cs
  long mask = length-map (groups 8 (length cs) exponents) _ ∙ length_groups 8 (length cs) exponents

  pub terms_more : (i k byte : ℕ) (s s' : List ℕ) → i < length cs → get_or cs i 0 < 2 → k ≡ 8 → 8 * length cs ≤ length exponents → byte ≡ byte_of (take k (drop (8 * i) exponents)) → byte < 256
      → s' ≡ toggled (get_or cs i 0) byte s → TermsIn i s → TermsIn (i + 1) s'
  unfolding toggled
  terms_more i k byte s s' h c e room b u t (four, left) = (
    ap length t ∙ length-set s (byte / 64) _ ∙ four,
    λ mask m. of (ap (λ (l : List ℕ). ones_left l mask) t) then byte_toggled (get_or cs i 0) byte s mask c u four m then left mask m plus of (ap (λ (v : ℕ). get_or cs i 0 * v) (sym (read mask)))
        then of (sym (dot_more cs (in_mask mask) i h (omega (arith, long mask)))),
  )
    where
      read : (mask : List ℕ) → get_or (in_mask mask) i 0 ≡ in_set byte mask
      read mask =
          map_at (λ e. in_set (byte_of e) mask) (groups 8 (length cs) exponents) [] 0 i (omega (arith, length_groups 8 (length cs) exponents))
          ∙ ap (λ (l : List ℕ). in_set (byte_of l) mask) (groups_at 8 (length cs) i exponents [] h ∙ ap (λ (n : ℕ). take n (drop (8 * i) exponents)) (sym e)) ∙ ap (λ (n : ℕ). in_set n mask) (sym b)

  pub terms_all : (i : ℕ) (s : List ℕ) → i ≡ length cs → TermsIn i s → SetOf cs exponents s
  terms_all i s e (four, left) = record {
    long = four;
    parity = λ mask m. left mask m then of (ap₂ dot_of (take_all i cs (omega arith)) (take_all i (in_mask mask) (omega (arith, long mask))));
  }

-- the parity of what a mask leaves, word by word
abbrev pub left_in : ℕ → ℕ × ℕ → ℕ
left_in left p = bit_xor left (bit_and p.0 p.1)

parity_of : (s mask : List ℕ) (left : ℕ) → Mod 2 (ones (fold left_in left (zip s mask))) (ones left + ones_left s mask)
unfolding ones_left
parity_of [] mask left = of (omega arith)
parity_of (w ∷ s) [] left = of (omega arith)
parity_of (w ∷ s) (v ∷ mask) left =
    parity_of s mask (bit_xor left (bit_and w v)) then ones_xor left (bit_and w v) plus rfl {x = ones_left s mask} then of (shape (ones left) (ones (bit_and w v)) (ones_left s mask))
  where
    shape : (x y z : ℕ) → x + y + z ≡ x + (y + z)
    shape x y z = omega arith

pub folded_parity : (s mask : List ℕ) (left : ℕ) → left ≡ fold left_in 0 (zip s mask) → ones left % 2 ≡ ones_left s mask % 2
folded_parity s mask left e = ap (λ (n : ℕ). ones n % 2) e ∙ (parity_of s mask 0 then of (ap (λ (n : ℕ). n + ones_left s mask) ones_zero ∙ zero-add (ones_left s mask))).same
