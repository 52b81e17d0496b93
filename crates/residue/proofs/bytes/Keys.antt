-- The key of a point, which has its bytes as digits: keys are equal exactly where the bytes are.
use mathlib.Core.Path.{◌≡◌, refl, sym, ap, ◌∙◌}
use mathlib.Core.Bool.{Bool, true, false, ◌&&◌}
use mathlib.Core.List.{List}
use Prim.Native.Nat.{ℕ, zero, suc, ◌+◌, ◌*◌, ◌-◌, ◌%◌, ◌^◌, ◌<◌, ◌≤◌}
use native.Mathlib.Nat.{add-zero, add-suc, mul-le-mul_right, mod-eq_of_lt}
use native.Mathlib.Omega.{arith}
use native.Mathlib.Numerals.{add-one}
use lib.ListN.{length, get_or, set, take, drop}
use lib.Seq.{get_or-drop, get_or-set_same, get_or-set_other, take_all}
use lib.Pow.{pow_pos, pow-add, pow_mono}
use lib.Dec.{eqb}
use borrow.Author.Tests.{eq-eqb, ne_eqb, eqb-true, eqb-false}
use Rattle.residue.specs.Vector.{Below}
use Rattle.residue.specs.Lists.{same_list, key_of}
use Rattle.residue.proofs.bytes.Equality.{same_none, same_more}

-- one digit more
pub digit_more : (i : ℕ) {x b : ℕ} → x < 2 ^ (8 * i) → b < 256 → 256 * x + b < 2 ^ (8 * (i + 1))
digit_more i h k = let e : 8 * (i + 1) ≡ 8 * i + 8 = omega arith in rw (e, pow-add 2 (8 * i) 8) (omega arith)

pub key_none : (l : List ℕ) → 0 ≡ key_of 0 l
unfolding key_of
key_none l = refl

pub key_more : (l : List ℕ) (i : ℕ) {x b : ℕ} → x ≡ key_of i l → b ≡ get_or l i 0 → 256 * x + b ≡ key_of (i + 1) l
unfolding key_of
key_more l i e f = rw (add-one i, e, f)

-- a digit written behind the first k, which leaves their number
key_behind : (k : ℕ) (l : List ℕ) (i b : ℕ) → k ≤ i → key_of k (set l i b) ≡ key_of k l
unfolding key_of
key_behind zero l i b h = refl
key_behind (suc k) l i b h = rw (key_behind k l i b (omega arith), get_or-set_other l i k b 0 (λ z. omega arith))

pub key_put : (l : List ℕ) (i b : ℕ) {x : ℕ} → i < length l → x ≡ key_of i l → 256 * x + b ≡ key_of (i + 1) (set l i b)
key_put l i b h e = key_more (set l i b) i (e ∙ sym (key_behind i l i b (omega arith))) (sym (get_or-set_same l i b 0 h))

-- a number of i digits is one of n digits
pub digits_fit : (n : ℕ) {i x : ℕ} → i ≤ n → x < 2 ^ (8 * i) → x < 2 ^ (8 * n)
digits_fit n {i} h k = let p : 2 ^ (8 * i) ≤ 2 ^ (8 * n) = pow_mono {i = 8 * i} {j = 8 * n} (omega arith) in omega arith

-- digits of 0 behind the first m, and a number moved up to make room for as many as 8 digits want
pub key_padded : (m d : ℕ) (l : List ℕ) → ((k : ℕ) → m ≤ k → k < m + d → get_or l k 0 ≡ 0) → key_of (m + d) l ≡ key_of m l * 2 ^ (8 * d)
unfolding key_of
key_padded m zero l z = ap (λ (k : ℕ). key_of k l) (add-zero m) ∙ omega arith
key_padded m (suc d) l z =
    let e : 8 * suc d ≡ 8 * d + 8 = omega arith in
    rw (add-suc m d, z (m + d) (omega arith) (omega arith), key_padded m d l (λ k h j. z k h (omega arith)), e, pow-add 2 (8 * d) 8) (omega arith)

pub key_moved : (m : ℕ) {x : ℕ} → m ≤ 8 → x < 2 ^ (8 * m) → (x * 2 ^ (64 - 8 * m)) % 18446744073709551616 ≡ x * 2 ^ (8 * (8 - m))
key_moved m {x} h s =
    let e : 64 - 8 * m ≡ 8 * (8 - m) = omega arith in
    let room : 8 * m + 8 * (8 - m) ≡ 64 = omega arith in
    let most : 2 ^ (8 * m) * 2 ^ (8 * (8 - m)) ≡ 18446744073709551616 = sym (pow-add 2 (8 * m) (8 * (8 - m))) ∙ ap (λ (k : ℕ). 2 ^ k) room in
    rw e (mod-eq_of_lt (omega (arith, mul-le-mul_right (2 ^ (8 * (8 - m))) s, most, pow_pos (8 * (8 - m)))))

pub key_halves : (l : List ℕ) → 4294967296 * key_of 4 l + key_of 4 (drop 4 l) ≡ key_of 8 l
unfolding key_of
key_halves l = rw (get_or-drop 4 l 0 0, get_or-drop 4 l 1 0, get_or-drop 4 l 2 0, get_or-drop 4 l 3 0) (omega arith)

-- a last digit is one to the base 256
digit_same : (x y u v : ℕ) → u < 256 → v < 256 → eqb (256 * x + u) (256 * y + v) ≡ (eqb x y && eqb u v)
digit_same x y u v h k = go (eqb x y) refl (eqb u v) refl
  where
    go : (b : Bool) → eqb x y ≡ b → (d : Bool) → eqb u v ≡ d → eqb (256 * x + u) (256 * y + v) ≡ (b && d)
    go true p true q = let e = eqb-true x y p in let f = eqb-true u v q in eq-eqb (256 * x + u) (256 * y + v) (omega arith)
    go true p false q = ne_eqb (256 * x + u) (256 * y + v) (λ z. eqb-false u v q (omega (arith, eqb-true x y p)))
    go false p d q = ne_eqb (256 * x + u) (256 * y + v) (λ z. eqb-false x y p (omega arith))

module _ (a b : List ℕ) (f : Below 256 a) (g : Below 256 b) where
  front_same : (i : ℕ) → i ≤ length a → i ≤ length b → eqb (key_of i a) (key_of i b) ≡ same_list (take i a) (take i b)
  unfolding key_of
  front_same zero h k = same_none
  front_same (suc i) h k =
      digit_same (key_of i a) (key_of i b) (get_or a i 0) (get_or b i 0) (f i (omega arith)) (g i (omega arith))
      ∙ ap (λ (z : Bool). z && eqb (get_or a i 0) (get_or b i 0)) (front_same i (omega arith) (omega arith))
      ∙ sym (same_more a b i (omega arith) (omega arith))

  pub key_same : length a ≡ 8 → length b ≡ 8 → eqb (key_of 8 a) (key_of 8 b) ≡ same_list a b
  key_same h k = front_same 8 (omega arith) (omega arith) ∙ rw (take_all 8 a (omega arith), take_all 8 b (omega arith))
