-- Ranks: additive, and in the order of the monomials as long as the total degree is below 65.
use mathlib.Core.Path.{◌≡◌, refl, sym, ◌∙◌}
use mathlib.Core.List.{List, [], ◌∷◌, ◌++◌, drop_last}
use Prim.Native.Nat.{ℕ, ◌+◌, ◌*◌, ◌^◌, ◌<◌, ◌≤◌, compare, Ordering}
use native.Mathlib.Nat.{pow-succ', mul-le-mul_right}
use native.Mathlib.Omega.{arith}
use lib.ListN.{length, get_or}
use Rattle.residue.specs.Layout.{fill, length_fill}
use Rattle.monomial.specs.Monomial.{degree, one, product, times_variable}
use Rattle.monomial.specs.Order.{Order, lex, grlex, grevlex, weighted, weigh, and_then, by_first, cmp, LightOrder}
use Rattle.monomial.specs.Rank.{sums_down, key, numeral, rank_of, variable_rank, rank_bound}
use Rattle.monomial.proofs.Algebra.Products.{Aligned, nil, cons, aligned, aligned_length, grow_aligned, variable_product, length_variable}
use Rattle.monomial.proofs.Orders.Answers.{Says, less, same, more, says, said, compare_self, compare_shift}
use Rattle.monomial.proofs.Orders.Keys.{key_aligned, key_cmp, key_product}
use Rattle.monomial.proofs.Orders.Weights.{weigh_most, weigh_variable}
use Rattle.monomial.proofs.Padding.{degree_fill, cmp_fill}

-- each of a list is a digit
abbrev Digits : List ℕ → Type 0
Digits [] = Unit {0}
Digits (d ∷ ds) = (d < 65) × Digits ds

less_digit : (x y p n : ℕ) → x < y → n < p → x * p + n < y * p
less_digit x y p n h k = omega (arith, mul-le-mul_right p h)

numeral_below : (ds : List ℕ) → Digits ds → numeral ds < 65 ^ length ds
numeral_below [] h = omega arith
numeral_below (d ∷ ds) h = rw pow-succ' (less_digit d 65 (65 ^ length ds) (numeral ds) h.0 (numeral_below ds h.1))

-- all but the first are digits
abbrev Rest : List ℕ → Type 0
Rest [] = Unit {0}
Rest (d ∷ ds) = Digits ds

rest : (ds : List ℕ) → Digits ds → Rest ds
rest [] h = tt
rest (d ∷ ds) h = h.1

numeral_cmp : {a b : List ℕ} → Aligned a b → Rest a → Rest b → compare (numeral a) (numeral b) ≡ by_first a b
numeral_cmp nil h k = compare_self 0
numeral_cmp (cons {x} {y} {xs} {ys} e) h k =
    rw (aligned_length e)
    (go (65 ^ length ys) (rw (aligned_length e) at (numeral_below xs h)) (numeral_below ys k) (says x y) (numeral_cmp e (rest xs h) (rest ys k)))
  where
    go : (p : ℕ) → numeral xs < p → numeral ys < p → {o : Ordering} → Says x y o → compare (numeral xs) (numeral ys) ≡ by_first xs ys →
        compare (x * p + numeral xs) (y * p + numeral ys) ≡ and_then o (by_first xs ys)
    go p u v (less l) ih = said (less (omega (arith, less_digit x y p (numeral xs) l u)))
    go p u v (same l) ih = rw (l, compare_shift (y * p) (numeral xs) (numeral ys)) ih
    go p u v (more l) ih = said (more (omega (arith, less_digit y x p (numeral ys) l v)))

numeral_product : {a b : List ℕ} → Aligned a b → numeral (product a b) ≡ numeral a + numeral b
numeral_product nil = refl
numeral_product (cons {x} {y} {xs} {ys} e) =
    rw (← aligned_length (grow_aligned e), aligned_length e) (shape (65 ^ length ys) (numeral_product e))
  where
    shape : (p : ℕ) → numeral (product xs ys) ≡ numeral xs + numeral ys → (x + y) * p + numeral (product xs ys) ≡ x * p + numeral xs + (y * p + numeral ys)
    shape p ih = omega arith

-- what a key holds is no larger than the degree
snoc_digits : (a : List ℕ) (x : ℕ) → Digits a → x < 65 → Digits (a ++ (x ∷ []))
snoc_digits [] x h k = (k, tt)
snoc_digits (y ∷ ys) x h k = (h.0, snoc_digits ys x h.1 k)

front_digits : (a : List ℕ) → Digits a → Digits (drop_last a)
front_digits [] h = tt
front_digits (x ∷ []) h = tt
front_digits (x ∷ y ∷ ys) h = (h.0, front_digits (y ∷ ys) h.1)

degree_digits : (a : List ℕ) → degree a < 65 → Digits a
degree_digits [] h = tt
degree_digits (x ∷ xs) h = (omega arith, degree_digits xs (omega arith))

sums_digits : (c : ℕ) (a : List ℕ) → c + degree a < 65 → Digits (sums_down c a)
sums_digits c [] h = tt
sums_digits c (x ∷ xs) h = snoc_digits (sums_down (c + x) xs) (c + x) (sums_digits (c + x) xs (omega arith)) (omega arith)

key_digits : (order : Order) (a : List ℕ) → degree a < 65 → Rest (key order a)
unfolding key
key_digits lex a h = rest a (degree_digits a h)
key_digits grlex a h = front_digits a (degree_digits a h)
key_digits grevlex a h = rest (sums_down 0 a) (sums_digits 0 a (omega arith))
key_digits (weighted w) a h = degree_digits a h

-- 8 digits
plain_fits : (ds : List ℕ) → length ds ≡ 8 → Digits ds → numeral ds < rank_bound
plain_fits ds l h = let b : numeral ds < 65 ^ 8 = rw l at (numeral_below ds h) in omega arith

pub rank_fits : (order : Order) → LightOrder order → (a : List ℕ) → length a ≡ 8 → degree a < 65 → rank_of order a < rank_bound
unfolding rank_of key
rank_fits lex t a l h = plain_fits a l (degree_digits a h)
rank_fits grlex t a l h = plain_fits (degree a ∷ drop_last a) (aligned_length (key_aligned grlex (aligned a (one 8) l))) (h, front_digits a (degree_digits a h))
rank_fits grevlex t a l h = plain_fits (sums_down 0 a) (aligned_length (key_aligned grevlex (aligned a (one 8) l))) (sums_digits 0 a (omega arith))
rank_fits (weighted w) t a l h =
    let b : numeral a < 65 ^ 8 = rw l at (numeral_below a (degree_digits a h)) in
    let s : weigh w a ≤ 6336 = omega (arith, weigh_most w a t) in
    rw l (omega arith)

module _ (order : Order) where
  -- the order of ranks is the order of monomials
  module _ (a b : List ℕ) (l : length a ≡ length b) (h : degree a < 65) (k : degree b < 65) where
    pub rank_cmp : compare (rank_of order a) (rank_of order b) ≡ cmp order a b
    unfolding rank_of
    rank_cmp =
        let e : Aligned a b = aligned a b l in
        numeral_cmp (key_aligned order e) (key_digits order a h) (key_digits order b k) ∙ sym (key_cmp order e)

  -- and that of the bytes that hold them
  pub rank_fill_cmp : (a b : List ℕ) → length a ≡ length b → length a ≤ 8 → degree a < 65 → degree b < 65 →
      compare (rank_of order (fill 8 a)) (rank_of order (fill 8 b)) ≡ cmp order a b
  rank_fill_cmp a b l s h k =
      rank_cmp (fill 8 a) (fill 8 b) (length_fill 8 a ∙ sym (length_fill 8 b)) (rw (degree_fill a s) h) (rw (degree_fill b (omega arith)) k) ∙ cmp_fill a b l s order

  -- x_(k+1) adds its rank
  pub rank_times_variable : (k : ℕ) (a : List ℕ) → length a ≡ 8 → rank_of order (times_variable k a) ≡ variable_rank order k + rank_of order a
  unfolding rank_of variable_rank
  rank_times_variable k a l =
      let e : product (times_variable k (one 8)) a ≡ times_variable k a = rw l at (variable_product k a) in
      let f : Aligned (times_variable k (one 8)) a = aligned _ a (length_variable k 8 ∙ sym l) in
      rw (← e, key_product order f) (numeral_product (key_aligned order f))

-- under weights, a variable's rank is its weight, times 65 to the power 8, and its rank in lex
pub weighted_variable : (w : List ℕ) (k : ℕ) → k < 8 → variable_rank (weighted w) k ≡ get_or w k 0 * 65 ^ 8 + variable_rank lex k
unfolding variable_rank rank_of key
weighted_variable w k h = rw (weigh_variable w k 8 h, length_variable k 8)
