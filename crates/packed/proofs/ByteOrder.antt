-- The bytes of a sequence as monomials of m variables: they are in order, and so are the squares.
use mathlib.Core.Path.{◌≡◌, sym, ap, ap₂, ◌∙◌, subst}
use mathlib.Core.List.{List, ◌∷◌}
use mathlib.Core.Logic.{◌↔◌}
use Prim.Native.Nat.{ℕ, zero, suc, ◌^◌, ◌<◌, ◌≤◌}
use native.Mathlib.Nat.{lt_of_lt_of_le}
use native.Mathlib.Omega.{arith}
use lib.ListN.{length, get_or}
use lib.Pow.{pow_mono}
use Rattle.residue.specs.Layout.{fill}
use Rattle.residue.proofs.Layouts.{fill_zeros}
use Rattle.monomial.specs.Monomial.{one, times_variable}
use Rattle.monomial.specs.Order.{Order, cmp}
use Rattle.monomial.proofs.Algebra.Division.{divides_refl}
use Rattle.monomial.proofs.Algebra.Products.{length_times_variable}
use Rattle.monomial.proofs.Padding.{cmp_fill, fill_times_variable}
use Rattle.specification.specs.Space.{Space, Less, Divides}
use Rattle.specification.specs.Instance.{Monomial, space_of}
use Rattle.specification.specs.Squares.{square}
use Rattle.specification.proofs.Instance.{monomial_path}
use Rattle.residue.specs.Words.{bits_of, word_of, length_bits}
use Rattle.words.specs.Sequences.{Sequence, square_of, Squares}
use Rattle.orders.proofs.ByteInstance.{long_one, free_word, word_free}
use Rattle.packed.proofs.PackedUnder.{bits_fill}
use Rattle.packed.proofs.Visiting.{Ordered}

-- the square of x_(k+1) in m variables
abbrev pub square_in : ℕ → ℕ → List ℕ
square_in m k = times_variable k (times_variable k (one m))

zeros_fill : (m k : ℕ) → m ≤ k → fill k (one m) ≡ one k
unfolding fill
zeros_fill zero k h = fill_zeros k
zeros_fill (suc m) zero h = absurd (omega arith)
zeros_fill (suc m) (suc k) h = ap (λ (l : List ℕ). 0 ∷ l) (zeros_fill m k (omega arith))

pub long_square : (m k : ℕ) → length (square_in m k) ≡ m
long_square m k = length_times_variable k (times_variable k (one m)) ∙ length_times_variable k (one m) ∙ long_one m

pub square_fill : (m k : ℕ) → m ≤ 8 → k < m → fill 8 (square_in m k) ≡ square_in 8 k
square_fill m k h u =
    fill_times_variable (times_variable k (one m)) (subst (λ (n : ℕ). n ≤ 8) (sym (length_times_variable k (one m) ∙ long_one m)) h) k
    (subst (λ (n : ℕ). k < n) (sym (length_times_variable k (one m) ∙ long_one m)) u)
    ∙ ap (times_variable k) (fill_times_variable (one m) (subst (λ (n : ℕ). n ≤ 8) (sym (long_one m)) h) k (subst (λ (n : ℕ). k < n) (sym (long_one m)) u)
    ∙ ap (times_variable k) (zeros_fill m 8 h))

module _ (q m : ℕ) (order : Order) (most : m ≤ 8) (bytes multiples : List ℕ) (Q : Sequence order bytes multiples)
    (squares before : List ℕ) (R : Squares order m bytes squares before) where
  abbrev D : Space
  D = space_of q m order

  -- the monomial of a place, where its byte has no variable above the first m
  abbrev pub Valid : ℕ → Type 0
  Valid i = get_or bytes i 0 < 2 ^ m

  abbrev pub at : ℕ → Monomial m
  at i = (bits_of m (get_or bytes i 0), length_bits m (get_or bytes i 0))

  long : (w : ℕ) → length (bits_of m w) ≤ 8
  long w = subst (λ (n : ℕ). n ≤ 8) (sym (length_bits m w)) most

  byte_cmp : (v w : ℕ) → v < 2 ^ m → w < 2 ^ m → cmp order (bits_of 8 v) (bits_of 8 w) ≡ cmp order (bits_of m v) (bits_of m w)
  byte_cmp v w h k = ap₂ (cmp order) (sym (bits_fill m 8 v most h)) (sym (bits_fill m 8 w most k))
      ∙ cmp_fill (bits_of m v) (bits_of m w) (length_bits m v ∙ sym (length_bits m w)) (long v) order

  -- the variable of a square
  abbrev pub sq : ℕ → ℕ
  sq j = get_or squares j 0

  -- a place comes before a square
  pub square_below : (j i : ℕ) → j < m → i < 256 → Valid i → (i < get_or before j 0) ↔ Less D (at i) (square D (sq j))
  square_below j i h u v =
      let e : cmp order (bits_of 8 (get_or bytes i 0)) (square_of (sq j)) ≡ D.cmp (at i) (square D (sq j)) =
      ap₂ (cmp order) (sym (bits_fill m 8 (get_or bytes i 0) most v)) (sym (square_fill m (sq j) most (R.variable j h)))
      ∙ cmp_fill (bits_of m (get_or bytes i 0)) (square_in m (sq j)) (length_bits m (get_or bytes i 0) ∙ sym (long_square m (sq j))) (long (get_or bytes i 0)) order in
      ((λ l. sym e ∙ (R.below j i h u).0 l), λ l. (R.below j i h u).1 (e ∙ l))

  pub ordered : Ordered D Valid at sq
  ordered = record {
    at_less = λ i j h k u v. sym (byte_cmp (get_or bytes i 0) (get_or bytes j 0) u v) ∙ Q.rising i j h k;
    at_place = λ a f. place a (free_word q m order a f).0 (free_word q m order a f).1;
    at_free = λ i. word_free q m order (get_or bytes i 0);
    not_square = λ i k h e. word_free q m order (get_or bytes i 0) k h
        (subst (λ (x : Monomial m). Divides D (square D k) x) (sym e) (divides_refl (square D k).0));
    square_in_lem = R.variable;
    square_each = R.each;
    squares = λ j k h u. sym (cmp_fill (square_in m (sq k)) (square_in m (sq j)) (long_square m (sq k) ∙ sym (long_square m (sq j)))
        (subst (λ (n : ℕ). n ≤ 8) (sym (long_square m (sq k))) most) order)
        ∙ ap₂ (cmp order) (square_fill m (sq k) most (R.variable k u)) (square_fill m (sq j) most (R.variable j (omega arith))) ∙ R.falling j k h u;
  }
    where
      place : (a : Monomial m) → word_of a.0 < 2 ^ m → a.0 ≡ bits_of m (word_of a.0) → (i : ℕ) × (i < 256) × (get_or bytes i 0 < 2 ^ m) × (at i ≡ a)
      place a h e = let p = Q.every (word_of a.0) (lt_of_lt_of_le h (pow_mono most)) in
          (p.0, p.1, subst (λ (x : ℕ). x < 2 ^ m) (sym p.2) h, monomial_path (ap (bits_of m) p.2 ∙ sym e))
