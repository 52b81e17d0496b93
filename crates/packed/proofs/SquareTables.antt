-- The constant tables of the squares: of each, one test of the two monomials between which it comes.
use mathlib.Core.Path.{◌≡◌, refl, sym, subst}
use mathlib.Core.Bool.{Bool, false, ◌&&◌, ◌||◌}
use mathlib.Core.List.{List, [], ◌∷◌}
use mathlib.Core.Logic.{◌↔◌}
use Prim.Native.Nat.{Ordering}
use Prim.Native.Nat.{ℕ, ◌-◌, ◌<◌, ◌≤◌}
use native.Mathlib.Omega.{arith}
use native.Mathlib.Decide.{ℕ_discrete, dec_lt}
use lib.ListN.{length, get_or}
use lib.Dec.{T, eqb, ltb, leb, eqb→eq, ltb→lt, leb→le}
use borrow.Author.Tests.{ne_eqb}
use Rattle.residue.proofs.Tests.{and_left, and_right}
use Rattle.residue.proofs.level.Moduli.{below, below_at}
use Rattle.monomial.specs.Order.{Order, cmp}
use Rattle.monomial.proofs.Orders.Lawful.{lawful, irrefl}
use Rattle.residue.specs.Words.{bits_of}
use Rattle.words.specs.Sequences.{is_less, Sequence, square_of, Squares}
use Rattle.orders.proofs.SequenceLaws.{less_so}

-- in these orders x1 has the largest square
abbrev pub in_turn : List ℕ
in_turn = 0 ∷ 1 ∷ 2 ∷ 3 ∷ 4 ∷ 5 ∷ 6 ∷ 7 ∷ []

turn_at : (i : ℕ) → i < 8 → get_or in_turn i 0 ≡ i
turn_at i h = eqb→eq _ _ (below_at (λ i. eqb (get_or in_turn i 0) i) 8 tt i h)

unfoldable pub square_test : Order → List ℕ → List ℕ → ℕ → Bool
square_test order bytes before k =
    ltb 0 (get_or before k 0) && (leb (get_or before k 0) 256 && (is_less (cmp order (bits_of 8 (get_or bytes (get_or before k 0 - 1) 0)) (square_of k))
    && (eqb (get_or before k 0) 256 || is_less (cmp order (square_of k) (bits_of 8 (get_or bytes (get_or before k 0) 0))))))

unfoldable pub fall_test : Order → ℕ → Bool
fall_test order k = below (λ j. is_less (cmp order (square_of k) (square_of j))) k

module _ (order : Order) (bytes multiples : List ℕ) (Q : Sequence order bytes multiples) (before : List ℕ) (long : length before ≡ 8)
    (test : T (below (square_test order bytes before) 8)) (falls : T (below (fall_test order) 8)) where
  abbrev at : ℕ → List ℕ
  at j = bits_of 8 (get_or bytes j 0)

  -- what the test says of one square
  module _ (k : ℕ) (h : k < 8) where
    abbrev b : ℕ
    b = get_or before k 0

    parts : T (ltb 0 b) × (T (leb b 256) × (T (is_less (cmp order (at (b - 1)) (square_of k))) × T (eqb b 256 || is_less (cmp order (square_of k) (at b)))))
    unfolding square_test
    parts =
        let t = below_at (square_test order bytes before) 8 test k h in
        let u = and_right (ltb 0 b) _ t in
        let v = and_right (leb b 256) _ u in (
          and_left (ltb 0 b) _ t,
          (
            and_left (leb b 256) _ u,
            (and_left (is_less (cmp order (at (b - 1)) (square_of k))) _ v, and_right (is_less (cmp order (at (b - 1)) (square_of k))) _ v),
          ),
        )

    some : 0 < b
    some = ltb→lt 0 b parts.0

    most : b ≤ 256
    most = leb→le b 256 parts.1.0

    last_less : cmp order (at (b - 1)) (square_of k) ≡ Ordering.lt
    last_less = less_so _ parts.1.1.0

    next_more : b < 256 → cmp order (square_of k) (at b) ≡ Ordering.lt
    next_more u = less_so _ (other (eqb b 256) (is_less (cmp order (square_of k) (at b))) parts.1.1.1 (ne_eqb b 256 (λ e. omega arith)))
      where
        other : (s t : Bool) → T (s || t) → s ≡ false → T t
        other s t v e = subst (λ (x : Bool). T (x || t)) e v

    told : (j : ℕ) → j < 256 → (j < b) ↔ (cmp order (at j) (square_of k) ≡ Ordering.lt)
    told j u = ((λ v. under v (ℕ_discrete j (b - 1))), λ e. over e (dec_lt j b) (ℕ_discrete b j))
      where
        under : j < b → Dec (j ≡ b - 1) → cmp order (at j) (square_of k) ≡ Ordering.lt
        under v (yes e) = subst (λ (x : ℕ). cmp order (at x) (square_of k) ≡ Ordering.lt) (sym e) last_less
        under v (no n) = (lawful order).chain (at j) (at (b - 1)) (square_of k) (Q.rising j (b - 1) (omega (arith, v, n)) (omega (arith, some, most))) last_less

        over : cmp order (at j) (square_of k) ≡ Ordering.lt → Dec (j < b) → Dec (b ≡ j) → j < b
        over e (yes v) _ = v
        over e (no n) (yes z) = absurd (irrefl (cmp order) (lawful order) (square_of k)
            ((lawful order).chain (square_of k) (at b) (square_of k) (next_more (omega (arith, n, u)))
            (subst (λ (x : ℕ). cmp order (at x) (square_of k) ≡ Ordering.lt) (sym z) e)))
        over e (no n) (no d) = absurd (irrefl (cmp order) (lawful order) (square_of k)
            ((lawful order).chain (square_of k) (at b) (square_of k) (next_more (omega (arith, n, u)))
            ((lawful order).chain (at b) (at j) (square_of k) (Q.rising b j (omega (arith, n, d)) u) e)))

  fall : (j k : ℕ) → j < k → k < 8 → cmp order (square_of k) (square_of j) ≡ Ordering.lt
  unfolding fall_test
  fall j k h u = less_so _ (below_at (λ j. is_less (cmp order (square_of k) (square_of j))) k (below_at (fall_test order) 8 falls k u) j h)

  pub squares_in_turn : (m : ℕ) → m ≤ 8 → Squares order m bytes in_turn before
  squares_in_turn m few = record {
    squares_long = refl;
    before_long = long;
    variable = λ i h. subst (λ (x : ℕ). x < m) (sym (turn_at i (omega arith))) h;
    each = λ k h. (k, h, turn_at k (omega arith));
    falling = λ i j h u. subst (λ (x : ℕ). cmp order (square_of x) (square_of (get_or in_turn i 0)) ≡ Ordering.lt) (sym (turn_at j (omega arith)))
        (subst (λ (x : ℕ). cmp order (square_of j) (square_of x) ≡ Ordering.lt) (sym (turn_at i (omega arith))) (fall i j h (omega arith)));
    most = λ i h. most i (omega arith);
    below = λ i j h u. subst (λ (x : ℕ). (j < get_or before i 0) ↔ (cmp order (at j) (square_of x) ≡ Ordering.lt)) (sym (turn_at i (omega arith)))
        (told i (omega arith) j u);
  }
