-- The search for the next product: what one turn of each loop does.
use mathlib.Core.Path.{◌≡◌, refl, sym, ap, ◌∙◌}
use mathlib.Core.Bool.{cond}
use mathlib.Core.List.{List}
use Prim.Native.Nat.{ℕ, min, ◌+◌, ◌<◌, ◌≤◌, Ordering}
use native.Mathlib.Numerals.{add-one}
use native.Mathlib.Omega.{arith}
use borrow.Author.Tests.{lt-ltb, le-ltb, eq-eqb, ne_eqb}
use lib.ListN.{length, get_or, set, length-set}
use Rattle.std.specs.Prelude.{Option, Some, None}
use Rattle.std.specs.Option.{MatchOption}
use Rattle.std.specs.Ordering.{ord_min, nat_cmp, is_lt}
use Rattle.std.specs.Cmp.{nat_cmp_is}
use Rattle.std.specs.declared.cmp.Ordering.TheVariants.{Less, Equal, Greater}
use Rattle.monomial.proofs.Orders.Answers.{Says, less, same, more, says}
use Rattle.monomial.specs.declared.candidate.Parents.{Parents}
use Rattle.monomial.specs.Candidate.{rank_at, lesser, least_of, products_passed, parents_of, occurring_in}

abbrev pub parents : ℕ → ℕ → ℕ → Parents
parents c k t = record { count = c; variable = k; standard = t }

-- the library's lesser of two numbers
pub ord_min_is : (b r : ℕ) → ord_min nat_cmp b r ≡ min b r
ord_min_is b r = go (says r b)
  where
    go : {o : Ordering} → Says r b o → ord_min nat_cmp b r ≡ min b r
    go (less h) = ap (λ o. cond (is_lt o) r b) (sym (nat_cmp_is r b Less h)) ∙ omega arith
    go (same h) = ap (λ o. cond (is_lt o) r b) (sym (nat_cmp_is r b Equal h)) ∙ omega arith
    go (more h) = ap (λ o. cond (is_lt o) r b) (sym (nat_cmp_is r b Greater h)) ∙ omega arith

pub lesser_is : (o : Option ℕ) (r x : ℕ) {P : ℕ → Type 0} → MatchOption o (x ≡ r) P → ((b : ℕ) → P b → x ≡ min b r) → x ≡ lesser o r
lesser_is None r x h f = h
lesser_is (Some b) r x h f = f b h

module _ (found : ℕ) (ranks steps : List ℕ) where
  abbrev rank : List ℕ → ℕ → ℕ
  rank at k = rank_at ranks steps at k

  -- the least rank
  module _ (at : List ℕ) (k : ℕ) {b : Option ℕ} (e : b ≡ least_of found ranks steps at k) where
    pub least_shut : found ≤ get_or at k 0 → b ≡ least_of found ranks steps at (k + 1)
    unfolding least_of
    least_shut h = e ∙ sym (rw (add-one k, le-ltb (get_or at k 0) found h))

    pub least_open : {x : ℕ} → get_or at k 0 < found → x ≡ lesser b (rank at k) → Some x ≡ least_of found ranks steps at (k + 1)
    unfolding least_of
    least_open h f = rw (f, e) (sym (rw (add-one k, lt-ltb (get_or at k 0) found h)))

  -- the loop that passes the products of rank r has looked at the first k variables
  pub record Passing (r : ℕ) (at₀ : List ℕ) (k : ℕ) (at : List ℕ) (c v t : ℕ) : Type 0 where
    pub long : length at ≡ length at₀
    pub few : c ≤ k
    pub moved : at ≡ products_passed found ranks steps r at₀ k
    pub last : parents c v t ≡ parents_of found ranks steps r at₀ k

  pub pass_start : (r : ℕ) (at : List ℕ) → Passing r at 0 at 0 0 0
  unfolding products_passed parents_of
  pass_start r at = record { long = refl; few = omega arith; moved = refl; last = refl }

  -- a turn that leads to at', c', v' and t'
  module _ {r : ℕ} {at₀ : List ℕ} {k : ℕ} {at : List ℕ} {c v t : ℕ} (w : Passing r at₀ k at c v t) {at' : List ℕ} {c' v' t' : ℕ} where
    pub pass_shut : found ≤ get_or at k 0 → at' ≡ at → c' ≡ c → v' ≡ v → t' ≡ t → Passing r at₀ (k + 1) at' c' v' t'
    unfolding products_passed parents_of
    pass_shut h e f g i =
        rw (e, f, g, i)
        (record {
          long = w.long;
          few = omega arith;
          moved = rw (add-one k, ← w.moved, le-ltb (get_or at k 0) found h);
          last = rw (add-one k, ← w.moved, ← w.last, le-ltb (get_or at k 0) found h);
        })

    pub pass_other : get_or at k 0 < found → ¬ (rank at k ≡ r) → at' ≡ at → c' ≡ c → v' ≡ v → t' ≡ t → Passing r at₀ (k + 1) at' c' v' t'
    unfolding products_passed parents_of
    pass_other h n e f g i =
        rw (e, f, g, i)
        (record {
          long = w.long;
          few = omega arith;
          moved = rw (add-one k, ← w.moved, lt-ltb (get_or at k 0) found h, ne_eqb (rank at k) r n);
          last = rw (add-one k, ← w.moved, ← w.last, lt-ltb (get_or at k 0) found h, ne_eqb (rank at k) r n);
        })

    pub pass_one : get_or at k 0 < found → rank at k ≡ r → at' ≡ set at k (get_or at k 0 + 1) → c' ≡ c + 1 → v' ≡ k → t' ≡ get_or at k 0 → Passing r at₀ (k + 1) at' c' v' t'
    unfolding products_passed parents_of
    pass_one h n e f g i =
        rw (e, f, g, i)
        (record {
          long = simp length-set w.long;
          few = omega arith;
          moved = rw (add-one k, ← w.moved, lt-ltb (get_or at k 0) found h, eq-eqb (rank at k) r n);
          last = rw (add-one k, ← w.moved, ← w.last, lt-ltb (get_or at k 0) found h, eq-eqb (rank at k) r n);
        })

-- variables that occur
module _ (a : List ℕ) (k i : ℕ) where
  pub occurs_self : i ≡ k → occurring_in a k i + 1 ≡ occurring_in a k (i + 1)
  unfolding occurring_in
  occurs_self h = sym (rw (add-one i, eq-eqb i k h))

  pub occurs_more : ¬ (i ≡ k) → ¬ (get_or a i 0 ≡ 0) → occurring_in a k i + 1 ≡ occurring_in a k (i + 1)
  unfolding occurring_in
  occurs_more n h = sym (rw (add-one i, ne_eqb i k n, ne_eqb (get_or a i 0) 0 h))

  pub occurs_not : ¬ (i ≡ k) → get_or a i 0 ≡ 0 → occurring_in a k i ≡ occurring_in a k (i + 1)
  unfolding occurring_in
  occurs_not n h = sym (rw (add-one i, ne_eqb i k n, eq-eqb (get_or a i 0) 0 h))
