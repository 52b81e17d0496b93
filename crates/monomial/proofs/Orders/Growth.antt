-- Every order goes with multiplication: a variable keeps every answer, multiples are greater, and 1 is least.
use mathlib.Core.Path.{◌≡◌, refl, sym, ap, ◌∙◌}
use mathlib.Core.Bool.{true}
use mathlib.Core.List.{List}
use Prim.Native.Nat.{ℕ, ◌<◌, Ordering}
use lib.ListN.{length}
use Rattle.monomial.specs.Monomial.{one, product, times_variable, divides}
use Rattle.monomial.specs.Order.{Order, cmp}
use Rattle.monomial.proofs.Algebra.Products.{aligned, variable_product, length_variable, times_variable_differs}
use Rattle.monomial.proofs.Algebra.Division.{quotient, length_quotient, quotient_product}
use Rattle.monomial.proofs.Orders.Lawful.{lawful}
use Rattle.monomial.proofs.Orders.Keys.{cmp_product, cmp_grow}

module _ (order : Order) where
  pub cmp_times_variable : (k : ℕ) (a b : List ℕ) → length a ≡ length b → cmp order (times_variable k a) (times_variable k b) ≡ cmp order a b
  cmp_times_variable k a b e =
      let u : List ℕ = times_variable k (one (length a)) in
      let l : length u ≡ length a = length_variable k (length a) in
      let f : product u b ≡ times_variable k b = ap (λ (n : ℕ). product (times_variable k (one n)) b) e ∙ variable_product k b in
      rw (← variable_product k a, ← f) (cmp_product order u a b l (l ∙ e))

  -- a product is not smaller than a factor, and greater unless it is that factor
  pub grows : (u a : List ℕ) → length u ≡ length a → ¬ (a ≡ product u a) → cmp order a (product u a) ≡ Ordering.lt
  grows u a l ne = go _ refl
    where
      go : (o : Ordering) → cmp order a (product u a) ≡ o → cmp order a (product u a) ≡ Ordering.lt
      go Ordering.lt e = e
      go Ordering.eq e = absurd (ne ((lawful order).eq a (product u a) e))
      go Ordering.gt e = absurd (cmp_grow order (aligned u a l) e)

  pub divisor_smaller : (a b : List ℕ) → length a ≡ length b → divides a b ≡ true → ¬ (a ≡ b) → cmp order a b ≡ Ordering.lt
  divisor_smaller a b l h ne =
      let e : product (quotient b a) a ≡ b = quotient_product b a h in
      rw (← e) (grows (quotient b a) a (length_quotient b a ∙ sym l) (λ q. ne (q ∙ e)))

  pub times_variable_greater : (k : ℕ) (a : List ℕ) → k < length a → cmp order a (times_variable k a) ≡ Ordering.lt
  times_variable_greater k a h =
      rw (← variable_product k a)
      (grows (times_variable k (one (length a))) a (length_variable k (length a)) (λ e. times_variable_differs k a h (e ∙ variable_product k a)))
