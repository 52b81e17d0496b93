-- What the library's comparisons answer, in the words of the orders.
use mathlib.Core.Path.{◌≡◌, refl, sym, ap, ap₂, subst, ◌∙◌}
use mathlib.Core.List.{List, [], ◌∷◌, ◌++◌, reverse}
use Prim.Native.Nat.{ℕ, compare, Ordering}
use lib.ListN.{length, length-reverse}
use Rattle.std.specs.declared.cmp.Ordering.{Ordering as Comparison}
use Rattle.std.proofs.lemmas.Grind.{reverse_onto}
use Rattle.std.specs.Ordering.{nat_cmp, ordering_then, MatchOrdering}
use Rattle.std.specs.Cmp.{nat_cmp_is}
use Rattle.std.specs.Cmp.Lexicographic.{slice_cmp}
use Rattle.std.specs.declared.cmp.Ordering.TheVariants.{Less, Equal, Greater}
use Rattle.monomial.specs.Order.{and_then, by_first, by_last}
use Rattle.monomial.specs.Comparison.{comparison_of}
use Rattle.monomial.proofs.Algebra.Products.{Aligned, nil, cons, aligned, aligned_length}
use Rattle.monomial.proofs.Orders.Answers.{Says, less, same, more, says}

pub number_compared : (x y : ℕ) → nat_cmp x y ≡ comparison_of (compare x y)
number_compared x y = go (says x y)
  where
    go : {o : Ordering} → Says x y o → nat_cmp x y ≡ comparison_of o
    go (less h) = sym (nat_cmp_is x y Less h)
    go (same h) = sym (nat_cmp_is x y Equal h)
    go (more h) = sym (nat_cmp_is x y Greater h)

pub then_compared : (o p : Ordering) → ordering_then (comparison_of o) (comparison_of p) ≡ comparison_of (and_then o p)
then_compared Ordering.lt p = refl
then_compared Ordering.eq p = refl
then_compared Ordering.gt p = refl

-- a comparison that decides, and a second where it finds no difference
pub graded : {P : Type 0} (o t : Ordering) (g r : Comparison) → g ≡ comparison_of o → MatchOrdering g (r ≡ Less) P (r ≡ Greater) → (P → r ≡ comparison_of t) → r ≡ comparison_of (and_then o t)
graded {P} o t g r e m f = go o (subst (λ k. MatchOrdering k (r ≡ Less) P (r ≡ Greater)) e m)
  where
    go : (o : Ordering) → MatchOrdering (comparison_of o) (r ≡ Less) P (r ≡ Greater) → r ≡ comparison_of (and_then o t)
    go Ordering.lt h = h
    go Ordering.eq h = f h
    go Ordering.gt h = h

pub first_compared : (a b : List ℕ) → slice_cmp nat_cmp a b ≡ comparison_of (by_first a b)
first_compared [] [] = refl
first_compared [] (y ∷ ys) = refl
first_compared (x ∷ xs) [] = refl
first_compared (x ∷ xs) (y ∷ ys) =
    ap (λ o. ordering_then o (slice_cmp nat_cmp xs ys)) (number_compared x y)
    ∙ ap (ordering_then (comparison_of (compare x y))) (first_compared xs ys)
    ∙ then_compared (compare x y) (by_first xs ys)

-- the last entries of two lists of one length decide where nothing before them does
then_ended : (o : Comparison) → ordering_then o Equal ≡ o
then_ended Less = refl
then_ended Equal = refl
then_ended Greater = refl

then_joined : (o p q : Comparison) → ordering_then o (ordering_then p q) ≡ ordering_then (ordering_then o p) q
then_joined Less p q = refl
then_joined Equal p q = refl
then_joined Greater p q = refl

ends_compared : {a b : List ℕ} (x y : ℕ) → Aligned a b → slice_cmp nat_cmp (a ++ (x ∷ [])) (b ++ (y ∷ [])) ≡ ordering_then (slice_cmp nat_cmp a b) (nat_cmp x y)
ends_compared x y nil = then_ended (nat_cmp x y)
ends_compared x y (cons {x = u} {y = v} {xs = us} {ys = vs} e) =
    ap (ordering_then (nat_cmp u v)) (ends_compared x y e) ∙ then_joined (nat_cmp u v) (slice_cmp nat_cmp us vs) (nat_cmp x y)

-- from the last entries on
pub last_compared : (a b : List ℕ) → length a ≡ length b → slice_cmp nat_cmp (reverse b) (reverse a) ≡ comparison_of (by_last a b)
last_compared a b e = go (aligned a b e)
  where
    go : {a b : List ℕ} → Aligned a b → slice_cmp nat_cmp (reverse b) (reverse a) ≡ comparison_of (by_last a b)
    go nil = refl
    go (cons {x} {y} {xs} {ys} e) =
        ap₂ (slice_cmp nat_cmp) (reverse_onto ys y []) (reverse_onto xs x [])
        ∙ ends_compared y x (aligned (reverse ys) (reverse xs) (length-reverse ys ∙ sym (aligned_length e) ∙ sym (length-reverse xs)))
        ∙ ap (λ o. ordering_then o (nat_cmp y x)) (go e)
        ∙ ap (ordering_then (comparison_of (by_last xs ys))) (number_compared y x)
        ∙ then_compared (by_last xs ys) (compare y x)
