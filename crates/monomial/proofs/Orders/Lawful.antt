-- A comparison that is a total order, and that each of the orders of monomials is one, on lists of any length.
use mathlib.Core.Path.{◌≡◌, refl, sym, ap, ◌∙◌}
use mathlib.Core.Logic.{◌⊎◌, inl, inr}
use mathlib.Core.List.{List, [], ◌∷◌}
use Prim.Native.Nat.{ℕ, compare, Ordering}
use native.Mathlib.Omega.{arith}
use Rattle.monomial.specs.Monomial.{degree}
use Rattle.monomial.specs.Order.{Order, lex, grlex, grevlex, weighted, weigh, and_then, by_first, by_last, cmp}
use Rattle.monomial.proofs.Orders.Answers.{less, said, compare_self, compare_eq, compare_lt, compare_swap, turned, lt≢eq, gt≢eq, gt≢lt, then_eq, then_lt, then_turned}

pub record Lawful {A : Type 0} (c : A → A → Ordering) : Type 0 where
  pub eq : (a b : A) → c a b ≡ Ordering.eq → a ≡ b
  pub self : (a : A) → c a a ≡ Ordering.eq
  pub swap : (a b : A) → c b a ≡ turned (c a b)
  pub chain : (a b d : A) → c a b ≡ Ordering.lt → c b d ≡ Ordering.lt → c a d ≡ Ordering.lt

-- what follows of any such comparison
module _ {A : Type 0} (c : A → A → Ordering) (L : Lawful c) where
  pub turn : {a b : A} → c a b ≡ Ordering.gt → c b a ≡ Ordering.lt
  turn {a} {b} h = L.swap a b ∙ ap turned h

  pub irrefl : (a : A) → c a a ≡ Ordering.lt → ⊥
  irrefl a h = lt≢eq (sym h ∙ L.self a)

  pub differ : {a b : A} → a ≡ b → c a b ≡ Ordering.lt → ⊥
  differ {a} {b} e h = irrefl b (rw e at h)

  pub trans : {a b d : A} → c a b ≡ Ordering.lt → c b d ≡ Ordering.lt → c a d ≡ Ordering.lt
  trans {a} {b} {d} h k = L.chain a b d h k

  pub asym : {a b : A} → c a b ≡ Ordering.lt → c b a ≡ Ordering.lt → ⊥
  asym {a} h k = irrefl a (trans h k)

-- a lawful comparison of what is told of the elements, where that tells them apart
pub told_by : {A B : Type 0} (f : A → B) → ((a b : A) → f a ≡ f b → a ≡ b) → (c : B → B → Ordering) → Lawful c → Lawful (λ (a b : A). c (f a) (f b))
told_by f inj c L = record {
  eq = λ a b e. inj a b (L.eq (f a) (f b) e);
  self = λ a. L.self (f a);
  swap = λ a b. L.swap (f a) (f b);
  chain = λ a b d. L.chain (f a) (f b) (f d);
}

-- a chain through two answers: c's, and where it finds no difference another
then_chain : {A : Type 0} (c : A → A → Ordering) → ((a b : A) → c a b ≡ Ordering.eq → a ≡ b) → (a b d : A) (o p q : Ordering) →
    (c a b ≡ Ordering.lt → c b d ≡ Ordering.lt → c a d ≡ Ordering.lt) → (o ≡ Ordering.lt → p ≡ Ordering.lt → q ≡ Ordering.lt) →
    and_then (c a b) o ≡ Ordering.lt → and_then (c b d) p ≡ Ordering.lt → and_then (c a d) q ≡ Ordering.lt
then_chain c eq a b d o p q t u h k = go (then_lt (c a b) o h) (then_lt (c b d) p k)
  where
    go : (c a b ≡ Ordering.lt) ⊎ ((c a b ≡ Ordering.eq) × (o ≡ Ordering.lt)) → (c b d ≡ Ordering.lt) ⊎ ((c b d ≡ Ordering.eq) × (p ≡ Ordering.lt)) →
        and_then (c a d) q ≡ Ordering.lt
    go (inl h) (inl k) = rw (t h k)
    go (inl h) (inr (e, k)) = rw (← eq b d e, h)
    go (inr (e, h)) (inl k) = rw (eq a b e, k)
    go (inr (e, h)) (inr (f, k)) = rw (eq a b e, f) (u h k)

compare_chain : (i j k : ℕ) → compare i j ≡ Ordering.lt → compare j k ≡ Ordering.lt → compare i k ≡ Ordering.lt
compare_chain i j k h l = let p = compare_lt i j h in let q = compare_lt j k l in said (less (omega arith))

-- a number asked first, and a lawful comparison after it
graded : {A : Type 0} (f : A → ℕ) (c : A → A → Ordering) → Lawful c → Lawful (λ (a b : A). and_then (compare (f a) (f b)) (c a b))
graded f c L = record {
  eq = λ a b e. L.eq a b (then_eq (compare (f a) (f b)) (c a b) e).1;
  self = λ a. rw (compare_self (f a), L.self a);
  swap = λ a b. rw (compare_swap (f a) (f b), L.swap a b) (then_turned (compare (f a) (f b)) (c a b));
  chain = λ a b d. then_chain compare compare_eq (f a) (f b) (f d) (c a b) (c b d) (c a d) (compare_chain (f a) (f b) (f d)) (L.chain a b d);
}

-- the first that differs decides
first_eq : (a b : List ℕ) → by_first a b ≡ Ordering.eq → a ≡ b
first_eq [] [] e = refl
first_eq [] (y ∷ ys) e = absurd (lt≢eq e)
first_eq (x ∷ xs) [] e = absurd (gt≢eq e)
first_eq (x ∷ xs) (y ∷ ys) e =
    let h = then_eq (compare x y) (by_first xs ys) e in
    let p : x ≡ y = compare_eq x y h.0 in
    let q : xs ≡ ys = first_eq xs ys h.1 in
    cc

first_self : (a : List ℕ) → by_first a a ≡ Ordering.eq
first_self [] = refl
first_self (x ∷ xs) = rw compare_self (first_self xs)

first_swap : (a b : List ℕ) → by_first b a ≡ turned (by_first a b)
first_swap [] [] = refl
first_swap [] (y ∷ ys) = refl
first_swap (x ∷ xs) [] = refl
first_swap (x ∷ xs) (y ∷ ys) = rw (compare_swap x y, first_swap xs ys) (then_turned (compare x y) (by_first xs ys))

first_chain : (a b d : List ℕ) → by_first a b ≡ Ordering.lt → by_first b d ≡ Ordering.lt → by_first a d ≡ Ordering.lt
first_chain [] [] d h k = absurd (lt≢eq (sym h))
first_chain [] (y ∷ ys) [] h k = absurd (gt≢lt k)
first_chain [] (y ∷ ys) (z ∷ zs) h k = refl
first_chain (x ∷ xs) [] d h k = absurd (gt≢lt h)
first_chain (x ∷ xs) (y ∷ ys) [] h k = absurd (gt≢lt k)
first_chain (x ∷ xs) (y ∷ ys) (z ∷ zs) h k =
    then_chain compare compare_eq x y z (by_first xs ys) (by_first ys zs) (by_first xs zs) (compare_chain x y z) (first_chain xs ys zs) h k

pub first_lawful : Lawful by_first
first_lawful = record { eq = first_eq; self = first_self; swap = first_swap; chain = first_chain }

-- the last that differs decides, the other way
last_eq : (a b : List ℕ) → by_last a b ≡ Ordering.eq → a ≡ b
last_eq [] [] e = refl
last_eq [] (y ∷ ys) e = absurd (lt≢eq e)
last_eq (x ∷ xs) [] e = absurd (gt≢eq e)
last_eq (x ∷ xs) (y ∷ ys) e =
    let h = then_eq (by_last xs ys) (compare y x) e in
    let p : y ≡ x = compare_eq y x h.1 in
    let q : xs ≡ ys = last_eq xs ys h.0 in
    cc

last_self : (a : List ℕ) → by_last a a ≡ Ordering.eq
last_self [] = refl
last_self (x ∷ xs) = rw (last_self xs, compare_self)

last_swap : (a b : List ℕ) → by_last b a ≡ turned (by_last a b)
last_swap [] [] = refl
last_swap [] (y ∷ ys) = refl
last_swap (x ∷ xs) [] = refl
last_swap (x ∷ xs) (y ∷ ys) = rw (compare_swap y x, last_swap xs ys) (then_turned (by_last xs ys) (compare y x))

last_chain : (a b d : List ℕ) → by_last a b ≡ Ordering.lt → by_last b d ≡ Ordering.lt → by_last a d ≡ Ordering.lt
last_chain [] [] d h k = absurd (lt≢eq (sym h))
last_chain [] (y ∷ ys) [] h k = absurd (gt≢lt k)
last_chain [] (y ∷ ys) (z ∷ zs) h k = refl
last_chain (x ∷ xs) [] d h k = absurd (gt≢lt h)
last_chain (x ∷ xs) (y ∷ ys) [] h k = absurd (gt≢lt k)
last_chain (x ∷ xs) (y ∷ ys) (z ∷ zs) h k =
    then_chain by_last last_eq xs ys zs (compare y x) (compare z y) (compare z x) (last_chain xs ys zs) (λ p q. compare_chain z y x q p) h k

pub last_lawful : Lawful by_last
last_lawful = record { eq = last_eq; self = last_self; swap = last_swap; chain = last_chain }

-- every order
pub lawful : (order : Order) → Lawful (cmp order)
unfolding cmp
lawful lex = first_lawful
lawful grlex = graded degree by_first first_lawful
lawful grevlex = graded degree by_last last_lawful
lawful (weighted w) = graded (weigh w) by_first first_lawful
