-- Division of monomials.
use mathlib.Core.Path.{◌≡◌, refl, sym, ap}
use mathlib.Core.Logic.{◌⊎◌, inl, inr}
use mathlib.Core.Bool.{true, false≢true, and-eq-true_iff}
use mathlib.Core.List.{List, [], ◌∷◌}
use Prim.Native.Nat.{ℕ, zero, suc, ◌+◌, ◌-◌, ◌<◌, ◌≤◌, suc-le-suc}
use native.Mathlib.Nat.{suc_inj}
use native.Mathlib.Omega.{arith}
use native.Mathlib.Decide.{ℕ_discrete}
use lib.ListN.{length}
use lib.Dec.{leb}
use borrow.Author.Tests.{leb-true, le-leb}
use Rattle.monomial.specs.Monomial.{one, product, times_variable, divides}

-- exponent by exponent
record Divides (x y : ℕ) (xs ys : List ℕ) : Type 0 where
  pub first : x ≤ y
  pub rest : divides xs ys ≡ true

split : (x y : ℕ) (xs ys : List ℕ) → divides (x ∷ xs) (y ∷ ys) ≡ true → Divides x y xs ys
split x y xs ys h =
    let k = (and-eq-true_iff (leb x y) (divides xs ys)).0 h in
    record { first = leb-true x y k.0; rest = k.1 }

join : (x y : ℕ) (xs ys : List ℕ) → x ≤ y → divides xs ys ≡ true → divides (x ∷ xs) (y ∷ ys) ≡ true
join x y xs ys h k = (and-eq-true_iff (leb x y) (divides xs ys)).1 (le-leb x y h, k)

pub divides_refl : (a : List ℕ) → divides a a ≡ true
divides_refl [] = refl
divides_refl (x ∷ xs) = join x x xs xs (omega arith) (divides_refl xs)

pub divides_trans : (a b c : List ℕ) → divides a b ≡ true → divides b c ≡ true → divides a c ≡ true
divides_trans [] b c h k = refl
divides_trans (x ∷ xs) [] c h k = absurd (false≢true h)
divides_trans (x ∷ xs) (y ∷ ys) [] h k = absurd (false≢true k)
divides_trans (x ∷ xs) (y ∷ ys) (z ∷ zs) h k =
    let p = split x y xs ys h in
    let q = split y z ys zs k in
    join x z xs zs (omega arith) (divides_trans xs ys zs p.rest q.rest)

pub divides_antisym : (a b : List ℕ) → divides a b ≡ true → divides b a ≡ true → a ≡ b
divides_antisym [] [] h k = refl
divides_antisym [] (y ∷ ys) h k = absurd (false≢true k)
divides_antisym (x ∷ xs) [] h k = absurd (false≢true h)
divides_antisym (x ∷ xs) (y ∷ ys) h k =
    let p = split x y xs ys h in
    let q = split y x ys xs k in
    let e : x ≡ y = omega arith in
    let f : xs ≡ ys = divides_antisym xs ys p.rest q.rest in
    cc

pub one_divides : (m : ℕ) (a : List ℕ) → length a ≡ m → divides (one m) a ≡ true
one_divides zero a e = refl
one_divides (suc m) [] e = absurd (omega arith)
one_divides (suc m) (x ∷ xs) e = join 0 x (one m) xs (omega arith) (one_divides m xs (suc_inj e))

pub divides_one : (m : ℕ) (a : List ℕ) → length a ≡ m → divides a (one m) ≡ true → a ≡ one m
divides_one m a e h = divides_antisym a (one m) h (one_divides m a e)

pub divides_times_variable : (k : ℕ) (a : List ℕ) → divides a (times_variable k a) ≡ true
divides_times_variable k [] = refl
divides_times_variable zero (x ∷ xs) = join x (x + 1) xs xs (omega arith) (divides_refl xs)
divides_times_variable (suc k) (x ∷ xs) = join x x xs (times_variable k xs) (omega arith) (divides_times_variable k xs)

-- the quotient
abbrev pub quotient : List ℕ → List ℕ → List ℕ
quotient [] a = []
quotient (y ∷ ys) [] = y ∷ ys
quotient (y ∷ ys) (x ∷ xs) = (y - x) ∷ quotient ys xs

pub length_quotient : (b a : List ℕ) → length (quotient b a) ≡ length b
length_quotient [] a = refl
length_quotient (y ∷ ys) [] = refl
length_quotient (y ∷ ys) (x ∷ xs) = ap suc (length_quotient ys xs)

pub quotient_product : (b a : List ℕ) → divides a b ≡ true → product (quotient b a) a ≡ b
quotient_product [] [] h = refl
quotient_product [] (x ∷ xs) h = absurd (false≢true h)
quotient_product (y ∷ ys) [] h = refl
quotient_product (y ∷ ys) (x ∷ xs) h =
    let p = split x y xs ys h in
    let e : y - x + x ≡ y = omega arith in
    rw (e, quotient_product ys xs p.rest)

-- a proper multiple b of a is reached by one variable from below, from x_(k+1) a, and from above, from c with b = x_(k+1) c
abbrev pub Step : List ℕ → List ℕ → Type 0
Step a b =
    (k : ℕ) × (c : List ℕ) × (k < length a) × (length c ≡ length a) × (b ≡ times_variable k c) × (divides a c ≡ true) × (divides (times_variable k a) b ≡ true)

pub step : (a b : List ℕ) → length a ≡ length b → divides a b ≡ true → ¬ (a ≡ b) → Step a b
step [] [] l h ne = absurd (ne refl)
step [] (y ∷ ys) l h ne = absurd (omega arith)
step (x ∷ xs) [] l h ne = absurd (false≢true h)
step (x ∷ xs) (y ∷ ys) l h ne = go (ℕ_discrete x y) (step xs ys (suc_inj l) d.rest)
  where
    d : Divides x y xs ys
    d = split x y xs ys h

    go : Dec (x ≡ y) → (¬ (xs ≡ ys) → Step xs ys) → Step (x ∷ xs) (y ∷ ys)
    go (yes e) ih =
        let r = ih (λ q. ne (cc)) in
        let k = r.0 in (
          suc k,
          y ∷ r.1,
          suc-le-suc r.2,
          ap suc r.3,
          ap (λ (t : List ℕ). y ∷ t) r.4,
          join x y xs r.1 d.first r.5,
          join x y (times_variable k xs) ys d.first r.6,
        )
    go (no n) ih =
        let h : x < y = omega (arith, d.first) in
        let e : y - 1 + 1 ≡ y = omega arith in (
          0,
          (y - 1) ∷ ys,
          omega arith,
          sym l,
          rw e,
          join x (y - 1) xs ys (omega arith) d.rest,
          join (x + 1) y xs ys (omega arith) d.rest,
        )

-- nothing is between a and x_(k+1) a
pub gap : (k : ℕ) (a b : List ℕ) → length a ≡ length b → divides a b ≡ true → divides b (times_variable k a) ≡ true → (b ≡ a) ⊎ (b ≡ times_variable k a)
gap k [] [] e h g = inl refl
gap k [] (y ∷ ys) e h g = absurd (omega arith)
gap k (x ∷ xs) [] e h g = absurd (omega arith)
gap zero (x ∷ xs) (y ∷ ys) e h g = go (ℕ_discrete x y)
  where
    tails : xs ≡ ys
    tails = divides_antisym xs ys (split x y xs ys h).rest (split y (x + 1) ys xs g).rest

    go : Dec (x ≡ y) → (y ∷ ys ≡ x ∷ xs) ⊎ (y ∷ ys ≡ (x + 1) ∷ xs)
    go (yes e) = inl (cc tails)
    go (no e) = let f : y ≡ x + 1 = omega (arith, (split x y xs ys h).first, (split y (x + 1) ys xs g).first) in inr (cc tails)
gap (suc k) (x ∷ xs) (y ∷ ys) e h g = go (gap k xs ys (suc_inj e) (split x y xs ys h).rest (split y x ys (times_variable k xs) g).rest)
  where
    heads : y ≡ x
    heads = omega (arith, (split x y xs ys h).first, (split y x ys (times_variable k xs) g).first)

    go : (ys ≡ xs) ⊎ (ys ≡ times_variable k xs) → (y ∷ ys ≡ x ∷ xs) ⊎ (y ∷ ys ≡ x ∷ times_variable k xs)
    go (inl f) = inl (cc heads)
    go (inr f) = inr (cc heads)
