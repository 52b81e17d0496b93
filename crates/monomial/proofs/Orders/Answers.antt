-- What the native comparison of numbers says, and what becomes of two answers, the second asked where the first finds no difference.
use mathlib.Core.Path.{◌≡◌, refl, sym, ap}
use mathlib.Core.Logic.{◌⊎◌, inl, inr}
use Prim.Native.Nat.compare
use Prim.Native.Nat.{ℕ, zero, suc, ◌+◌, ◌<◌, zero-le, suc-le-suc, compare, Ordering}
use native.Mathlib.Omega.{arith}
use Rattle.monomial.specs.Order.{and_then}

pub lt≢eq : Ordering.lt ≡ Ordering.eq → ⊥
lt≢eq e = let z : ◌≡◌ {A = ℕ} 0 1 = cc in omega arith

pub gt≢eq : Ordering.gt ≡ Ordering.eq → ⊥
gt≢eq e = let z : ◌≡◌ {A = ℕ} 0 1 = cc in omega arith

pub gt≢lt : Ordering.gt ≡ Ordering.lt → ⊥
gt≢lt e = let z : ◌≡◌ {A = ℕ} 0 1 = cc in omega arith

-- what an answer says of the two numbers
pub data Says (m n : ℕ) : Ordering → Type 0 where
  less : m < n → Says m n Ordering.lt
  same : m ≡ n → Says m n Ordering.eq
  more : n < m → Says m n Ordering.gt

pub says : (m n : ℕ) → Says m n (compare m n)
says zero zero = rw compare.zero-zero (same refl)
says zero (suc n) = rw compare.zero-suc (less (suc-le-suc zero-le))
says (suc m) zero = rw compare.suc-zero (more (suc-le-suc zero-le))
says (suc m) (suc n) = rw compare.suc-suc (next (says m n))
  where
    next : {o : Ordering} → Says m n o → Says (suc m) (suc n) o
    next (less h) = less (suc-le-suc h)
    next (same h) = same (ap suc h)
    next (more h) = more (suc-le-suc h)

-- no two answers at once
pub said : {m n : ℕ} {o : Ordering} → Says m n o → compare m n ≡ o
said {m} {n} s = go (says m n) s
  where
    go : {o p : Ordering} → Says m n o → Says m n p → o ≡ p
    go (less h) (less k) = refl
    go (less h) (same k) = absurd (omega arith)
    go (less h) (more k) = absurd (omega arith)
    go (same h) (less k) = absurd (omega arith)
    go (same h) (same k) = refl
    go (same h) (more k) = absurd (omega arith)
    go (more h) (less k) = absurd (omega arith)
    go (more h) (same k) = absurd (omega arith)
    go (more h) (more k) = refl

pub compare_self : (n : ℕ) → compare n n ≡ Ordering.eq
compare_self n = said (same refl)

pub compare_eq : (m n : ℕ) → compare m n ≡ Ordering.eq → m ≡ n
compare_eq m n e = go (says m n) e
  where
    go : {o : Ordering} → Says m n o → o ≡ Ordering.eq → m ≡ n
    go (less h) e = absurd (lt≢eq e)
    go (same h) e = h
    go (more h) e = absurd (gt≢eq e)

pub compare_lt : (m n : ℕ) → compare m n ≡ Ordering.lt → m < n
compare_lt m n e = go (says m n) e
  where
    go : {o : Ordering} → Says m n o → o ≡ Ordering.lt → m < n
    go (less h) e = h
    go (same h) e = absurd (lt≢eq (sym e))
    go (more h) e = absurd (gt≢lt e)

-- a comparison goes by any statement that says as much of other numbers
pub same_answer : (m n i j : ℕ) → ((o : Ordering) → Says m n o → Says i j o) → compare i j ≡ compare m n
same_answer m n i j f = said (f (compare m n) (says m n))

pub compare_shift : (k m n : ℕ) → compare (k + m) (k + n) ≡ compare m n
compare_shift k m n = same_answer m n (k + m) (k + n) go
  where
    go : (o : Ordering) → Says m n o → Says (k + m) (k + n) o
    go o (less h) = less (omega arith)
    go o (same h) = same (omega arith)
    go o (more h) = more (omega arith)

-- the answer the other way round
abbrev pub turned : Ordering → Ordering
turned Ordering.lt = Ordering.gt
turned Ordering.eq = Ordering.eq
turned Ordering.gt = Ordering.lt

pub compare_swap : (m n : ℕ) → compare n m ≡ turned (compare m n)
compare_swap m n = said (go (says m n))
  where
    go : {o : Ordering} → Says m n o → Says n m (turned o)
    go (less h) = more h
    go (same h) = same (sym h)
    go (more h) = less h

-- two answers
pub then_eq : (o p : Ordering) → and_then o p ≡ Ordering.eq → (o ≡ Ordering.eq) × (p ≡ Ordering.eq)
then_eq Ordering.lt p e = absurd (lt≢eq e)
then_eq Ordering.eq p e = (refl, e)
then_eq Ordering.gt p e = absurd (gt≢eq e)

pub then_lt : (o p : Ordering) → and_then o p ≡ Ordering.lt → (o ≡ Ordering.lt) ⊎ ((o ≡ Ordering.eq) × (p ≡ Ordering.lt))
then_lt Ordering.lt p e = inl refl
then_lt Ordering.eq p e = inr (refl, e)
then_lt Ordering.gt p e = absurd (gt≢lt e)

pub then_assoc : (o p q : Ordering) → and_then (and_then o p) q ≡ and_then o (and_then p q)
then_assoc Ordering.lt p q = refl
then_assoc Ordering.eq p q = refl
then_assoc Ordering.gt p q = refl

pub then_end : (o : Ordering) → and_then o Ordering.eq ≡ o
then_end Ordering.lt = refl
then_end Ordering.eq = refl
then_end Ordering.gt = refl

pub then_turned : (o p : Ordering) → and_then (turned o) (turned p) ≡ turned (and_then o p)
then_turned Ordering.lt p = refl
then_turned Ordering.eq p = refl
then_turned Ordering.gt p = refl

-- the second answers count only where the first finds no difference
pub then_cong : (o p q : Ordering) → (o ≡ Ordering.eq → p ≡ q) → and_then o p ≡ and_then o q
then_cong Ordering.lt p q h = refl
then_cong Ordering.eq p q h = h refl
then_cong Ordering.gt p q h = refl
