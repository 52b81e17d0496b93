-- Products of monomials, and products by one variable.
use mathlib.Core.Path.{◌≡◌, refl, sym, ap, ◌∙◌}
use mathlib.Core.List.{List, [], ◌∷◌}
use Prim.Native.Nat.{ℕ, zero, suc, ◌+◌, ◌<◌, ◌≤◌}
use native.Mathlib.Nat.{zero-add, add-zero, add_comm, suc_inj}
use native.Mathlib.Omega.{arith}
use lib.ListN.{length, length-replicate, length-set, get_or}
use lib.Seq.{get_or-set_same}
use Rattle.monomial.specs.Monomial.{degree, one, product, times_variable}

-- two lists of one length
pub data Aligned : List ℕ → List ℕ → Type 0 where
  nil : Aligned [] []
  cons : {x y : ℕ} {xs ys : List ℕ} → Aligned xs ys → Aligned (x ∷ xs) (y ∷ ys)

pub aligned : (a b : List ℕ) → length a ≡ length b → Aligned a b
aligned [] [] e = nil
aligned [] (y ∷ ys) e = absurd (omega arith)
aligned (x ∷ xs) [] e = absurd (omega arith)
aligned (x ∷ xs) (y ∷ ys) e = cons (aligned xs ys (suc_inj e))

pub aligned_length : {a b : List ℕ} → Aligned a b → length a ≡ length b
aligned_length nil = refl
aligned_length (cons e) = ap suc (aligned_length e)

-- a product is as long as its factors
pub product_aligned : {a b : List ℕ} (u : List ℕ) → Aligned a b → Aligned (product u a) (product u b)
product_aligned [] e = e
product_aligned (z ∷ zs) nil = aligned (z ∷ zs) (z ∷ zs) refl
product_aligned (z ∷ zs) (cons e) = cons (product_aligned zs e)

pub grow_aligned : {u a : List ℕ} → Aligned u a → Aligned a (product u a)
grow_aligned nil = nil
grow_aligned (cons e) = cons (grow_aligned e)

-- the degree of a product, whatever the lengths
pub degree_product : (a b : List ℕ) → degree (product a b) ≡ degree a + degree b
degree_product [] b = sym (zero-add _)
degree_product (x ∷ xs) [] = sym (add-zero _)
degree_product (x ∷ xs) (y ∷ ys) = omega (arith, degree_product xs ys)

-- 1 changes nothing
pub one_product : (a : List ℕ) → product (one (length a)) a ≡ a
one_product [] = refl
one_product (x ∷ xs) = rw (zero-add x, one_product xs)

-- a product by a variable is a product
pub variable_product : (k : ℕ) (a : List ℕ) → product (times_variable k (one (length a))) a ≡ times_variable k a
variable_product k [] = refl
variable_product zero (x ∷ xs) = rw (one_product xs, add_comm 1 x)
variable_product (suc k) (x ∷ xs) = rw (zero-add x, variable_product k xs)

pub length_times_variable : (k : ℕ) (a : List ℕ) → length (times_variable k a) ≡ length a
length_times_variable k a = length-set a k (get_or a k 0 + 1)

pub length_variable : (k m : ℕ) → length (times_variable k (one m)) ≡ m
length_variable k m = simp (length-set, length-replicate)

pub times_variable_differs : (k : ℕ) (a : List ℕ) → k < length a → a ≡ times_variable k a → ⊥
times_variable_differs k a h e =
    let f : get_or a k 0 ≡ get_or a k 0 + 1 = ap (λ (l : List ℕ). get_or l k 0) e ∙ get_or-set_same a k (get_or a k 0 + 1) 0 h in
    omega arith

-- exponents and degrees
pub degree_times_variable : (k : ℕ) (a : List ℕ) → k < length a → degree (times_variable k a) ≡ suc (degree a)
degree_times_variable k [] h = absurd (omega arith)
degree_times_variable zero (y ∷ a) h = omega arith
degree_times_variable (suc k) (y ∷ a) h = omega (arith, degree_times_variable k a (omega arith))

pub exponent_degree : (a : List ℕ) (i : ℕ) → get_or a i 0 ≤ degree a
exponent_degree [] i = omega arith
exponent_degree (y ∷ a) zero = omega arith
exponent_degree (y ∷ a) (suc i) = omega (arith, exponent_degree a i)
