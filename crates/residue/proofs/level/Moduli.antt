-- The moduli: a fact of each of them, or of each number below a bound, from one computed test; a search for one along the list.
use mathlib.Core.Path.{◌≡◌, refl, sym, subst}
use mathlib.Core.Bool.{Bool, true, false, ◌&&◌, ◌||◌}
use mathlib.Core.List.{List, [], ◌∷◌}
use mathlib.Core.Logic.{inl, inr}
use Prim.Native.Nat.{ℕ, zero, suc, ◌+◌, ◌≤◌, ◌<◌}
use native.Mathlib.Nat.{not-suc-le-zero}
use native.Mathlib.Numerals.{add-one}
use native.Mathlib.Omega.{arith}
use native.Mathlib.Decide.{ℕ_discrete}
use lib.Dec.{T, leb, eqb, leb→le}
use lib.ListN.{length, get_or, drop, drop_of_length-le}
use lib.Seq.{drop-cons}
use borrow.Author.Tests.{eqb-true, eq-eqb, ne_eqb}
use Rattle.residue.specs.Lists.{Among}
use Rattle.residue.specs.Modulus.{primes, is_one_of, is_modulus}
use Rattle.residue.proofs.Tests.{and_left, and_right}

-- f at each number below n
abbrev pub below : (ℕ → Bool) → ℕ → Bool
below f zero = true
below f (suc n) = f n && below f n

pub below_at : (f : ℕ → Bool) (n : ℕ) → T (below f n) → (k : ℕ) → k < n → T (f k)
below_at f zero t k h = absurd (not-suc-le-zero h)
below_at f (suc n) t k h = pick (ℕ_discrete k n) (below_at f n (and_right (f n) (below f n) t) k)
  where
    pick : Dec (k ≡ n) → (k < n → T (f k)) → T (f k)
    pick (yes e) g = subst (λ (m : ℕ). T (f m)) (sym e) (and_left (f n) (below f n) t)
    pick (no e) g = g (omega (arith, e))

-- f at each number of a list
abbrev pub each : (ℕ → Bool) → List ℕ → Bool
each f [] = true
each f (q ∷ qs) = f q && each f qs

pub each_at : (f : ℕ → Bool) (qs : List ℕ) → T (each f qs) → (p : ℕ) → Among p qs → T (f p)
each_at f (q ∷ qs) t p (inl e) = subst (λ (m : ℕ). T (f m)) (sym e) (and_left (f q) (each f qs) t)
each_at f (q ∷ qs) t p (inr m) = each_at f qs (and_right (f q) (each f qs) t) p m
each_at f [] t p x'' = elim x'' [ ]

pub among : (qs : List ℕ) (p : ℕ) → is_one_of qs p ≡ true → Among p qs
unfolding is_one_of
among [] p h = let e : false ≡ true = h in let z : ◌≡◌ {A = ℕ} 0 1 = cc in absurd (omega arith)
among (q ∷ qs) p h = pick (eqb p q) refl (among qs p)
  where
    pick : (b : Bool) → eqb p q ≡ b → (is_one_of qs p ≡ true → Among p qs) → Among p (q ∷ qs)
    pick true e g = inl (eqb-true p q e)
    pick false e g = inr (g (subst (λ (b : Bool). (b || is_one_of qs p) ≡ true) e h))

-- where a member stands
pub place : (qs : List ℕ) (p : ℕ) → Among p qs → (i : ℕ) × ((i < length qs) × (get_or qs i 0 ≡ p))
place (q ∷ qs) p (inl e) = (0, (omega arith, sym e))
place (q ∷ qs) p (inr m) = let w = place qs p m in (suc w.0, (omega arith, w.1.1))
place [] p x' = elim x' [ ]

-- a fact of each modulus
pub of_modulus : (f : ℕ → Bool) → T (each f primes) → (p : ℕ) → is_modulus p ≡ true → T (f p)
unfolding is_modulus
of_modulus f t p m = each_at f primes t p (among primes p m)

pub modulus_range : (p : ℕ) → is_modulus p ≡ true → (2 ≤ p) × (p ≤ 61)
unfolding primes
modulus_range p m =
    let t : T (leb 2 p && leb p 61) = of_modulus (λ q. leb 2 q && leb q 61) tt p m in
    (leb→le 2 p (and_left (leb 2 p) (leb p 61) t), leb→le p 61 (and_right (leb 2 p) (leb p 61) t))

-- the search, from its ith number on: it ends, goes on, or has found p
module _ (qs : List ℕ) (p i : ℕ) where
  pub search_end : length qs ≤ i → is_one_of (drop i qs) p ≡ false
  unfolding is_one_of
  search_end h = rw (drop_of_length-le qs h)

  pub search_on : i < length qs → (get_or qs i 0 ≡ p → ⊥) → is_one_of (drop i qs) p ≡ is_one_of (drop (i + 1) qs) p
  unfolding is_one_of
  search_on h n = rw (add-one, drop-cons qs i 0) (simp (ne_eqb p (get_or qs i 0) (λ e. n (sym e))))

  pub search_hit : i < length qs → get_or qs i 0 ≡ p → is_one_of (drop i qs) p ≡ true
  unfolding is_one_of
  search_hit h e = rw (drop-cons qs i 0) (simp (eq-eqb p (get_or qs i 0) (sym e)))

each_get_d : (f : ℕ → Bool) (qs : List ℕ) → T (each f qs) → T (f 0) → (i : ℕ) → T (f (get_or qs i 0))
each_get_d f [] t z i = z
each_get_d f (q ∷ qs) t z zero = and_left (f q) (each f qs) t
each_get_d f (q ∷ qs) t z (suc i) = each_get_d f qs (and_right (f q) (each f qs) t) z i

pub prime_small : (i : ℕ) → get_or primes i 0 ≤ 61
unfolding primes
prime_small i = leb→le (get_or primes i 0) 61 (each_get_d (λ q. leb q 61) primes tt tt i)
