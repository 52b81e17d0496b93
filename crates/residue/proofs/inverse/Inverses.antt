-- The table of inverses: its rule, by one computed test, and what it says of each entry.
use mathlib.Core.Path.{◌≡◌, refl, sym, subst, ap, ◌∙◌}
use mathlib.Core.Bool.{Bool, true, false, cond, ◌&&◌, ◌||◌}
use mathlib.Core.List.{List, [], ◌∷◌}
use Prim.Native.Nat.{ℕ, ◌+◌, ◌*◌, ◌%◌, ◌≤◌, ◌<◌}
use native.Mathlib.Nat.{mod-lt, mod-eq_of_lt}
use native.Mathlib.Numerals.{add-one}
use native.Mathlib.Omega.{arith}
use lib.Dec.{T, ltb, leb, eqb, eqb→eq, ltb→lt, leb→le}
use lib.ListN.{get_or, take}
use lib.Seq.{take-suc}
use borrow.Author.Tests.{lt-ltb, le-ltb, ne_eqb}
use Rattle.residue.specs.Lists.{sum_over}
use Rattle.residue.specs.Congruence.{Mod}
use Rattle.residue.specs.Modulus.{primes, is_modulus}
use Rattle.residue.specs.Inverse.{inverse_below, inverse_of}
use Rattle.residue.proofs.Congruence.{reduce, flip, rfl, ◌then◌, ◌times◌}
use Rattle.residue.proofs.Sums.{sum_append}
use Rattle.residue.proofs.Tests.{and_left, and_right}
use Rattle.residue.proofs.level.Moduli.{below, below_at, among, place, modulus_range}

abbrev pub inverses : List ℕ
inverses = 0 ∷ 1 ∷ 0 ∷ 1 ∷ 2 ∷ 0 ∷ 1 ∷ 3 ∷ 2 ∷ 4 ∷ 0 ∷ 1 ∷ 4 ∷ 5 ∷ 2 ∷ 3 ∷ 6 ∷ 0 ∷ 1 ∷ 6 ∷ 4 ∷ 3 ∷ 9 ∷ 2 ∷ 8 ∷ 7 ∷ 5 ∷ 10 ∷ 0 ∷ 1 ∷ 7 ∷ 9 ∷ 10 ∷ 8 ∷ 11 ∷ 2 ∷ 5 ∷ 3 ∷ 4 ∷ 6 ∷ 12 ∷ 0 ∷ 1 ∷ 9 ∷ 6 ∷ 13 ∷ 7 ∷ 3 ∷ 5 ∷ 15 ∷ 2 ∷ 12 ∷ 14 ∷ 10 ∷ 4 ∷ 11 ∷ 8 ∷ 16 ∷ 0 ∷ 1 ∷ 10 ∷ 13 ∷ 5 ∷ 4 ∷ 16 ∷ 11 ∷ 12 ∷ 17 ∷ 2 ∷ 7 ∷ 8 ∷ 3 ∷ 15 ∷ 14 ∷ 6 ∷ 9 ∷ 18 ∷ 0 ∷ 1 ∷ 12 ∷ 8 ∷ 6 ∷ 14 ∷ 4 ∷ 10 ∷ 3 ∷ 18 ∷ 7 ∷ 21 ∷ 2 ∷ 16 ∷ 5 ∷ 20 ∷ 13 ∷ 19 ∷ 9 ∷ 17 ∷ 15 ∷ 11 ∷ 22 ∷ 0 ∷ 1 ∷ 15 ∷ 10 ∷ 22 ∷ 6 ∷ 5 ∷ 25 ∷ 11 ∷ 13 ∷ 3 ∷ 8 ∷ 17 ∷ 9 ∷ 27 ∷ 2 ∷ 20 ∷ 12 ∷ 21 ∷ 26 ∷ 16 ∷ 18 ∷ 4 ∷ 24 ∷ 23 ∷ 7 ∷ 19 ∷ 14 ∷ 28 ∷ 0 ∷ 1 ∷ 16 ∷ 21 ∷ 8 ∷ 25 ∷ 26 ∷ 9 ∷ 4 ∷ 7 ∷ 28 ∷ 17 ∷ 13 ∷ 12 ∷ 20 ∷ 29 ∷ 2 ∷ 11 ∷ 19 ∷ 18 ∷ 14 ∷ 3 ∷ 24 ∷ 27 ∷ 22 ∷ 5 ∷ 6 ∷ 23 ∷ 10 ∷ 15 ∷ 30 ∷ 0 ∷ 1 ∷ 19 ∷ 25 ∷ 28 ∷ 15 ∷ 31 ∷ 16 ∷ 14 ∷ 33 ∷ 26 ∷ 27 ∷ 34 ∷ 20 ∷ 8 ∷ 5 ∷ 7 ∷ 24 ∷ 35 ∷ 2 ∷ 13 ∷ 30 ∷ 32 ∷ 29 ∷ 17 ∷ 3 ∷ 10 ∷ 11 ∷ 4 ∷ 23 ∷ 21 ∷ 6 ∷ 22 ∷ 9 ∷ 12 ∷ 18 ∷ 36 ∷ 0 ∷ 1 ∷ 21 ∷ 14 ∷ 31 ∷ 33 ∷ 7 ∷ 6 ∷ 36 ∷ 32 ∷ 37 ∷ 15 ∷ 24 ∷ 19 ∷ 3 ∷ 11 ∷ 18 ∷ 29 ∷ 16 ∷ 13 ∷ 39 ∷ 2 ∷ 28 ∷ 25 ∷ 12 ∷ 23 ∷ 30 ∷ 38 ∷ 22 ∷ 17 ∷ 26 ∷ 4 ∷ 9 ∷ 5 ∷ 35 ∷ 34 ∷ 8 ∷ 10 ∷ 27 ∷ 20 ∷ 40 ∷ 0 ∷ 1 ∷ 22 ∷ 29 ∷ 11 ∷ 26 ∷ 36 ∷ 37 ∷ 27 ∷ 24 ∷ 13 ∷ 4 ∷ 18 ∷ 10 ∷ 40 ∷ 23 ∷ 35 ∷ 38 ∷ 12 ∷ 34 ∷ 28 ∷ 41 ∷ 2 ∷ 15 ∷ 9 ∷ 31 ∷ 5 ∷ 8 ∷ 20 ∷ 3 ∷ 33 ∷ 25 ∷ 39 ∷ 30 ∷ 19 ∷ 16 ∷ 6 ∷ 7 ∷ 17 ∷ 32 ∷ 14 ∷ 21 ∷ 42 ∷ 0 ∷ 1 ∷ 24 ∷ 16 ∷ 12 ∷ 19 ∷ 8 ∷ 27 ∷ 6 ∷ 21 ∷ 33 ∷ 30 ∷ 4 ∷ 29 ∷ 37 ∷ 22 ∷ 3 ∷ 36 ∷ 34 ∷ 5 ∷ 40 ∷ 9 ∷ 15 ∷ 45 ∷ 2 ∷ 32 ∷ 38 ∷ 7 ∷ 42 ∷ 13 ∷ 11 ∷ 44 ∷ 25 ∷ 10 ∷ 18 ∷ 43 ∷ 17 ∷ 14 ∷ 26 ∷ 41 ∷ 20 ∷ 39 ∷ 28 ∷ 35 ∷ 31 ∷ 23 ∷ 46 ∷ 0 ∷ 1 ∷ 27 ∷ 18 ∷ 40 ∷ 32 ∷ 9 ∷ 38 ∷ 20 ∷ 6 ∷ 16 ∷ 29 ∷ 31 ∷ 49 ∷ 19 ∷ 46 ∷ 10 ∷ 25 ∷ 3 ∷ 14 ∷ 8 ∷ 48 ∷ 41 ∷ 30 ∷ 42 ∷ 17 ∷ 51 ∷ 2 ∷ 36 ∷ 11 ∷ 23 ∷ 12 ∷ 5 ∷ 45 ∷ 39 ∷ 50 ∷ 28 ∷ 43 ∷ 7 ∷ 34 ∷ 4 ∷ 22 ∷ 24 ∷ 37 ∷ 47 ∷ 33 ∷ 15 ∷ 44 ∷ 21 ∷ 13 ∷ 35 ∷ 26 ∷ 52 ∷ 0 ∷ 1 ∷ 30 ∷ 20 ∷ 15 ∷ 12 ∷ 10 ∷ 17 ∷ 37 ∷ 46 ∷ 6 ∷ 43 ∷ 5 ∷ 50 ∷ 38 ∷ 4 ∷ 48 ∷ 7 ∷ 23 ∷ 28 ∷ 3 ∷ 45 ∷ 51 ∷ 18 ∷ 32 ∷ 26 ∷ 25 ∷ 35 ∷ 19 ∷ 57 ∷ 2 ∷ 40 ∷ 24 ∷ 34 ∷ 33 ∷ 27 ∷ 41 ∷ 8 ∷ 14 ∷ 56 ∷ 31 ∷ 36 ∷ 52 ∷ 11 ∷ 55 ∷ 21 ∷ 9 ∷ 54 ∷ 16 ∷ 53 ∷ 13 ∷ 22 ∷ 42 ∷ 49 ∷ 47 ∷ 44 ∷ 39 ∷ 29 ∷ 58 ∷ 0 ∷ 1 ∷ 31 ∷ 41 ∷ 46 ∷ 49 ∷ 51 ∷ 35 ∷ 23 ∷ 34 ∷ 55 ∷ 50 ∷ 56 ∷ 47 ∷ 48 ∷ 57 ∷ 42 ∷ 18 ∷ 17 ∷ 45 ∷ 58 ∷ 32 ∷ 25 ∷ 8 ∷ 28 ∷ 22 ∷ 54 ∷ 52 ∷ 24 ∷ 40 ∷ 59 ∷ 2 ∷ 21 ∷ 37 ∷ 9 ∷ 7 ∷ 39 ∷ 33 ∷ 53 ∷ 36 ∷ 29 ∷ 3 ∷ 16 ∷ 44 ∷ 43 ∷ 19 ∷ 4 ∷ 13 ∷ 14 ∷ 5 ∷ 11 ∷ 6 ∷ 27 ∷ 38 ∷ 26 ∷ 10 ∷ 12 ∷ 15 ∷ 20 ∷ 30 ∷ 60 ∷ []

-- where the inverses of the ith prime start
abbrev pub start : ℕ → ℕ
start i = sum_over (λ q. q) (take i primes)

-- what the entry e of the residue x of p is to be: the inverse, a residue, and but for 0 its product with x is 1
abbrev right_entry : ℕ → ℕ → ℕ → Bool
right_entry p x e = eqb e (inverse_below p x p) && (ltb e p && (eqb x 0 || eqb ((x * e) % p) 1))

abbrev rule : ℕ → ℕ → Bool
rule i x = ltb (start i + x) 501 && right_entry (get_or primes i 0) x (get_or inverses (start i + x) 0)

ruled : (i x : ℕ) → i < 18 → x < get_or primes i 0 → T (rule i x)
unfolding primes inverse_below
ruled i x hi hx = below_at (rule i) (get_or primes i 0) (below_at (λ i. below (rule i) (get_or primes i 0)) 18 tt i hi) x hx

pub start_small : (i : ℕ) → i ≤ 18 → start i ≤ 501
unfolding primes
start_small i h = leb→le (start i) 501 (below_at (λ i. leb (start i) 501) 19 tt i (omega arith))

pub start_more : (i : ℕ) → i < 18 → start (i + 1) ≡ start i + get_or primes i 0
unfolding primes
start_more i h =
    let e = sum_append (λ (q : ℕ). q) (take i primes) (get_or primes i 0 ∷ []) in
    ap start (add-one i) ∙ ap (sum_over (λ q. q)) (take-suc primes i 0 h) ∙ omega arith

-- the facts of the entry of x, where p is the ith prime
module _ (i p x : ℕ) (hi : i < 18) (e : get_or primes i 0 ≡ p) (hx : x < p) where
  abbrev entry : ℕ
  entry = get_or inverses (start i + x) 0

  here : T (ltb (start i + x) 501 && right_entry p x entry)
  here = subst (λ (q : ℕ). T (ltb (start i + x) 501 && right_entry q x entry)) e (ruled i x hi (rw e hx))

  pub inside : start i + x < 501
  inside = ltb→lt (start i + x) 501 (and_left (ltb (start i + x) 501) _ here)

  entry_right : T (right_entry p x entry)
  entry_right = and_right (ltb (start i + x) 501) _ here

  pub entry_is : entry ≡ inverse_below p x p
  entry_is = eqb→eq entry (inverse_below p x p) (and_left (eqb entry (inverse_below p x p)) _ entry_right)

  entry_rest : T (ltb entry p && (eqb x 0 || eqb ((x * entry) % p) 1))
  entry_rest = and_right (eqb entry (inverse_below p x p)) _ entry_right

  pub entry_below : entry < p
  entry_below = ltb→lt entry p (and_left (ltb entry p) _ entry_rest)

  pub entry_product : 0 < x → (x * entry) % p ≡ 1
  entry_product h =
      eqb→eq ((x * entry) % p) 1
      (subst (λ (b : Bool). T (b || eqb ((x * entry) % p) 1)) (ne_eqb x 0 (λ z. omega arith)) (and_right (ltb entry p) _ entry_rest))

-- the inverse of a residue of a modulus
module _ (p x : ℕ) (m : is_modulus p ≡ true) (hx : x < p) where
  pub inverse_is : inverse_of p x ≡ inverse_below p x p
  unfolding inverse_of
  inverse_is = simp (m, lt-ltb x p hx)

  pub inverse_below_lem : inverse_of p x < p
  unfolding is_modulus primes
  inverse_below_lem = let w = place primes p (among primes p m) in rw (inverse_is, ← entry_is w.0 p x w.1.0 w.1.1 hx) (entry_below w.0 p x w.1.0 w.1.1 hx)

  pub inverse_product : 0 < x → (x * inverse_of p x) % p ≡ 1
  unfolding is_modulus primes
  inverse_product h =
      let w = place primes p (among primes p m) in
      rw (inverse_is, ← entry_is w.0 p x w.1.0 w.1.1 hx) (entry_product w.0 p x w.1.0 w.1.1 hx h)

pub no_modulus : (p x : ℕ) → is_modulus p ≡ false → inverse_of p x ≡ 0
unfolding inverse_of
no_modulus p x e = simp e

pub no_residue : (p x : ℕ) → p ≤ x → inverse_of p x ≡ 0
unfolding inverse_of
no_residue p x h = pick (is_modulus p)
  where
    pick : (b : Bool) → cond (b && ltb x p) (inverse_below p x p) 0 ≡ 0
    pick true = simp (le-ltb x p h)
    pick false = refl

-- over numbers that are not reduced
pub one_not_zero : (p : ℕ) → is_modulus p ≡ true → Mod p 1 0 → ⊥
one_not_zero p m h =
    let r = modulus_range p m in
    let one : 1 % p ≡ 1 = mod-eq_of_lt (omega arith) in
    let none : 0 % p ≡ 0 = mod-eq_of_lt (omega arith) in
    let z : ◌≡◌ {A = ℕ} 1 0 = sym one ∙ h.same ∙ none in
    omega arith

pub inverse_mod : (p a : ℕ) → is_modulus p ≡ true → (Mod p a 0 → ⊥) → Mod p (a * inverse_of p (a % p)) 1
inverse_mod p a m n =
    let r = modulus_range p m in
    let l : a % p < p = mod-lt a (omega arith) in
    let none : 0 % p ≡ 0 = mod-eq_of_lt (omega arith) in
    let one : 1 % p ≡ 1 = mod-eq_of_lt (omega arith) in
    let f : a % p ≡ 0 → ⊥ = λ e. n (record { same = e ∙ sym none }) in
    let g : 0 < a % p = omega (arith, f) in
    flip (reduce p a) times rfl {x = inverse_of p (a % p)} then record { same = inverse_product p (a % p) m l g ∙ sym one }
