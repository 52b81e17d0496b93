-- A monomial of m exponents and the 8 bytes that hold it, as the tables do: what holds of one holds of the other.
use mathlib.Core.Path.{◌≡◌, refl, sym, ap, ap₂, ◌∙◌}
use mathlib.Core.List.{List, [], ◌∷◌, ◌++◌}
use Prim.Native.Nat.{ℕ, zero, suc, ◌+◌, ◌-◌, ◌<◌, ◌≤◌}
use native.Mathlib.Nat.{add-zero}
use native.Mathlib.Omega.{arith}
use lib.ListN.{length, replicate, drop, get_or, get_or-append}
use lib.Seq.{set-append_left}
use Rattle.residue.specs.Layout.{fill}
use Rattle.residue.proofs.Layouts.{fill_tail}
use Rattle.monomial.specs.Monomial.{degree, one, times_variable, divides, monomial_at}
use Rattle.monomial.specs.Order.{Order, lex, grlex, grevlex, weighted, weigh, by_first, by_last, cmp}
use Rattle.monomial.proofs.Algebra.Products.{Aligned, nil, cons, aligned, aligned_length, length_times_variable}
use Rattle.monomial.proofs.Algebra.Division.{divides_refl}
use Rattle.monomial.proofs.Algebra.Values.{value_one}
use Rattle.monomial.proofs.Orders.Answers.{compare_shift}
use Rattle.monomial.proofs.Orders.Lawful.{first_lawful, last_lawful}
use Rattle.monomial.proofs.Orders.Weights.{weigh_append}

-- exponents that agree behind change nothing
first_append : {a b : List ℕ} (z : List ℕ) → Aligned a b → by_first (a ++ z) (b ++ z) ≡ by_first a b
first_append z nil = first_lawful.self z
first_append z (cons e) = rw (first_append z e)

last_append : {a b : List ℕ} (z : List ℕ) → Aligned a b → by_last (a ++ z) (b ++ z) ≡ by_last a b
last_append z nil = last_lawful.self z
last_append z (cons e) = rw (last_append z e)

pub degree_append : (a z : List ℕ) → degree (a ++ z) ≡ degree z + degree a
degree_append [] z = sym (add-zero (degree z))
degree_append (x ∷ xs) z = omega (arith, degree_append xs z)

cmp_append : (order : Order) {a b : List ℕ} (z : List ℕ) → Aligned a b → cmp order (a ++ z) (b ++ z) ≡ cmp order a b
unfolding cmp
cmp_append lex z e = first_append z e
cmp_append grlex {a} {b} z e = rw (degree_append a z, degree_append b z, compare_shift (degree z) (degree a) (degree b), first_append z e)
cmp_append grevlex {a} {b} z e = rw (degree_append a z, degree_append b z, compare_shift (degree z) (degree a) (degree b), last_append z e)
cmp_append (weighted w) {a} {b} z e =
    rw (weigh_append w a z, weigh_append w b z, aligned_length e, compare_shift (weigh (drop (length b) w) z) (weigh w a) (weigh w b), first_append z e)

divides_append : {a b : List ℕ} (z : List ℕ) → Aligned a b → divides (a ++ z) (b ++ z) ≡ divides a b
divides_append z nil = divides_refl z
divides_append z (cons {x} {y} e) = rw (divides_append z e)

value_append : {p a : List ℕ} (n : ℕ) → Aligned p a → monomial_at (p ++ replicate n 0) (a ++ replicate n 0) ≡ monomial_at p a
value_append n nil = value_one (replicate n 0) n
value_append n (cons e) = rw (value_append n e)

pub degree_one : (m : ℕ) → degree (one m) ≡ 0
degree_one zero = refl
degree_one (suc m) = omega (arith, degree_one m)

-- 8 exponents or coordinates, those above m being 0
abbrev pad : List ℕ → List ℕ
pad a = a ++ replicate (8 - length a) 0

module _ (a : List ℕ) (s : length a ≤ 8) where
  pub degree_fill : degree (fill 8 a) ≡ degree a
  degree_fill = ap degree (fill_tail 8 a s) ∙ degree_append a (replicate (8 - length a) 0) ∙ rw (degree_one (8 - length a)) (omega arith)

  -- x_(k+1) times a monomial, in its bytes
  pub fill_times_variable : (k : ℕ) → k < length a → fill 8 (times_variable k a) ≡ times_variable k (fill 8 a)
  fill_times_variable k h =
      fill_tail 8 (times_variable k a) (rw (length_times_variable k a) s) ∙ sym padded ∙ ap (λ (z : List ℕ). times_variable k z) (sym (fill_tail 8 a s))
    where
      padded : times_variable k (pad a) ≡ pad (times_variable k a)
      padded =
          rw (length_times_variable k a, get_or-append a (replicate (8 - length a) 0) 0 k h)
          (set-append_left a (replicate (8 - length a) 0) k (get_or a k 0 + 1) h)

-- two of one length
module _ (a b : List ℕ) (l : length a ≡ length b) (s : length a ≤ 8) where
  pub cmp_fill : (order : Order) → cmp order (fill 8 a) (fill 8 b) ≡ cmp order a b
  cmp_fill order = ap₂ (cmp order) (fill_tail 8 a s) (fill_tail 8 b (omega arith)) ∙ padded
    where
      padded : cmp order (pad a) (pad b) ≡ cmp order a b
      padded = rw l (cmp_append order (replicate (8 - length b) 0) (aligned a b l))

  pub divides_fill : divides (fill 8 a) (fill 8 b) ≡ divides a b
  divides_fill = ap₂ divides (fill_tail 8 a s) (fill_tail 8 b (omega arith)) ∙ padded
    where
      padded : divides (pad a) (pad b) ≡ divides a b
      padded = rw l (divides_append (replicate (8 - length b) 0) (aligned a b l))

  -- a point's coordinates are filled up as well
  pub value_fill : monomial_at (fill 8 a) (fill 8 b) ≡ monomial_at a b
  value_fill = ap₂ monomial_at (fill_tail 8 a s) (fill_tail 8 b (omega arith)) ∙ padded
    where
      padded : monomial_at (pad a) (pad b) ≡ monomial_at a b
      padded = rw l (value_append (8 - length b) (aligned a b l))
