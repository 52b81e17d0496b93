-- Digits: those of a number below 256, and those at the front of a text.
use mathlib.Core.Path.{◌≡◌, refl, sym, ◌∙◌, ap}
use mathlib.Core.Bool.{Bool, true, false, cond, ◌&&◌, true≢false}
use mathlib.Core.List.{List, [], ◌∷◌, ◌++◌}
use Prim.Native.Nat.{ℕ, suc, ◌+◌, ◌/◌, ◌%◌, ◌≤◌, ◌<◌}
use native.Mathlib.Omega.{arith}
use lib.ListN.{length, take}
use lib.Dec.{T, ltb}
use borrow.Author.Tests.{lt-ltb, le-ltb, le-leb}
use Rattle.residue.specs.Lists.{every, same_list}
use Rattle.residue.proofs.level.Moduli.{below, below_at}
use Rattle.residue.proofs.bytes.Equality.{same_is}
use Rattle.notation.specs.Digits.{is_digit}
use Rattle.notation.specs.Fields.{front}
use Rattle.writing.specs.Decimal.{decimal, digits_of}

-- a text that does not begin with a digit
abbrev pub Stops : List ℕ → Type 0
Stops [] = Unit {0}
Stops (b ∷ l) = is_digit b ≡ false

-- The digits of a number below 1000.
digits : ℕ → List ℕ
digits v = cond (ltb v 10) ((48 + v) ∷ []) (cond (ltb v 100) ((48 + v / 10) ∷ (48 + v % 10) ∷ []) ((48 + v / 100) ∷ (48 + v / 10 % 10) ∷ (48 + v % 10) ∷ []))

-- each of the 256 numbers, computed
computed : T (below (λ v. same_list (decimal v) (digits v)) 256)
unfolding digits same_list decimal digits_of
computed = tt

few_digits : (v : ℕ) → v < 256 → decimal v ≡ digits v
few_digits v h = same_is (decimal v) (digits v) (below_at (λ v. same_list (decimal v) (digits v)) 256 computed v h)

pub one_digit : (v : ℕ) → v < 10 → decimal v ≡ (48 + v) ∷ []
unfolding digits
one_digit v h = few_digits v (omega arith) ∙ simp (lt-ltb v 10 h)

pub two_digits : (v : ℕ) → 10 ≤ v → v < 100 → decimal v ≡ (48 + v / 10) ∷ (48 + v % 10) ∷ []
unfolding digits
two_digits v k h = few_digits v (omega arith) ∙ simp (le-ltb v 10 k, lt-ltb v 100 h)

pub three_digits : (v : ℕ) → 100 ≤ v → v < 256 → decimal v ≡ (48 + v / 100) ∷ (48 + v / 10 % 10) ∷ (48 + v % 10) ∷ []
unfolding digits
three_digits v k h = few_digits v h ∙ (let j : 10 ≤ v = omega arith in simp (le-ltb v 10 j, le-ltb v 100 k))

pub both : {a b : Bool} → (a && b) ≡ true → (a ≡ true) × (b ≡ true)
both {a} {b} e = go a b e
  where
    go : (x y : Bool) → (x && y) ≡ true → (x ≡ true) × (y ≡ true)
    go true y h = (refl, h)
    go false y h = absurd (true≢false (sym h))

-- Digits at the front of a text.
pub front_all : (ds rest : List ℕ) → every is_digit ds ≡ true → Stops rest → front is_digit (ds ++ rest) ≡ length ds
unfolding front
front_all [] [] e h = refl
front_all [] (b ∷ rest) e h = rw h
front_all (d ∷ ds) rest e h = let p = both {a = is_digit d} {b = every is_digit ds} e in rw p.0 (ap suc (front_all ds rest p.1 h))

pub front_digits : (t : List ℕ) → every is_digit (take (front is_digit t) t) ≡ true
unfolding front
front_digits [] = refl
front_digits (b ∷ t) = pick (is_digit b) refl (front_digits t)
  where
    pick : (x : Bool) → is_digit b ≡ x → every is_digit (take (front is_digit t) t) ≡ true → every is_digit (take (cond x (suc (front is_digit t)) 0) (b ∷ t)) ≡ true
    pick true e h = rw e h
    pick false e h = refl

pub is_digit_lem : (k : ℕ) → k < 10 → is_digit (48 + k) ≡ true
unfolding is_digit
is_digit_lem k h = let i : 48 ≤ 48 + k = omega arith in let j : 48 + k ≤ 57 = omega arith in rw (le-leb 48 (48 + k) i, le-leb (48 + k) 57 j)
