-- Numbers in decimal, digit after digit.
use mathlib.Core.Path.{◌≡◌, refl, ◌∙◌, ap}
use mathlib.Core.Bool.{Bool, true, false, cond}
use mathlib.Core.List.{List, [], ◌∷◌, ◌++◌}
use Prim.Native.Nat.{ℕ, zero, suc, ◌+◌, ◌/◌, ◌%◌, ◌<◌, ◌≤◌}
use native.Mathlib.Nat.{not-suc-le-zero}
use native.Mathlib.Omega.{arith}
use lib.Dec.{ltb}
use borrow.Author.Tests.{ltb-false, lt-ltb, le-ltb}
use Rattle.writing.specs.Decimal.{digits_of, decimal}

-- any number of turns above the number
enough : (k j n : ℕ) → n < k → n < j → digits_of k n ≡ digits_of j n
unfolding digits_of
enough zero j n h i = absurd (not-suc-le-zero h)
enough (suc k) zero n h i = absurd (not-suc-le-zero i)
enough (suc k) (suc j) n h i = pick (ltb n 10) refl (λ m. enough k j m)
  where
    pick : (b : Bool) → ltb n 10 ≡ b → ((m : ℕ) → m < k → m < j → digits_of k m ≡ digits_of j m)
        → cond b ((48 + n) ∷ []) (digits_of k (n / 10) ++ ((48 + n % 10) ∷ [])) ≡ cond b ((48 + n) ∷ []) (digits_of j (n / 10) ++ ((48 + n % 10) ∷ []))
    pick true e rec = refl
    pick false e rec =
        let t = ltb-false n 10 e in
        ap (λ (z : List ℕ). z ++ ((48 + n % 10) ∷ [])) (rec (n / 10) (omega arith) (omega arith))

pub decimal_digit : (n : ℕ) → n < 10 → (48 + n) ∷ [] ≡ decimal n
unfolding decimal digits_of
decimal_digit n h = simp (lt-ltb n 10 h)

pub decimal_more : (n : ℕ) → 10 ≤ n → decimal (n / 10) ++ ((48 + n % 10) ∷ []) ≡ decimal n
unfolding decimal digits_of
decimal_more n h =
    ap (λ (z : List ℕ). z ++ ((48 + n % 10) ∷ [])) (enough (suc (n / 10)) n (n / 10) (omega arith) (omega arith)) ∙ simp (le-ltb n 10 h)
