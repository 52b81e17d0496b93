-- One to three digits.
use mathlib.Core.Path.{◌≡◌, refl, ap, ◌∙◌}
use mathlib.Core.Bool.{Bool, true, false, ◌&&◌}
use mathlib.Core.List.{List}
use mathlib.Core.Option.{none}
use Prim.Native.Nat.{ℕ, zero, suc, ◌+◌, ◌*◌, ◌^◌, ◌<◌, ◌≤◌}
use native.Mathlib.Nat.{pow-suc}
use native.Mathlib.Numerals.{add-one}
use native.Mathlib.Omega.{arith}
use lib.ListN.{length}
use lib.Dec.{leb}
use borrow.Author.Tests.{lt-leb, le-leb, leb-true}
use Rattle.notation.specs.Digits.{is_digit, digits_from, decimal_number}

-- powers of ten
pub tens : (i : ℕ) → 10 ^ (i + 1) ≡ 10 ^ i * 10
tens i = ap (λ (k : ℕ). 10 ^ k) (add-one i) ∙ pow-suc 10 i

pub hundred : (i : ℕ) → i < 3 → 10 ^ i ≤ 100
hundred zero h = omega arith
hundred (suc zero) h = omega arith
hundred (suc (suc zero)) h = omega arith
hundred (suc (suc (suc i))) h = absurd (omega arith)

both : (a b : Bool) → a && b ≡ true → (a ≡ true) × (b ≡ true)
both true b h = (refl, h)
both false b h = let z : ◌≡◌ {A = ℕ} 0 1 = cc in absurd (omega arith)

pub digit_range : (b : ℕ) → is_digit b ≡ true → (48 ≤ b) × (b ≤ 57)
unfolding is_digit
digit_range b h = let p = both (leb 48 b) (leb b 57) h in (leb-true 48 b p.0, leb-true b 57 p.1)

-- one to three digits
module _ (t : List ℕ) where
  pub number_none : length t < 1 → decimal_number t ≡ none
  unfolding decimal_number
  number_none h = simp (lt-leb 1 (length t) h)

  pub number_long : 3 < length t → decimal_number t ≡ none
  unfolding decimal_number
  number_long h =
      let k : 1 ≤ length t = omega arith in
      simp (le-leb 1 (length t) k, lt-leb (length t) 3 h)

  pub number_few : 1 ≤ length t → length t ≤ 3 → digits_from 0 t ≡ decimal_number t
  unfolding decimal_number
  number_few h k = simp (le-leb 1 (length t) h, le-leb (length t) 3 k)
