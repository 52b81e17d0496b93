-- The digits at the front, found and read at once.
use mathlib.Core.Path.{◌≡◌, refl, sym, ◌∙◌, subst}
use mathlib.Core.Bool.{true}
use mathlib.Core.List.{List}
use mathlib.Core.Option.{some}
use Prim.Native.Nat.{ℕ, zero, suc, ◌+◌, ◌*◌, ◌-◌, ◌<◌, ◌≤◌}
use native.Mathlib.Numerals.{add-one}
use native.Mathlib.Omega.{arith}
use lib.ListN.{length, get_or, take, drop}
use lib.Seq.{drop-cons, length-take-le}
use lib.Dec.{eqb-suc-zero}
use Rattle.std.specs.Prelude.{Option as Answer, None}
use Rattle.notation.specs.Digits.{is_digit, digits_from}
use Rattle.notation.specs.Fields.{front}
use Rattle.notation.specs.Said.{leading_of, leading_said, LeadingRead}
use Rattle.notation.specs.declared.digits.Leading.{Leading}
use Rattle.notation.proofs.digits.NumberDigits.{number_none, number_long, number_few}
use Rattle.notation.proofs.fields.FieldSpans.{front_le}
use Rattle.notation.proofs.Numbers.{leading_says}

abbrev pub digits : List ℕ → List ℕ
digits l = take (front is_digit l) l

pub digits_count : (t : List ℕ) → length (digits t) ≡ front is_digit t
digits_count t = length-take-le (front is_digit t) t (front_le is_digit t)

-- one of them, and none
module _ (t : List ℕ) (v i : ℕ) where
  pub digits_next : i < length t → is_digit (get_or t i 0) ≡ true → digits_from (10 * v + (get_or t i 0 - 48)) (digits (drop (i + 1) t)) ≡ digits_from v (digits (drop i t))
  unfolding front digits_from
  digits_next h e = rw (add-one, drop-cons t i 0 h) (simp e)

  digits_over : i ≡ i + front is_digit (drop i t) → digits_from v (digits (drop i t)) ≡ some v
  unfolding digits_from
  digits_over e = let z : front is_digit (drop i t) ≡ 0 = omega (arith, e) in rw z refl

-- all of them, at most three, and more than three
leading_read : (t : List ℕ) (v i : ℕ) → i ≤ 3 → i ≡ front is_digit t → digits_from 0 (digits t) ≡ some v → LeadingRead t (leading_of v i)
unfolding leading_of leading_said
leading_read t v zero h e d = leading_says (sym (number_none (digits t) (omega (arith, digits_count t, e)))) tt
leading_read t v (suc i) h e d =
    rw (eqb-suc-zero i) (leading_says (sym d ∙ number_few (digits t) (omega (arith, digits_count t, e)) (omega (arith, digits_count t, e, h))) e)

pub leading_done : (t : List ℕ) (v i : ℕ) → i ≤ 3 → i ≡ i + front is_digit (drop i t) → i + front is_digit (drop i t) ≡ front is_digit t
    → digits_from v (digits (drop i t)) ≡ digits_from 0 (digits t) → {r : Answer Leading} → r ≡ leading_of v i → LeadingRead t r
leading_done t v i h e f d g = subst (LeadingRead t) (sym g) (leading_read t v i h (e ∙ f) (sym d ∙ digits_over t v i e))

pub leading_long : (t : List ℕ) → 3 < front is_digit t → LeadingRead t None
unfolding leading_said
leading_long t h = leading_says (sym (number_long (digits t) (omega (arith, digits_count t, h)))) tt
