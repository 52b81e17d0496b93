-- A number at a place, by the digits that `read_leading` finds there: each way that the code's reader of numbers ends.
use mathlib.Core.Path.{◌≡◌, refl, sym, subst}
use mathlib.Core.Bool.{Bool, true, false, not, cond, ◌&&◌, ◌||◌}
use mathlib.Core.List.{List}
use mathlib.Core.Option.{some}
use Prim.Native.Nat.{ℕ, ◌+◌, ◌-◌, ◌≤◌, ◌<◌}
use native.Mathlib.Omega.{arith}
use lib.ListN.{length, get_or, take, drop, length-drop, length-take}
use lib.Dec.{eqb}
use borrow.Author.Tests.{le-leb, lt-leb, eq-eqb, ne_eqb}
use Rattle.std.proofs.Common.{Option, Some, None, Result, Ok, Err}
use Rattle.std.specs.Result.{OkIff, result_ok}
use Rattle.notation.specs.Digits.{is_digit, decimal_number}
use Rattle.notation.specs.Fields.{front}
use Rattle.notation.specs.Said.{leading_said, LeadingRead}
use Rattle.notation.specs.declared.digits.Leading.{Leading}
use Rattle.notation.proofs.fields.FieldSpans.{front_le, all_behind}
use Rattle.json_text.specs.Documents.{is_byte}
use Rattle.json_text.specs.Places.{found, broken, here, number_found, number_at}
use Rattle.json_text.proofs.Numbers.{few_of}
use Rattle.json_text.proofs.Places.{here_in}

-- a number as a byte, if it is one
pub no_byte : {E : Type 0} (r : Result ℕ E) (v : ℕ) → OkIff r (v < 256) v → result_ok r ≡ None → 255 < v
no_byte (Ok x) v h e = cc
no_byte (Err d) v h e = omega (arith, h)

pub one_byte : {E : Type 0} (r : Result ℕ E) (v w : ℕ) → OkIff r (v < 256) v → result_ok r ≡ Some w → (v ≤ 255) × (w ≡ v)
one_byte (Ok x) v w h e = (omega (arith, h.0), cc)
one_byte (Err d) v w h e = cc

module _ (text : List ℕ) (at : ℕ) where
  -- what is lent of the text from the place on, and the digits there
  abbrev pub lent : List ℕ
  lent = take (length text - at) (drop at text)

  abbrev digits_at : List ℕ
  digits_at = take (front is_digit (drop at text)) (drop at text)

  there : (r : Option Leading) → LeadingRead lent r → LeadingRead (drop at text) r
  there r d = subst (λ (l : List ℕ). LeadingRead l r) (all_behind text at) d

  pub number_none : LeadingRead lent None → broken ≡ number_at text at
  unfolding number_at number_found leading_said
  number_none d = rw (sym (there None d).said)

  module _ (v count : ℕ) (d : LeadingRead lent (Some (record { size = v; count = count }))) where
    ends : count ≡ front is_digit (drop at text)
    ends = (there (Some (record { size = v; count = count })) d).ends

    said : decimal_number digits_at ≡ some v
    unfolding leading_said
    said = sym (there (Some (record { size = v; count = count })) d).said

    pub number_inside : (1 ≤ count) × (at + count ≤ length text)
    number_inside =
        let f = few_of digits_at v said in
        let l = length-take (front is_digit (drop at text)) (drop at text) in
        (omega (arith, f.0, ends), omega (arith, f.0, ends, front_le is_digit (drop at text), length-drop at text))

    byte_at : here 48 text at ≡ eqb (get_or text at 0) 48
    byte_at = here_in 48 text at (omega (arith, number_inside))

    pub number_large : 255 < v → broken ≡ number_at text at
    unfolding number_at number_found is_byte
    number_large h = rw (said, lt-leb v 255 h) (go (eqb (front is_digit (drop at text)) 1 || not (eqb (get_or text at 0) 48)))
      where
        go : (x : Bool) → broken ≡ cond (x && false) (found v (at + front is_digit (drop at text))) broken
        go true = refl
        go false = refl

    pub number_zero : (count ≡ 1 → ⊥) → here 48 text at ≡ true → broken ≡ number_at text at
    unfolding number_at number_found
    number_zero n z = rw (said, sym ends, ne_eqb count 1 n, sym byte_at, z)

    pub number_one : v ≤ 255 → count ≡ 1 → found v (at + count) ≡ number_at text at
    unfolding number_at number_found is_byte
    number_one h n = rw (said, sym ends, le-leb v 255 h, eq-eqb count 1 n)

    pub number_more : v ≤ 255 → (count ≡ 1 → ⊥) → here 48 text at ≡ false → found v (at + count) ≡ number_at text at
    unfolding number_at number_found is_byte
    number_more h n z = rw (said, sym ends, le-leb v 255 h, ne_eqb count 1 n, sym byte_at, z)
