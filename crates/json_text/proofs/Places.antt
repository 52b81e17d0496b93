-- The reader by places is the reader of lists: what a cursor finds from a place on is what the reader takes from the text there.
use mathlib.Core.Path.{◌≡◌, refl, sym, ◌∙◌, ap, ap₂, subst}
use mathlib.Core.Bool.{Bool, true, false, cond, not, ◌&&◌, ◌||◌}
use mathlib.Core.List.{List, [], ◌∷◌}
use mathlib.Core.Option.{Option, some, none}
use Prim.Native.Nat.{ℕ, suc, ◌+◌, ◌≤◌, ◌<◌}
use native.Mathlib.Decide.{dec_lt}
use native.Mathlib.Nat.{add-zero}
use native.Mathlib.Omega.{arith}
use lib.ListN.{length, get_or, take, drop, drop_of_length-le, length-drop}
use lib.Seq.{drop-cons, drop-drop, get_or-drop}
use lib.Dec.{eqb, ltb}
use borrow.Author.Tests.{lt-ltb, le-ltb, ltb-true, eq-eqb, ne_eqb, eqb-true, eqb-false}
use Rattle.std.specs.List.{starts_with}
use Rattle.notation.specs.Digits.{is_digit, decimal_number}
use Rattle.notation.specs.Fields.{Part, faulty, front}
use Rattle.notation.proofs.fields.FieldSpans.{front_le}
use Rattle.json_text.proofs.Digits.{both}
use Rattle.json_text.specs.Reading.{Reader, after, exactly, number_said, read_number}
use Rattle.json_text.specs.Documents.{is_byte}
use Rattle.json_text.specs.Places.{Found, found, broken, Cursor, seen, Inside, after_at, here, exactly_at, number_found, number_at}

-- a cursor that finds what a reader takes
pub record Placed {A : Type 0} (r : Reader A) (q : Cursor A) : Type 0 where
  pub said : (text : List ℕ) (at : ℕ) → at ≤ length text → seen text (q text at) ≡ r (drop at text)
  pub inside : (text : List ℕ) (at : ℕ) → at ≤ length text → Inside (length text) (q text at)

-- the place behind what was found
pub found_inside : {A : Type 0} {r : Reader A} {q : Cursor A} → Placed r q → {text : List ℕ} {at : ℕ} {a : A} {next : ℕ}
    → at ≤ length text → q text at ≡ found a next → next ≤ length text
found_inside {A = A} p {text = text} {at = at} h e = subst (λ (x : Found A). Inside (length text) x) e (p.inside text at h)

-- one behind the other
module _ {A B : Type 0} (r : Reader A) (q : Cursor A) (p : Placed r q) (f : A → Reader B) (g : A → Cursor B) (ps : (a : A) → Placed (f a) (g a)) where
  pub placed_after : Placed (λ l. after (r l) f) (λ text at. after_at (q text at) (λ a. g a text))
  unfolding after after_at seen
  placed_after = record {
    said = λ text at h. go text (q text at) (p.inside text at h) ∙ ap (λ (z : Part A). after z f) (p.said text at h);
    inside = λ text at h. stay text (q text at) (p.inside text at h);
  }
    where
      go : (text : List ℕ) (x : Found A) → Inside (length text) x → seen text (after_at x (λ a. g a text)) ≡ after (seen text x) f
      go text (found a next) i = (ps a).said text next i
      go text broken i = refl

      stay : (text : List ℕ) (x : Found A) → Inside (length text) x → Inside (length text) (after_at x (λ a. g a text))
      stay text (found a next) i = (ps a).inside text next i
      stay text broken i = tt

-- the byte at a place
module _ (b : ℕ) (text : List ℕ) (at : ℕ) where
  pub here_in : at < length text → here b text at ≡ eqb (get_or text at 0) b
  unfolding here
  here_in h = rw (lt-ltb at (length text) h)

  pub here_out : length text ≤ at → here b text at ≡ false
  unfolding here
  here_out h = rw (le-ltb at (length text) h)

-- a choice, seen
pub seen_cond : {A : Type 0} (text : List ℕ) (x : Bool) (u v : Found A) → seen text (cond x u v) ≡ cond x (seen text u) (seen text v)
seen_cond text true u v = refl
seen_cond text false u v = refl

pub inside_cond : {A : Type 0} (n : ℕ) (x : Bool) (u v : Found A) → (x ≡ true → Inside n u) → (x ≡ false → Inside n v) → Inside n (cond x u v)
inside_cond n true u v f g = f refl
inside_cond n false u v f g = g refl

pub here_inside : (b : ℕ) (text : List ℕ) (at : ℕ) → here b text at ≡ true → suc at ≤ length text
unfolding here
here_inside b text at e = ltb-true at (length text) (both {a = ltb at (length text)} {b = eqb (get_or text at 0) b} e).0

-- exactly these bytes
exactly_said : (bs text : List ℕ) (at : ℕ) → at ≤ length text → seen text (exactly_at bs text at) ≡ exactly bs (drop at text)
unfolding exactly_at exactly seen
exactly_said [] text at h = refl
exactly_said (b ∷ bs) text at h = go (dec_lt at (length text)) (λ k. exactly_said bs text (suc at) k)
  where
    go : Dec (at < length text) → (suc at ≤ length text → seen text (exactly_at bs text (suc at)) ≡ exactly bs (drop (suc at) text))
        → seen text (cond (here b text at) (exactly_at bs text (suc at)) broken) ≡ exactly (b ∷ bs) (drop at text)
    go (yes k) rec =
        rw (here_in b text at k, drop-cons text at 0 k)
        (seen_cond text (eqb (get_or text at 0) b) (exactly_at bs text (suc at)) broken ∙ ap (λ (z : Part (Unit {0})). cond (eqb (get_or text at 0) b) z faulty) (rec k))
    go (no k) rec = let e : length text ≤ at = omega (arith, k) in rw (here_out b text at e, drop_of_length-le text e)

exactly_inside : (bs text : List ℕ) (at : ℕ) → at ≤ length text → Inside (length text) (exactly_at bs text at)
unfolding exactly_at
exactly_inside [] text at h = h
exactly_inside (b ∷ bs) text at h =
    inside_cond (length text) (here b text at) (exactly_at bs text (suc at)) broken (λ e. exactly_inside bs text (suc at) (here_inside b text at e)) (λ e. tt)

pub placed_exactly : (bs : List ℕ) → Placed (exactly bs) (exactly_at bs)
placed_exactly bs = record { said = exactly_said bs; inside = exactly_inside bs }

both_cond : {A : Type 0} (x y : Bool) (u : Found A) → cond x (cond y u broken) broken ≡ cond (x && y) u broken
both_cond true y u = refl
both_cond false y u = refl

-- two bytes, compared either way round
same_byte : (b c : ℕ) (z : Bool) → eqb b c ≡ z → eqb c b ≡ z
same_byte b c true e = eq-eqb c b (sym (eqb-true b c e))
same_byte b c false e = ne_eqb c b (λ f. eqb-false b c e (sym f))

-- the same by one comparison, as the code does it
pub exactly_is : (bs text : List ℕ) (at : ℕ) → at ≤ length text → exactly_at bs text at ≡ cond (starts_with eqb (drop at text) bs) (found tt (at + length bs)) broken
unfolding exactly_at
exactly_is [] text at h = ap (found tt) (sym (add-zero at))
exactly_is (b ∷ bs) text at h = go (dec_lt at (length text)) (λ k. exactly_is bs text (suc at) k)
  where
    go : Dec (at < length text) → (suc at ≤ length text → exactly_at bs text (suc at) ≡ cond (starts_with eqb (drop (suc at) text) bs) (found tt (suc at + length bs)) broken)
        → cond (here b text at) (exactly_at bs text (suc at)) broken ≡ cond (starts_with eqb (drop at text) (b ∷ bs)) (found tt (at + suc (length bs))) broken
    go (yes k) rec = let n : suc at + length bs ≡ at + suc (length bs) = omega arith in
        rw (here_in b text at k, drop-cons text at 0 k, rec k, n, same_byte b (get_or text at 0) (eqb b (get_or text at 0)) refl) (both_cond (eqb b (get_or text at 0)) (starts_with eqb (drop (suc at) text) bs) (found tt (at + suc (length bs))))
    go (no k) rec = let e : length text ≤ at = omega (arith, k) in rw (here_out b text at e, drop_of_length-le text e)

-- a number
number_seen : (text : List ℕ) (plain : Bool) (o : Option ℕ) (next : ℕ) → seen text (number_found plain o next) ≡ number_said plain o (drop next text)
unfolding number_found number_said seen
number_seen text plain none next = refl
number_seen text plain (some v) next = seen_cond text (plain && is_byte v) (found v next) broken

number_inside : (n : ℕ) (plain : Bool) (o : Option ℕ) (next : ℕ) → next ≤ n → Inside n (number_found plain o next)
unfolding number_found
number_inside n plain none next h = tt
number_inside n plain (some v) next h = inside_cond n (plain && is_byte v) (found v next) broken (λ e. h) (λ e. tt)

pub placed_number : Placed read_number number_at
unfolding read_number number_at
placed_number = record {
  said = λ text at h.
      let k = front is_digit (drop at text) in
      number_seen text (eqb k 1 || not (eqb (get_or text at 0) 48)) (decimal_number (take k (drop at text))) (at + k)
      ∙ ap₂ (λ (c : ℕ) (l : List ℕ). number_said (eqb k 1 || not (eqb c 48)) (decimal_number (take k (drop at text))) l)
      (ap (λ (j : ℕ). get_or text j 0) (sym (add-zero at)) ∙ sym (get_or-drop at text 0 0)) (sym (drop-drop k at text));
  inside = λ text at h. number_inside (length text) _ _ _ (omega (arith, front_le is_digit (drop at text), length-drop at text));
}
