-- A level in a field, with quotes or without: its content ends where its digits do.
use mathlib.Core.Path.{◌≡◌, refl, sym, ap, ◌∙◌}
use mathlib.Core.Bool.{Bool, true, false, cond, ◌&&◌}
use mathlib.Core.List.{List, [], ◌∷◌, ◌++◌}
use mathlib.Core.Option.{Option, some, none, map}
use Prim.Native.Nat.{ℕ, suc, ◌+◌, ◌*◌, ◌-◌, ◌<◌}
use native.Mathlib.Numerals.{add-one}
use native.Mathlib.Omega.{arith}
use lib.ListN.{length, get_or, take, drop}
use lib.Seq.{drop-cons, drop-drop}
use lib.Dec.{eqb, leb}
use borrow.Author.Tests.{ne_eqb, eqb-true, eqb-false}
use Rattle.std.specs.Prelude.{Option as Answer}
use Rattle.notation.specs.Digits.{is_digit, digits_from, decimal_number}
use Rattle.notation.specs.Fields.{comma, quote, lf, cr, Field, field, broken, front, is_plain, after_cr, ending, with, unquoted, quoted}
use Rattle.notation.specs.Forms.{level_of}
use Rattle.notation.specs.Spans.{closed, ending_in, ended_by}
use Rattle.notation.specs.Said.{with_sign}
use Rattle.comma_text.specs.reading.Records.{held, reading, field_from, size_of, size_field}
use Rattle.notation.specs.declared.fields.End.{End}
use Rattle.notation.proofs.Grammar.FieldRead.{unquoted_more, quoted_more}
use Rattle.notation.proofs.digits.NumberDigits.{digit_range}
use Rattle.notation.proofs.fields.FieldEnds.{chosen, with_ending, with_closed}
use Rattle.notation.proofs.fields.FieldSpans.{plain_other, begins_otherwise}
use Rattle.notation.proofs.digits.LeadingDigits.{digits}

-- what is said by a field depends on its content alone
alike : {A : Type 0} (f g : List ℕ → Option A) → ((c : List ℕ) → f c ≡ g c) → (x : Field (List ℕ)) → reading f x ≡ reading g x
unfolding reading
alike f g e (field c more rest) = ap (λ (o : Option _). held o more rest) (e c)
alike f g e broken = refl

-- a field says nothing if its content does
silent : {A : Type 0} (f : List ℕ → Option A) → ((c : List ℕ) → f c ≡ none) → (x : Field (List ℕ)) → reading f x ≡ broken
unfolding reading held
silent f e (field c more rest) = rw (e c) refl
silent f e broken = refl

-- the same where only the content before this end counts
ended_alike : {A : Type 0} (f g : List ℕ → Option A) (q : Bool) (c l : List ℕ) → f c ≡ g c → reading f (ending_in q c l) ≡ reading g (ending_in q c l)
unfolding ending after_cr closed reading
ended_alike f g false c [] e = rw e refl
ended_alike f g false c (a ∷ []) e = simp (chosen (reading f), chosen (reading g), e)
ended_alike f g false c (a ∷ b ∷ l) e = simp (chosen (reading f), chosen (reading g), e)
ended_alike f g true c [] e = refl
ended_alike f g true c (a ∷ l) e = simp (chosen (reading f), chosen (reading g), ended_alike f g false c l e)

ended_silent : {A : Type 0} (f : List ℕ → Option A) (q : Bool) (c l : List ℕ) → f c ≡ none → reading f (ending_in q c l) ≡ broken
ended_silent f q c l e = ended_alike f (λ a. none) q c l e ∙ silent (λ a. none) (λ a. refl) (ending_in q c l)

-- a byte more of the content
with_said : {A : Type 0} (f : List ℕ → Option A) (b : ℕ) (x : Field (List ℕ)) → reading f (with b x) ≡ reading (λ c. f (b ∷ c)) x
unfolding with reading
with_said f b (field c more rest) = refl
with_said f b broken = refl

with_ended : (q : Bool) (b : ℕ) (c l : List ℕ) → with b (ending_in q c l) ≡ ending_in q (b ∷ c) l
with_ended false = with_ending
with_ended true = with_closed

-- a plain byte is in the content: it ends no field, nor is it a quote
no_end : (b : ℕ) (c l : List ℕ) → is_plain b ≡ true → ending c (b ∷ l) ≡ broken
unfolding is_plain ending
no_end b c l e = simp (ne_eqb b comma (plain_other b comma e refl), ne_eqb b lf (plain_other b lf e refl), ne_eqb b cr (plain_other b cr e refl))

plain_more : (q : Bool) (b : ℕ) (l : List ℕ) → is_plain b ≡ true → field_from q (b ∷ l) ≡ with b (field_from q l)
unfolding is_plain
plain_more true b l e = quoted_more b l (plain_other b quote e refl)
plain_more false b l e = unquoted_more b l e

-- a field from its content on: the first byte is in the content, or the content is empty
data Starts (q : Bool) (b : ℕ) (l : List ℕ) : Type 0 where
  goes_on : (x : Field (List ℕ)) → field_from q (b ∷ l) ≡ with b x → ending_in q [] (b ∷ l) ≡ broken → Starts q b l
  over : field_from q (b ∷ l) ≡ ending_in q [] (b ∷ l) → Starts q b l

starts : (q : Bool) (b : ℕ) (l : List ℕ) → Starts q b l
unfolding unquoted front quoted closed ending
starts false b l = go (is_plain b) refl
  where
    go : (x : Bool) → is_plain b ≡ x → Starts false b l
    go true e = goes_on (unquoted l) (unquoted_more b l e) (no_end b [] l e)
    go false e = over (rw e refl)
starts true b [] = go (eqb b quote) refl
  where
    go : (x : Bool) → eqb b quote ≡ x → Starts true b []
    go true e = over refl
    go false e = goes_on broken (quoted_more b [] (eqb-false b quote e)) (rw e refl)
starts true b (c ∷ l) = go (eqb b quote) refl (eqb c quote) refl
  where
    go : (x : Bool) → eqb b quote ≡ x → (y : Bool) → eqb c quote ≡ y → Starts true b (c ∷ l)
    go false e y f = goes_on (quoted (c ∷ l)) (quoted_more b (c ∷ l) (eqb-false b quote e)) (rw e refl)
    go true e true f =
        goes_on (quoted l) (rw (e, f) (ap (λ (a : ℕ). with a (quoted l)) (sym (eqb-true b quote e)))) (rw e (ap (λ (a : ℕ). ending [] (a ∷ l)) (eqb-true c quote f)))
    go true e false f = over (rw (e, f) refl)

no_bytes : (q : Bool) → field_from q [] ≡ ending_in q [] []
unfolding unquoted quoted closed front
no_bytes true = refl
no_bytes false = refl

-- f says nothing of a content with a byte that is no digit
abbrev DigitsOnly : {A : Type 0} → (List ℕ → Option A) → Type 0
DigitsOnly f = (a : List ℕ) (b : ℕ) (c : List ℕ) → is_digit b ≡ false → f (a ++ (b ∷ c)) ≡ none

digit_plain : (b : ℕ) → is_digit b ≡ true → is_plain b ≡ true
unfolding is_plain
digit_plain b e =
    let h = digit_range b e in
    simp (ne_eqb b comma (λ z. omega (arith, h, z)), ne_eqb b quote (λ z. omega (arith, h, z)), ne_eqb b cr (λ z. omega (arith, h, z)), ne_eqb b lf (λ z. omega (arith, h, z)))

to_digits : {A : Type 0} (f : List ℕ → Option A) → DigitsOnly f → (q : Bool) (l : List ℕ)
    → reading f (field_from q l) ≡ reading f (ending_in q (digits l) (drop (front is_digit l) l))
unfolding front reading
to_digits f o q [] = ap (reading f) (no_bytes q)
to_digits f o q (b ∷ l) = go (is_digit b) refl (starts q b l) (to_digits (λ c. f (b ∷ c)) (λ a. o (b ∷ a)) q l)
  where
    go : (x : Bool) → is_digit b ≡ x → Starts q b l
        → reading (λ c. f (b ∷ c)) (field_from q l) ≡ reading (λ c. f (b ∷ c)) (ending_in q (digits l) (drop (front is_digit l) l))
        → reading f (field_from q (b ∷ l)) ≡ reading f (ending_in q (take (cond x (suc (front is_digit l)) 0) (b ∷ l)) (drop (cond x (suc (front is_digit l)) 0) (b ∷ l)))
    go true e s h =
        ap (reading f) (plain_more q b l (digit_plain b e)) ∙ with_said f b (field_from q l) ∙ h
        ∙ sym (with_said f b (ending_in q (digits l) (drop (front is_digit l) l))) ∙ ap (reading f) (with_ended q b (digits l) (drop (front is_digit l) l))
    go false e (goes_on x p k) h = ap (reading f) p ∙ with_said f b x ∙ silent (λ c. f (b ∷ c)) (λ c. o [] b c e) x ∙ sym (ap (reading f) k)
    go false e (over p) h = ap (reading f) p

-- the number in a content is such an f
digits_broken : (v : ℕ) (a : List ℕ) (b : ℕ) (c : List ℕ) → is_digit b ≡ false → digits_from v (a ++ (b ∷ c)) ≡ none
unfolding digits_from
digits_broken v [] b c e = rw e refl
digits_broken v (d ∷ a) b c e = go (is_digit d) (digits_broken (10 * v + (d - 48)) a b c e)
  where
    go : (x : Bool) → digits_from (10 * v + (d - 48)) (a ++ (b ∷ c)) ≡ none → cond x (digits_from (10 * v + (d - 48)) (a ++ (b ∷ c))) none ≡ none
    go true h = h
    go false h = refl

size_digits : (sign : Bool) → DigitsOnly (size_of sign)
unfolding size_of decimal_number
size_digits sign a b c e = go (leb 1 (length (a ++ (b ∷ c))) && leb (length (a ++ (b ∷ c))) 3)
  where
    go : (x : Bool) → map (with_sign sign) (cond x (digits_from 0 (a ++ (b ∷ c))) none) ≡ none
    go true = ap (map (with_sign sign)) (digits_broken 0 a b c e)
    go false = refl

-- What is read behind the sign: no number, or one and what stands behind its digits.
module _ (q sign : Bool) where
  size_is : (l : List ℕ) → size_field q sign l ≡ reading (size_of sign) (ending_in q (digits l) (drop (front is_digit l) l))
  unfolding size_field
  size_is l = to_digits (size_of sign) (size_digits sign) q l

  pub size_none : (l : List ℕ) → none ≡ decimal_number (digits l) → broken ≡ size_field q sign l
  unfolding size_of
  size_none l e = sym (size_is l ∙ ended_silent (size_of sign) q (digits l) (drop (front is_digit l) l) (ap (map (with_sign sign)) (sym e)))

  pub size_ended : (t : List ℕ) (at count : ℕ) (e : Answer End) → count ≡ front is_digit (drop at t)
      → ((content : List ℕ) → ended_by t content e ≡ ending_in q content (drop (at + count) t)) → reading (size_of sign) (ended_by t (digits (drop at t)) e) ≡ size_field q sign (drop at t)
  size_ended t at count e h b =
      let l = drop at t in
      ap (reading (size_of sign)) (b (digits l) ∙ ap (ending_in q (digits l)) (ap (λ (k : ℕ). drop (at + k) t) h ∙ sym (drop-drop (front is_digit l) at t))) ∙ sym (size_is l)

pub size_some : (sign : Bool) (l : List ℕ) {size : ℕ} → some size ≡ decimal_number (digits l) → (more : Bool) (rest : List ℕ)
    → field (with_sign sign size) more rest ≡ reading (size_of sign) (field (digits l) more rest)
unfolding reading held size_of
size_some sign l e more rest = ap (λ (o : Option ℕ). held (map (with_sign sign) o) more rest) e

-- with a minus sign, and without
minus : (q : Bool) (b : ℕ) (l : List ℕ) → b ≡ 45 → size_field q true l ≡ reading level_of (field_from q (b ∷ l))
unfolding size_field size_of level_of with_sign is_plain
minus q b l e =
    sym (with_said level_of 45 (field_from q l)) ∙ ap (reading level_of) (sym (plain_more q 45 l refl)) ∙ ap (λ (a : ℕ). reading level_of (field_from q (a ∷ l))) (sym e)

-- a content that does not begin with a minus sign, and an empty one
unsigned : (b : ℕ) (c : List ℕ) → (b ≡ 45 → ⊥) → size_of false (b ∷ c) ≡ level_of (b ∷ c)
unfolding size_of level_of with_sign
unsigned b c n = simp (ne_eqb b 45 n)

empty : (q : Bool) (l : List ℕ) → field_from q l ≡ ending_in q [] l → size_field q false l ≡ reading level_of (field_from q l)
unfolding size_field size_of level_of decimal_number
empty q l p = ap (reading (size_of false)) p ∙ ended_alike (size_of false) level_of q [] l refl ∙ sym (ap (reading level_of) p)

plus : (q : Bool) (l : List ℕ) → (0 < length l → get_or l 0 0 ≡ 45 → ⊥) → size_field q false l ≡ reading level_of (field_from q l)
unfolding size_field
plus q [] n = empty q [] (no_bytes q)
plus q (b ∷ l) n = go (starts q b l)
  where
    go : Starts q b l → size_field q false (b ∷ l) ≡ reading level_of (field_from q (b ∷ l))
    go (goes_on x p k) =
        ap (reading (size_of false)) p ∙ with_said (size_of false) b x ∙ alike (λ c. size_of false (b ∷ c)) (λ c. level_of (b ∷ c)) (λ c. unsigned b c (n (omega arith))) x
        ∙ sym (ap (reading level_of) p ∙ with_said level_of b x)
    go (over p) = empty q (b ∷ l) p

module _ (q : Bool) (t : List ℕ) (at : ℕ) where
  pub level_signed : at < length t → get_or t at 0 ≡ 45 → size_field q true (drop (at + 1) t) ≡ reading level_of (field_from q (drop at t))
  level_signed h e = rw (add-one, drop-cons t at 0 h) (minus q (get_or t at 0) (drop (suc at) t) e)

  pub level_unsigned : (at < length t → get_or t at 0 ≡ 45 → ⊥) → size_field q false (drop at t) ≡ reading level_of (field_from q (drop at t))
  level_unsigned n = plus q (drop at t) (begins_otherwise t at 45 n)
