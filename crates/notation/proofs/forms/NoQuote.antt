-- A content with a quote is no last field of a header, so that field may be looked for in the bytes between the quotes, undoubled or not.
use mathlib.Core.Path.{◌≡◌, refl, sym, ap, ◌∙◌, subst}
use mathlib.Core.Bool.{Bool, true, false, cond, ◌&&◌, ◌||◌}
use mathlib.Core.List.{List, [], ◌∷◌}
use mathlib.Core.Option.{Option, some, none, map}
use Prim.Native.Nat.{ℕ, zero, suc, ◌+◌, ◌*◌, ◌-◌}
use native.Mathlib.Omega.{arith}
use native.Mathlib.Decide.{ℕ_discrete}
use lib.ListN.{length, take, drop}
use lib.Dec.{T, eqb, leb}
use borrow.Author.Tests.{eq-eqb, ne_eqb}
use Rattle.residue.specs.Lists.{same_list}
use Rattle.residue.proofs.bytes.Equality.{same_is}
use Rattle.notation.specs.Fields.{quote, front, kept}
use Rattle.notation.specs.Digits.{is_digit, digits_from, decimal_number}
use Rattle.notation.specs.Forms.{mod_word, lex_word, grlex_word, grevlex_word, weight_word, weight_of, weight_first, behind_weight, weights_of}
use Rattle.notation.specs.Forms.{Ordered, weighted, order_word, header, modulus_and_order, last_field}
use Rattle.notation.specs.Spans.{undoubled}

has_quote : List ℕ → Bool
has_quote [] = false
has_quote (b ∷ l) = eqb b quote || has_quote l

-- without a quote nothing is undoubled; with one there is one left
no_quote : (l : List ℕ) → has_quote l ≡ false → undoubled l ≡ l
unfolding has_quote undoubled
no_quote [] h = refl
no_quote (b ∷ []) h = refl
no_quote (b ∷ c ∷ l) h = pick (eqb b quote) h (no_quote (c ∷ l))
  where
    pick : (x : Bool) → x || has_quote (c ∷ l) ≡ false → (has_quote (c ∷ l) ≡ false → undoubled (c ∷ l) ≡ c ∷ l)
        → cond x (b ∷ undoubled l) (b ∷ undoubled (c ∷ l)) ≡ b ∷ c ∷ l
    pick true e f = let z : ◌≡◌ {A = ℕ} 0 1 = cc in absurd (omega arith)
    pick false e f = ap (λ (r : List ℕ). b ∷ r) (f e)

quote_left : (l : List ℕ) → has_quote (undoubled l) ≡ has_quote l
unfolding has_quote undoubled
quote_left [] = refl
quote_left (b ∷ []) = refl
quote_left (b ∷ c ∷ l) = pick (eqb b quote) refl (quote_left (c ∷ l))
  where
    pick : (x : Bool) → eqb b quote ≡ x → has_quote (undoubled (c ∷ l)) ≡ has_quote (c ∷ l)
        → has_quote (cond x (b ∷ undoubled l) (b ∷ undoubled (c ∷ l))) ≡ (x || has_quote (c ∷ l))
    pick true e h = rw e
    pick false e h = rw e h

-- a list with a quote is not the same as one without
differs : (a b : List ℕ) → has_quote a ≡ true → has_quote b ≡ false → same_list a b ≡ false
differs a b h k = pick (same_list a b) refl
  where
    pick : (x : Bool) → same_list a b ≡ x → x ≡ false
    pick true e =
        let f : true ≡ false = sym h ∙ ap has_quote (same_is a b (subst T (sym e) tt)) ∙ k in
        let z : ◌≡◌ {A = ℕ} 0 1 = cc in
        absurd (omega arith)
    pick false e = refl

quote_apart : (k : ℕ) (l : List ℕ) → has_quote l ≡ (has_quote (take k l) || has_quote (drop k l))
unfolding has_quote
quote_apart zero l = refl
quote_apart (suc k) [] = refl
quote_apart (suc k) (b ∷ l) = pick (eqb b quote) (quote_apart k l)
  where
    pick : (x : Bool) → has_quote l ≡ (has_quote (take k l) || has_quote (drop k l)) → (x || has_quote l) ≡ (x || has_quote (take k l) || has_quote (drop k l))
    pick true h = refl
    pick false h = h

not_digit : (b : ℕ) → b ≡ quote → is_digit b ≡ false
unfolding is_digit
not_digit b e = ap is_digit e

either : {A : Type 0} (x : Bool) {r : Option A} → r ≡ none → cond x r none ≡ none
either true e = e
either false e = refl

-- digits
digits_none : (v : ℕ) (l : List ℕ) → has_quote l ≡ true → digits_from v l ≡ none
unfolding has_quote digits_from
digits_none v [] h = let z : ◌≡◌ {A = ℕ} 0 1 = cc in absurd (omega arith)
digits_none v (b ∷ l) h = pick (ℕ_discrete b quote) (digits_none (10 * v + (b - 48)) l)
  where
    pick : Dec (b ≡ quote) → (has_quote l ≡ true → digits_from (10 * v + (b - 48)) l ≡ none) → cond (is_digit b) (digits_from (10 * v + (b - 48)) l) none ≡ none
    pick (yes e) f = rw (not_digit b e)
    pick (no n) f = either (is_digit b) (f (rw (ne_eqb b quote n) at h))

number_none : (l : List ℕ) → has_quote l ≡ true → decimal_number l ≡ none
unfolding decimal_number
number_none l h = either (leb 1 (length l) && leb (length l) 3) (digits_none 0 l h)

-- weights
weight_none : (l : List ℕ) → has_quote l ≡ true → weight_of l ≡ none
unfolding weight_of
weight_none l h = either (leb (length l) 2) (number_none l h)

-- a weight at the front, and what stands behind it: the quote is in one of them
behind_none : (k : ℕ) (l : List ℕ) → ((r : List ℕ) → has_quote r ≡ true → weights_of k r ≡ none) → has_quote l ≡ true
    → behind_weight (weights_of k) (weight_first l) ≡ none
unfolding weight_first behind_weight has_quote kept
behind_none k [] f h = refl
behind_none k (b ∷ l) f h = pick (ℕ_discrete b 32)
  where
    d : ℕ
    d = front is_digit l

    rest : (o : Option ℕ) → (has_quote (take d l) ≡ true → o ≡ none) → (x : Bool) → has_quote (take d l) ≡ x → x || has_quote (drop d l) ≡ true
        → behind_weight (weights_of k) (kept o (drop d l)) ≡ none
    rest none g x e q = refl
    rest (some w) g true e q = let z : ◌≡◌ {A = ℕ} 0 1 = let y = g e in cc in absurd (omega arith)
    rest (some w) g false e q = ap (map (λ ws. w ∷ ws)) (f (drop d l) q)

    pick : Dec (b ≡ 32) → behind_weight (weights_of k) (weight_first (b ∷ l)) ≡ none
    pick (yes e) = rw (eq-eqb b 32 e)
        (rest (weight_of (take d l)) (λ q. weight_none (take d l) q) (has_quote (take d l)) refl
        (sym (quote_apart d l) ∙ rw (ne_eqb b quote (λ q. omega arith)) at h))
    pick (no n) = rw (ne_eqb b 32 n)

weights_none : (k : ℕ) (l : List ℕ) → has_quote l ≡ true → weights_of k l ≡ none
unfolding weights_of has_quote
weights_none zero [] h = let z : ◌≡◌ {A = ℕ} 0 1 = cc in absurd (omega arith)
weights_none zero (b ∷ l) h = refl
weights_none (suc k) l h = behind_none k l (λ r q. weights_none k r q) h

-- the order word, and the settings
word_none : (m : ℕ) (l : List ℕ) → has_quote l ≡ true → order_word m l ≡ none
unfolding order_word has_quote
word_none m l h = simp (differs l [] h refl, differs l lex_word h refl, differs l grlex_word h refl, differs l grevlex_word h refl)
    (pick (has_quote (take 7 l)) refl (sym (quote_apart 7 l) ∙ h))
  where
    pick : (x : Bool) → has_quote (take 7 l) ≡ x → x || has_quote (drop 7 l) ≡ true
        → cond (same_list (take 7 l) weight_word) (map weighted (weights_of m (drop 7 l))) none ≡ none
    pick true e f = rw (differs (take 7 l) weight_word e refl)
    pick false e f = either (same_list (take 7 l) weight_word) (ap (map weighted) (weights_none m (drop 7 l) f))

no_modulus : (m : ℕ) (o : Option Ordered) → header m none o ≡ none
unfolding header
no_modulus m o = refl

no_order : (m : ℕ) (p : Option ℕ) → header m p none ≡ none
unfolding header
no_order m none = refl
no_order m (some p) = refl

settings_none : (m : ℕ) (l : List ℕ) → has_quote l ≡ true → modulus_and_order m l ≡ none
unfolding modulus_and_order
settings_none m l h = pick (has_quote (take k l)) refl (sym (quote_apart k l) ∙ h)
  where
    k : ℕ
    k = front is_digit l

    pick : (x : Bool) → has_quote (take k l) ≡ x → x || has_quote (drop k l) ≡ true → header m (decimal_number (take k l)) (order_word m (drop k l)) ≡ none
    pick true e f = ap (λ (p : Option ℕ). header m p (order_word m (drop k l))) (number_none (take k l) e) ∙ no_modulus m (order_word m (drop k l))
    pick false e f = ap (header m (decimal_number (take k l))) (word_none m (drop k l) f) ∙ no_order m (decimal_number (take k l))

last_none : (m : ℕ) (l : List ℕ) → has_quote l ≡ true → last_field m l ≡ none
unfolding last_field has_quote
last_none m l h = pick (has_quote (take 4 l)) refl (sym (quote_apart 4 l) ∙ h)
  where
    pick : (x : Bool) → has_quote (take 4 l) ≡ x → x || has_quote (drop 4 l) ≡ true → cond (same_list (take 4 l) mod_word) (modulus_and_order m (drop 4 l)) none ≡ none
    pick true e f = rw (differs (take 4 l) mod_word e refl)
    pick false e f = either (same_list (take 4 l) mod_word) (settings_none m (drop 4 l) f)

pub last_raw : (m : ℕ) (l : List ℕ) → last_field m (undoubled l) ≡ last_field m l
last_raw m l = pick (has_quote l) refl
  where
    pick : (x : Bool) → has_quote l ≡ x → last_field m (undoubled l) ≡ last_field m l
    pick true e = last_none m (undoubled l) (quote_left l ∙ e) ∙ sym (last_none m l e)
    pick false e = ap (last_field m) (no_quote l e)
