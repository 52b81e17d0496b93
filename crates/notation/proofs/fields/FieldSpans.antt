-- A field by its places is the field of the text there.
use mathlib.Core.Path.{◌≡◌, refl, sym, ap, ◌∙◌}
use mathlib.Core.Bool.{Bool, true, false, cond}
use mathlib.Core.List.{List, [], ◌∷◌}
use Prim.Native.Nat.{ℕ, suc, ◌+◌, ◌-◌, ◌<◌, ◌≤◌}
use native.Mathlib.Nat.{add-zero}
use native.Mathlib.Numerals.{add-one}
use native.Mathlib.Omega.{arith}
use lib.ListN.{length, get_or, take, drop, length-drop}
use lib.Seq.{drop-cons, drop-drop, get_or-drop, take_all}
use lib.Dec.{eqb}
use borrow.Author.Tests.{eq-eqb, ne_eqb, eqb-true, eqb-false}
use Rattle.std.specs.Prelude.{Option}
use Rattle.notation.specs.Fields.{quote, broken, front, is_plain, ending, with, quoted, unquoted, field_of}
use Rattle.notation.specs.Spans.{closing, undoubled, closed, ending_in, ended_by, opening, content_length}
use Rattle.notation.specs.declared.fields.End.{End}
use Rattle.notation.proofs.fields.FieldEnds.{with_closed}

-- what is lent of a text from a place on
pub all_behind : (t : List ℕ) (at : ℕ) → take (length t - at) (drop at t) ≡ drop at t
all_behind t at = take_all (length t - at) (drop at t) (omega (arith, length-drop at t))

pub rest_size : (t : List ℕ) (at : ℕ) → length (take (length t - at) (drop at t)) ≡ length t - at
rest_size t at = ap length (all_behind t at) ∙ length-drop at t

pub rest_first : (t : List ℕ) (at : ℕ) → at < length t → get_or (take (length t - at) (drop at t)) 0 0 ≡ get_or t at 0
rest_first t at h = ap (λ (l : List ℕ). get_or l 0 0) (all_behind t at) ∙ get_or-drop at t 0 0 ∙ ap (λ (j : ℕ). get_or t j 0) (add-zero at)

pub rest_second : (t : List ℕ) (at : ℕ) → get_or (take (length t - at) (drop at t)) 1 0 ≡ get_or t (at + 1) 0
rest_second t at = ap (λ (l : List ℕ). get_or l 1 0) (all_behind t at) ∙ get_or-drop at t 1 0

pub front_le : (kind : ℕ → Bool) (l : List ℕ) → front kind l ≤ length l
unfolding front
front_le kind [] = omega arith
front_le kind (b ∷ l) = pick (kind b) (front_le kind l)
  where
    pick : (x : Bool) → front kind l ≤ length l → cond x (suc (front kind l)) 0 ≤ suc (length l)
    pick true h = omega arith
    pick false h = omega arith

pub closing_le : (l : List ℕ) → closing l ≤ length l
unfolding closing
closing_le [] = omega arith
closing_le (b ∷ []) = pick (eqb b quote)
  where
    pick : (x : Bool) → cond {A = ℕ} x 0 1 ≤ 1
    pick true = omega arith
    pick false = omega arith
closing_le (b ∷ c ∷ l) = pick (eqb b quote) (eqb c quote) (closing_le l) (closing_le (c ∷ l))
  where
    pick :
        (x y : Bool)
        → closing l ≤ length l
        → closing (c ∷ l) ≤ suc (length l)
        → cond x (cond y (suc (suc (closing l))) 0) (suc (closing (c ∷ l))) ≤ suc (suc (length l))
    pick true true h k = omega arith
    pick true false h k = omega arith
    pick false y h k = omega arith

undoubled_other : (b : ℕ) (l : List ℕ) → (b ≡ quote → ⊥) → undoubled (b ∷ l) ≡ b ∷ undoubled l
unfolding undoubled
undoubled_other b [] n = refl
undoubled_other b (c ∷ l) n = simp (ne_eqb b quote n)

undoubled_pair : (b c : ℕ) (l : List ℕ) → b ≡ quote → undoubled (b ∷ c ∷ l) ≡ quote ∷ undoubled l
unfolding undoubled
undoubled_pair b c l e = simp (eq-eqb b quote e) (ap (λ (a : ℕ). a ∷ undoubled l) e)

pub plain_other : (b k : ℕ) → is_plain b ≡ true → is_plain k ≡ false → b ≡ k → ⊥
plain_other b k h n e =
    let f : false ≡ true = sym n ∙ sym (ap is_plain e) ∙ h in
    let z : ◌≡◌ {A = ℕ} 0 1 = cc in
    omega arith

-- an unquoted field has no quote, so nothing is undoubled
undoubled_plain : (l : List ℕ) → undoubled (take (front is_plain l) l) ≡ take (front is_plain l) l
unfolding front undoubled is_plain
undoubled_plain [] = refl
undoubled_plain (b ∷ l) = pick (is_plain b) refl (undoubled_plain l)
  where
    pick :
        (x : Bool)
        → is_plain b ≡ x
        → undoubled (take (front is_plain l) l) ≡ take (front is_plain l) l
        → undoubled (take (cond x (suc (front is_plain l)) 0) (b ∷ l)) ≡ take (cond x (suc (front is_plain l)) 0) (b ∷ l)
    pick true e h = undoubled_other b (take (front is_plain l) l) (plain_other b quote e refl) ∙ ap (λ (r : List ℕ). b ∷ r) h
    pick false e h = refl

-- a quoted field: its bytes up to the quote that closes it, and what is there
pub quoted_is : (l : List ℕ) → quoted l ≡ closed (undoubled (take (closing l) l)) (drop (closing l) l)
unfolding closing quoted undoubled closed
quoted_is [] = refl
quoted_is (b ∷ []) = pick (eqb b quote) refl
  where
    pick : (x : Bool) → eqb b quote ≡ x → cond x (ending [] []) broken ≡ closed (undoubled (take (cond x 0 1) (b ∷ []))) (drop (cond x 0 1) (b ∷ []))
    pick true e = rw e refl
    pick false e = refl
quoted_is (b ∷ c ∷ l) = pick (eqb b quote) (eqb c quote) refl (quoted_is l) (quoted_is (c ∷ l))
  where
    pick :
        (x y : Bool)
        → eqb b quote ≡ x
        → quoted l ≡ closed (undoubled (take (closing l) l)) (drop (closing l) l)
        → quoted (c ∷ l) ≡ closed (undoubled (take (closing (c ∷ l)) (c ∷ l))) (drop (closing (c ∷ l)) (c ∷ l))
        → cond x (cond y (with quote (quoted l)) (ending [] (c ∷ l))) (with b (quoted (c ∷ l)))
        ≡ closed (undoubled (take (cond x (cond y (suc (suc (closing l))) 0) (suc (closing (c ∷ l)))) (b ∷ c ∷ l)))
        (drop (cond x (cond y (suc (suc (closing l))) 0) (suc (closing (c ∷ l)))) (b ∷ c ∷ l))
    pick true true e h k =
        let x = take (closing l) l in
        let r = drop (closing l) l in
        ap (with quote) h ∙ with_closed quote (undoubled x) r ∙ ap (λ (d : List ℕ). closed d r) (sym (undoubled_pair b c x (eqb-true b quote e)))
    pick true false e h k = rw e refl
    pick false y e h k =
        let x = take (closing (c ∷ l)) (c ∷ l) in
        let r = drop (closing (c ∷ l)) (c ∷ l) in
        ap (with b) k ∙ with_closed b (undoubled x) r ∙ ap (λ (d : List ℕ). closed d r) (sym (undoubled_other b x (eqb-false b quote e)))

-- a field by its places: its content has so many bytes, and what `content_end` says of every content stands behind them
module _ (t : List ℕ) (from to : ℕ) (e : Option End) where
  spanned_by : (q : Bool) (k : ℕ) → to ≡ from + k → ((content : List ℕ) → ended_by t content e ≡ ending_in q content (drop to t))
      → ended_by t (undoubled (take (to - from) (drop from t))) e ≡ ending_in q (undoubled (take k (drop from t))) (drop k (drop from t))
  spanned_by q k h b =
      let n : to - from ≡ k = omega arith in
      b _ ∙ ap (λ (j : ℕ). ending_in q (undoubled (take j (drop from t))) (drop to t)) n
      ∙ ap (ending_in q (undoubled (take k (drop from t)))) (ap (λ (j : ℕ). drop j t) h ∙ sym (drop-drop k from t))

  pub span_quoted :
      to ≡ from + closing (drop from t)
      → ((content : List ℕ) → ended_by t content e ≡ closed content (drop to t))
      → ended_by t (undoubled (take (to - from) (drop from t))) e ≡ quoted (drop from t)
  span_quoted h b = spanned_by true (closing (drop from t)) h b ∙ sym (quoted_is (drop from t))

  pub span_plain :
      to ≡ from + front is_plain (drop from t)
      → ((content : List ℕ) → ended_by t content e ≡ ending content (drop to t))
      → ended_by t (undoubled (take (to - from) (drop from t))) e ≡ unquoted (drop from t)
  unfolding unquoted
  span_plain h b =
      spanned_by false (front is_plain (drop from t)) h b
      ∙ ap (λ (c : List ℕ). ending c (drop (front is_plain (drop from t)) (drop from t))) (undoubled_plain (drop from t))

plain : (l : List ℕ) → (0 < length l → get_or l 0 0 ≡ quote → ⊥) → unquoted l ≡ field_of l
unfolding field_of
plain [] n = refl
plain (b ∷ l) n = simp (ne_eqb b quote (n (omega arith)))

-- a field begins with a quote or not
module _ (t : List ℕ) (at : ℕ) where
  pub begins_otherwise : (b : ℕ) → (at < length t → get_or t at 0 ≡ b → ⊥) → 0 < length (drop at t) → get_or (drop at t) 0 0 ≡ b → ⊥
  begins_otherwise b n h e =
      n (omega (arith, h, length-drop at t)) (sym (get_or-drop at t 0 0 ∙ ap (λ (j : ℕ). get_or t j 0) (add-zero at)) ∙ e)

  pub field_quoted : at < length t → get_or t at 0 ≡ quote → quoted (drop (at + 1) t) ≡ field_of (drop at t)
  unfolding field_of
  field_quoted h e = rw (add-one, drop-cons t at 0 h) (simp (eq-eqb (get_or t at 0) quote e))

  pub field_plain : (at < length t → get_or t at 0 ≡ quote → ⊥) → unquoted (drop at t) ≡ field_of (drop at t)
  field_plain n = plain (drop at t) (begins_otherwise quote n)

  -- the places of its content
  pub places_quoted : at < length t → get_or t at 0 ≡ quote
      → (at + 1 ≡ at + opening (drop at t)) × (at + 1 + closing (drop (at + 1) t) ≡ at + opening (drop at t) + content_length (drop at t))
  unfolding opening content_length
  places_quoted h e = rw (add-one, drop-cons t at 0 h) (simp (eq-eqb (get_or t at 0) quote e) (omega arith, omega arith))

  pub places_plain : (at < length t → get_or t at 0 ≡ quote → ⊥)
      → (at ≡ at + opening (drop at t)) × (at + front is_plain (drop at t) ≡ at + opening (drop at t) + content_length (drop at t))
  unfolding opening content_length front
  places_plain n = go (drop at t) (begins_otherwise quote n)
    where
      go : (l : List ℕ) → (0 < length l → get_or l 0 0 ≡ quote → ⊥)
          → (at ≡ at + opening l) × (at + front is_plain l ≡ at + opening l + content_length l)
      go [] k = (omega arith, omega arith)
      go (b ∷ l) k = simp (ne_eqb b quote (k (omega arith))) (omega arith, omega arith)
