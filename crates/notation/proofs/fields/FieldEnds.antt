-- What stands behind a field's content, by the bytes at the place.
use mathlib.Core.Path.{◌≡◌, refl, sym, ap, ◌∙◌, subst}
use mathlib.Core.Bool.{Bool, true, false, cond}
use mathlib.Core.List.{List, [], ◌∷◌}
use Prim.Native.Nat.{ℕ, ◌+◌, ◌<◌, ◌≤◌}
use native.Mathlib.Numerals.{add-one}
use native.Mathlib.Omega.{arith}
use lib.ListN.{length, get_or, drop, drop_of_length-le}
use lib.Seq.{drop-cons}
use borrow.Author.Tests.{eq-eqb, ne_eqb}
use Rattle.std.specs.Prelude.{Option, None}
use Rattle.notation.specs.Fields.{quote, comma, lf, cr, field, broken, after_cr, ending, with}
use Rattle.notation.specs.Spans.{closed, ended_by, EndRead}
use Rattle.notation.specs.declared.fields.End.{End}
use Rattle.notation.proofs.Numbers.{end_says}
use Rattle.notation.proofs.fields.Searches.{cells}

module _ (content : List ℕ) where
  first_comma : (b : ℕ) (l : List ℕ) → b ≡ comma → ending content (b ∷ l) ≡ field content true l
  unfolding ending
  first_comma b l e = simp (eq-eqb b comma e)

  first_lf : (b : ℕ) (l : List ℕ) → (b ≡ comma → ⊥) → b ≡ lf → ending content (b ∷ l) ≡ field content false l
  unfolding ending
  first_lf b l n e = simp (ne_eqb b comma n, eq-eqb b lf e)

  first_cr : (b : ℕ) (l : List ℕ) → (b ≡ comma → ⊥) → (b ≡ lf → ⊥) → b ≡ cr → ending content (b ∷ l) ≡ after_cr content l
  unfolding ending
  first_cr b l n m e = simp (ne_eqb b comma n, ne_eqb b lf m, eq-eqb b cr e)

  first_other : (b : ℕ) (l : List ℕ) → (b ≡ comma → ⊥) → (b ≡ lf → ⊥) → (b ≡ cr → ⊥) → ending content (b ∷ l) ≡ broken
  unfolding ending
  first_other b l n m o = simp (ne_eqb b comma n, ne_eqb b lf m, ne_eqb b cr o)

  then_lf : (b : ℕ) (l : List ℕ) → b ≡ lf → after_cr content (b ∷ l) ≡ field content false l
  unfolding after_cr
  then_lf b l e = simp (eq-eqb b lf e)

  then_other : (b : ℕ) (l : List ℕ) → (b ≡ lf → ⊥) → after_cr content (b ∷ l) ≡ broken
  unfolding after_cr
  then_other b l n = simp (ne_eqb b lf n)

  then_end : after_cr content [] ≡ broken
  unfolding after_cr
  then_end = refl

  module _ (t : List ℕ) (at : ℕ) where
    pub end_text : length t ≤ at → ending content (drop at t) ≡ field content false (drop at t)
    unfolding ending
    end_text h = rw (drop_of_length-le t h)

    module _ (h : at < length t) where
      cell : drop at t ≡ get_or t at 0 ∷ drop (at + 1) t
      cell = rw (add-one) (drop-cons t at 0 h)

      pub end_comma : get_or t at 0 ≡ comma → ending content (drop at t) ≡ field content true (drop (at + 1) t)
      end_comma e = ap (ending content) cell ∙ first_comma _ _ e

      module _ (n : get_or t at 0 ≡ comma → ⊥) where
        pub end_lf : get_or t at 0 ≡ lf → ending content (drop at t) ≡ field content false (drop (at + 1) t)
        end_lf e = ap (ending content) cell ∙ first_lf _ _ n e

        module _ (m : get_or t at 0 ≡ lf → ⊥) where
          pub end_other : (get_or t at 0 ≡ cr → ⊥) → ending content (drop at t) ≡ broken
          end_other o = ap (ending content) cell ∙ first_other _ _ n m o

          module _ (e : get_or t at 0 ≡ cr) where
            pub end_cr : at + 1 ≡ length t → ending content (drop at t) ≡ broken
            end_cr f =
                let k : length t ≤ at + 1 = omega arith in
                ap (ending content) cell ∙ first_cr _ _ n m e ∙ ap (after_cr content) (drop_of_length-le t k) ∙ then_end

            pub end_cr_other : at + 1 < length t → (get_or t (at + 1) 0 ≡ lf → ⊥) → ending content (drop at t) ≡ broken
            end_cr_other k o = ap (ending content) (cells t at k) ∙ first_cr _ _ n m e ∙ then_other _ _ o

            pub end_crlf : at + 1 < length t → get_or t (at + 1) 0 ≡ lf → ending content (drop at t) ≡ field content false (drop (at + 2) t)
            end_crlf k f = ap (ending content) (cells t at k) ∙ first_cr _ _ n m e ∙ then_lf _ _ f

-- with quotes or without, by a test
pub tested : {t : List ℕ} {at : ℕ} {r : Option End} {q x : Bool} → q ≡ x → EndRead t at x r → EndRead t at q r
tested {t = t} {at = at} {r = r} e = subst (λ (q : Bool). EndRead t at q r) (sym e)

-- in a field with quotes, the one that closes it
module _ (t : List ℕ) (at : ℕ) where
  pub never_closed : length t ≤ at → EndRead t at true None
  unfolding ended_by closed
  never_closed h = end_says (λ content. rw (drop_of_length-le t h) refl) tt

  module _ (h : at < length t) where
    pub not_closed : (get_or t at 0 ≡ quote → ⊥) → EndRead t at true None
    unfolding ended_by closed
    not_closed n = end_says (λ content. rw (drop-cons t at 0 h) (simp (ne_eqb (get_or t at 0) quote n))) tt

    pub closed_here : (r : Option End) → get_or t at 0 ≡ quote → EndRead t (at + 1) false r → EndRead t at true r
    unfolding closed
    closed_here r e b =
        end_says (λ content. b.said content ∙ rw (add-one, drop-cons t at 0 h) (simp (eq-eqb (get_or t at 0) quote e))) b.within

-- a function of one of two
pub chosen : {A B : Type 0} (f : A → B) (t : Bool) (x y : A) → f (cond t x y) ≡ cond t (f x) (f y)
chosen f true x y = refl
chosen f false x y = refl

-- a byte more of the content
pub with_ending : (b : ℕ) (content l : List ℕ) → with b (ending content l) ≡ ending (b ∷ content) l
unfolding with ending after_cr
with_ending b content [] = refl
with_ending b content (c ∷ []) = simp (chosen (with b))
with_ending b content (c ∷ d ∷ l) = simp (chosen (with b))

pub with_closed : (b : ℕ) (content l : List ℕ) → with b (closed content l) ≡ closed (b ∷ content) l
unfolding with closed
with_closed b content [] = refl
with_closed b content (c ∷ l) = simp (chosen (with b), with_ending b content l)
