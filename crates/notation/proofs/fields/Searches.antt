-- Searches along a text: from the place i on they end, or go on with the next place.
use mathlib.Core.Path.{◌≡◌, ap, ◌∙◌, sym}
use mathlib.Core.Bool.{Bool, true, false}
use mathlib.Core.List.{List, [], ◌∷◌}
use Prim.Native.Nat.{ℕ, suc, ◌+◌, ◌<◌, ◌≤◌}
use native.Mathlib.Numerals.{add-one}
use native.Mathlib.Omega.{arith}
use lib.ListN.{length, get_or, drop, drop_of_length-le}
use lib.Seq.{drop-cons}
use borrow.Author.Tests.{eq-eqb, ne_eqb}
use Rattle.notation.specs.Fields.{quote, front}
use Rattle.notation.specs.Spans.{closing}

here : (i k : ℕ) → k ≡ 0 → i ≡ i + k
here i k e = omega arith

next : (i k l : ℕ) → k ≡ suc l → i + 1 + l ≡ i + k
next i k l e = omega arith

module _ (kind : ℕ → Bool) (t : List ℕ) (i : ℕ) where
  pub front_end : length t ≤ i → i ≡ i + front kind (drop i t)
  unfolding front
  front_end h = here i _ (rw (drop_of_length-le t h))

  pub front_stop : i < length t → kind (get_or t i 0) ≡ false → i ≡ i + front kind (drop i t)
  unfolding front
  front_stop h e = here i _ (rw (drop-cons t i 0 h) (simp e))

  pub front_on : i < length t → kind (get_or t i 0) ≡ true → i + 1 + front kind (drop (i + 1) t) ≡ i + front kind (drop i t)
  unfolding front
  front_on h e = next i _ _ (rw (add-one, drop-cons t i 0 h) (simp e))

one : (b : ℕ) → b ≡ quote → closing (b ∷ []) ≡ 0
unfolding closing
one b e = simp (eq-eqb b quote e)

two : (b c : ℕ) (l : List ℕ) → b ≡ quote → c ≡ quote → closing (b ∷ c ∷ l) ≡ suc (suc (closing l))
unfolding closing
two b c l e f = simp (eq-eqb b quote e, eq-eqb c quote f)

last : (b c : ℕ) (l : List ℕ) → b ≡ quote → (c ≡ quote → ⊥) → closing (b ∷ c ∷ l) ≡ 0
unfolding closing
last b c l e f = simp (eq-eqb b quote e, ne_eqb c quote f)

other : (b : ℕ) (l : List ℕ) → (b ≡ quote → ⊥) → closing (b ∷ l) ≡ suc (closing l)
unfolding closing
other b [] e = simp (ne_eqb b quote e)
other b (c ∷ l) e = simp (ne_eqb b quote e)

module _ (t : List ℕ) (i : ℕ) where
  pub closing_end : length t ≤ i → i ≡ i + closing (drop i t)
  unfolding closing
  closing_end h = here i _ (rw (drop_of_length-le t h))

  pub closing_on : i < length t → (get_or t i 0 ≡ quote → ⊥) → i + 1 + closing (drop (i + 1) t) ≡ i + closing (drop i t)
  closing_on h n = next i _ _ (rw (add-one, drop-cons t i 0 h) (other _ _ n))

  pub closing_last : i < length t → i + 1 ≡ length t → get_or t i 0 ≡ quote → i ≡ i + closing (drop i t)
  closing_last h l e =
      let k : length t ≤ i + 1 = omega arith in
      here i _ (rw (drop-cons t i 0 h, ← (add-one i), drop_of_length-le t k) (one _ e))

  module _ (k : i + 1 < length t) where
    pub cells : drop i t ≡ get_or t i 0 ∷ get_or t (i + 1) 0 ∷ drop (i + 2) t
    cells =
        let h : i < length t = omega arith in
        let f : suc (i + 1) ≡ i + 2 = omega arith in
        drop-cons t i 0 h ∙ ap (λ (l : List ℕ). get_or t i 0 ∷ l)
        (ap (λ (j : ℕ). drop j t) (sym (add-one i)) ∙ drop-cons t (i + 1) 0 k ∙ ap (λ (j : ℕ). get_or t (i + 1) 0 ∷ drop j t) f)

    pub closing_here : get_or t i 0 ≡ quote → (get_or t (i + 1) 0 ≡ quote → ⊥) → i ≡ i + closing (drop i t)
    closing_here e n = here i _ (ap closing cells ∙ last _ _ _ e n)

    pub closing_pair : get_or t i 0 ≡ quote → get_or t (i + 1) 0 ≡ quote → i + 2 + closing (drop (i + 2) t) ≡ i + closing (drop i t)
    closing_pair e n =
        let h = ap closing cells ∙ two _ _ (drop (i + 2) t) e n in
        omega arith
