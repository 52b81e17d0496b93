-- A list whose first j entries a loop has written, entry i as g i: the law of every loop that writes a slice from its start, be it a map in place, a copy or a sum.
use mathlib.Core.Path.{◌≡◌, refl, sym, ap, ap₂, ◌∙◌}
use mathlib.Core.List.{List, [], ◌∷◌, ◌++◌, append-nil}
use Prim.Native.Nat.{ℕ, zero, suc, ◌+◌, ◌<◌, ◌≤◌}
use native.Mathlib.Nat.{not-suc-le-zero, le_of_suc-le-suc}
use native.Mathlib.Numerals.{add-one}
use native.Mathlib.Omega.{arith}
use lib.ListN.{length, get_or, set, drop, drop_of_length-le}
use lib.Seq.{ext_get_or}

module _ {A : Type 0} where
  unfoldable pub filled : (ℕ → A) → ℕ → List A → List A
  filled g zero l = l
  filled g (suc j) [] = []
  filled g (suc j) (x ∷ l) = g 0 ∷ filled (λ i. g (suc i)) j l

  pub filled_none : (g : ℕ → A) (l : List A) → l ≡ filled g 0 l
  unfolding filled
  filled_none g l = refl

  filled_length : (g : ℕ → A) (j : ℕ) (l : List A) → length (filled g j l) ≡ length l
  unfolding filled
  filled_length g zero l = refl
  filled_length g (suc j) [] = refl
  filled_length g (suc j) (x ∷ l) = ap suc (filled_length (λ i. g (suc i)) j l)

  filled_here : (g : ℕ → A) (j : ℕ) (l : List A) (d : A) → get_or (filled g j l) j d ≡ get_or l j d
  unfolding filled
  filled_here g zero l d = refl
  filled_here g (suc j) [] d = refl
  filled_here g (suc j) (x ∷ l) d = filled_here (λ i. g (suc i)) j l d

  one_more : (g : ℕ → A) (j : ℕ) (l : List A) → j < length l → set (filled g j l) j (g j) ≡ filled g (suc j) l
  unfolding filled
  one_more g j [] h = absurd (not-suc-le-zero h)
  one_more g zero (x ∷ l) h = refl
  one_more g (suc j) (x ∷ l) h = ap (λ (r : List A). g 0 ∷ r) (one_more (λ i. g (suc i)) j l (le_of_suc-le-suc h))

  -- the loop's list so far: it is as long as it came, what stands at j is still its own, and a turn writes one entry more
  module _ (g : ℕ → A) (j : ℕ) (l now : List A) (so_far : now ≡ filled g j l) where
    pub kept_length : length now ≡ length l
    kept_length = ap length so_far ∙ filled_length g j l

    pub own : (d : A) → get_or now j d ≡ get_or l j d
    own d = ap (λ (t : List A). get_or t j d) so_far ∙ filled_here g j l d

    pub filled_more : (a : A) → j < length l → a ≡ g j → set now j a ≡ filled g (j + 1) l
    filled_more a h e = ap₂ (λ (t : List A) (b : A). set t j b) so_far e ∙ one_more g j l h ∙ ap (λ (k : ℕ). filled g k l) (sym (add-one j))

  -- the loop has ended: the entries are those of r, and what lies past them is the list's own
  pub filled_front : (g : ℕ → A) (r l : List A) (d : A) → length r ≤ length l → ((i : ℕ) → i < length r → get_or r i d ≡ g i)
      → filled g (length r) l ≡ r ++ drop (length r) l
  unfolding filled
  filled_front g [] l d h e = refl
  filled_front g (y ∷ r) [] d h e = absurd (not-suc-le-zero h)
  filled_front g (y ∷ r) (x ∷ l) d h e =
      ap₂ (λ (z : A) (t : List A). z ∷ t) (sym (e 0 (omega arith))) (filled_front (λ i. g (suc i)) r l d (le_of_suc-le-suc h) (λ i k. e (suc i) (omega arith)))

  pub filled_all : (g : ℕ → A) (j : ℕ) (r l : List A) (d : A) → j ≡ length l → length r ≡ length l → ((i : ℕ) → i < length l → get_or r i d ≡ g i)
      → filled g j l ≡ r
  filled_all g j r l d n h e =
      ap (λ (k : ℕ). filled g k l) (n ∙ sym h) ∙ filled_front g r l d (omega arith) (λ i k. e i (omega arith)) ∙ ap (λ (t : List A). r ++ t) (drop_of_length-le l {i = length r} (omega arith)) ∙ append-nil r

  -- the loop has ended before the list's end: from j on r is the list's own
  pub filled_part : (g : ℕ → A) (j : ℕ) (r l : List A) (d : A) → length r ≡ length l → ((i : ℕ) → i < j → i < length l → get_or r i d ≡ g i)
      → ((i : ℕ) → j ≤ i → i < length l → get_or r i d ≡ get_or l i d) → filled g j l ≡ r
  unfolding filled
  filled_part g zero r l d h e k = ext_get_or d l r (sym h) (λ i b. sym (k i (omega arith) b))
  filled_part g (suc j) [] [] d h e k = refl
  filled_part g (suc j) (y ∷ r) [] d h e k = absurd (omega arith)
  filled_part g (suc j) [] (x ∷ l) d h e k = absurd (omega arith)
  filled_part g (suc j) (y ∷ r) (x ∷ l) d h e k =
      ap₂ (λ (z : A) (t : List A). z ∷ t) (sym (e 0 (omega arith) (omega arith)))
      (filled_part (λ i. g (suc i)) j r l d (omega arith) (λ i a b. e (suc i) (omega arith) (omega arith)) (λ i a b. k (suc i) (omega arith) (omega arith)))
