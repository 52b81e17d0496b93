-- The loop that gathers the items of an array, turn by turn: no turns are counted, since each item takes a byte.
use mathlib.Core.Path.{◌≡◌, refl, sym, ◌∙◌, ap}
use mathlib.Core.Bool.{Bool, true, false, cond}
use mathlib.Core.List.{List, [], ◌∷◌, ◌++◌}
use Prim.Native.Nat.{ℕ, zero, suc, ◌+◌, ◌-◌, ◌≤◌, ◌<◌}
use native.Mathlib.Omega.{arith}
use lib.ListN.{length, drop, length-append, length-drop}
use Rattle.notation.specs.Digits.{is_digit}
use Rattle.notation.specs.Fields.{part}
use Rattle.json_text.specs.Reading.{Reader}
use Rattle.json_text.specs.Places.{Found, found, broken, Cursor, seen, after_at, here, exactly_at, behind_at, items_at, items_from, opened_at, array_at}
use Rattle.json_text.proofs.Readers.{Exact, not_faulty}
use Rattle.json_text.proofs.Places.{Placed, found_inside, here_inside}

module _ {A : Type 0} (write : A → List ℕ) (fine : A → Bool) (r : Reader A) (q : Cursor A) (ex : Exact write fine r) (p : Placed r q) where
  -- what is written is not empty
  not_empty : (a : A) → fine a ≡ true → 1 ≤ length (write a)
  unfolding is_digit
  not_empty a f = go (write a) (ex.takes a (93 ∷ []) f refl)
    where
      go : (l : List ℕ) → r (l ++ (93 ∷ [])) ≡ part a (93 ∷ []) → 1 ≤ length l
      go [] e = not_faulty (sym (ex.shut []) ∙ e)
      go (b ∷ l) e = omega arith

  -- The place behind: as many bytes further as are written.
  pub place_behind : (text : List ℕ) (at : ℕ) (a : A) (next : ℕ) → at ≤ length text → q text at ≡ found a next → (next ≡ at + length (write a)) × (at < next) × (next ≤ length text)
  unfolding seen
  place_behind text at a next h e =
      let i : next ≤ length text = found_inside p h e in
      let o = ex.only (drop at text) a (drop next text) (sym (p.said text at h) ∙ ap (seen text) e) in
      let l = ap (λ (z : List ℕ). length z) o.0 in
      let k = not_empty a o.1 in
      let m : next ≡ at + length (write a) = omega (arith, length-drop at text, length-append (write a) (drop next text), length-drop next text) in
      (m, omega arith, i)

  -- where the text is at its end there is no item
  none_there : (text : List ℕ) (at : ℕ) → length text ≤ at → at ≤ length text → (x : Found A) → q text at ≡ x → x ≡ broken
  none_there text at h k (found a next) e = let b = place_behind text at a next k e in absurd (omega (arith, b.1, b.2))
  none_there text at h k broken e = refl

  -- any number of turns that is enough
  turns_free : (turns more : ℕ) (items : List A) (text : List ℕ) (at : ℕ) → at ≤ length text → length text - at ≤ turns → length text - at ≤ more
      → items_at q turns items text at ≡ items_at q more items text at
  unfolding items_at after_at behind_at
  turns_free zero zero items text at h i j = refl
  turns_free zero (suc more) items text at h i j = rw (none_there text at (omega arith) h (q text at) refl)
  turns_free (suc turns) zero items text at h i j = rw (none_there text at (omega arith) h (q text at) refl)
  turns_free (suc turns) (suc more) items text at h i j = go (q text at) refl (λ a next k e f. turns_free turns more (items ++ (a ∷ [])) text next k e f)
    where
      go : (x : Found A) → q text at ≡ x
          → ((a : A) (next : ℕ) → next ≤ length text → length text - next ≤ turns → length text - next ≤ more → items_at q turns (items ++ (a ∷ [])) text next ≡ items_at q more (items ++ (a ∷ [])) text next)
          → after_at x (λ a next. behind_at text (items ++ (a ∷ [])) (items_at q turns (items ++ (a ∷ [])) text) next)
          ≡ after_at x (λ a next. behind_at text (items ++ (a ∷ [])) (items_at q more (items ++ (a ∷ [])) text) next)
      go broken e rec = refl
      go (found a next) e rec = pick (here 44 text next) refl
        where
          b : (next ≡ at + length (write a)) × (at < next) × (next ≤ length text)
          b = place_behind text at a next h e

          pick : (y : Bool) → here 44 text next ≡ y
              → cond (here 93 text next) (found (items ++ (a ∷ [])) (suc next)) (cond y (items_at q turns (items ++ (a ∷ [])) text (suc next)) broken)
              ≡ cond (here 93 text next) (found (items ++ (a ∷ [])) (suc next)) (cond y (items_at q more (items ++ (a ∷ [])) text (suc next)) broken)
          pick true f = let k = here_inside 44 text next f in
              ap (λ (z : Found (List A)). cond (here 93 text next) (found (items ++ (a ∷ [])) (suc next)) z) (rec a (suc next) k (omega (arith, b.1)) (omega (arith, b.1)))
          pick false f = refl

  -- One turn: an item, and what stands behind it.
  module _ (items : List A) (text : List ℕ) (at : ℕ) (h : at ≤ length text) where
    pub items_broken : q text at ≡ broken → items_from q items text at ≡ broken
    unfolding items_at after_at
    items_broken e = go (length text - at)
      where
        go : (turns : ℕ) → items_at q turns items text at ≡ broken
        go zero = refl
        go (suc turns) = rw e

    module _ (a : A) (next : ℕ) (e : q text at ≡ found a next) where
      turn : items_from q items text at ≡ behind_at text (items ++ (a ∷ [])) (items_at q (length text - suc at) (items ++ (a ∷ [])) text) next
      unfolding items_at after_at
      turn =
          let b = place_behind text at a next h e in
          let n : length text - at ≡ suc (length text - suc at) = omega (arith, b.1, b.2) in
          rw (n, e)

      pub items_close : here 93 text next ≡ true → items_from q items text at ≡ found (items ++ (a ∷ [])) (suc next)
      unfolding behind_at
      items_close f = turn ∙ rw f

      pub items_comma : here 93 text next ≡ false → here 44 text next ≡ true → items_from q items text at ≡ items_from q (items ++ (a ∷ [])) text (suc next)
      unfolding behind_at
      items_comma f g =
          let b = place_behind text at a next h e in
          turn ∙ rw (f, g) (turns_free (length text - suc at) (length text - suc next) (items ++ (a ∷ [])) text (suc next) (here_inside 44 text next g) (omega (arith, b.1)) (omega arith))

      pub items_neither : here 93 text next ≡ false → here 44 text next ≡ false → items_from q items text at ≡ broken
      unfolding behind_at
      items_neither f g = turn ∙ rw (f, g)

-- The array's first two bytes.
module _ {A : Type 0} (q : Cursor A) (text : List ℕ) (at : ℕ) where
  pub array_none : here 91 text at ≡ false → array_at q text at ≡ broken
  unfolding array_at exactly_at after_at
  array_none e = rw e

  pub array_empty : here 91 text at ≡ true → here 93 text (suc at) ≡ true → array_at q text at ≡ found [] (suc (suc at))
  unfolding array_at exactly_at after_at opened_at
  array_empty e f = rw (e, f)

  pub array_opens : here 91 text at ≡ true → here 93 text (suc at) ≡ false → array_at q text at ≡ items_from q [] text (suc at)
  unfolding array_at exactly_at after_at opened_at
  array_opens e f = rw (e, f)
