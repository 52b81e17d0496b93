-- Arrays by places: the loop that gathers items behind those that are done.
use mathlib.Core.Path.{◌≡◌, refl, sym, ◌∙◌, ap}
use mathlib.Core.Bool.{Bool, true, false, cond}
use mathlib.Core.List.{List, [], ◌∷◌, ◌++◌, append_assoc}
use Prim.Native.Nat.{ℕ, zero, suc, ◌-◌, ◌≤◌, ◌<◌}
use native.Mathlib.Decide.{dec_lt}
use native.Mathlib.Omega.{arith}
use lib.ListN.{length, get_or, drop, drop_of_length-le, length-drop}
use lib.Seq.{drop-cons}
use lib.Dec.{eqb}
use Rattle.notation.specs.Fields.{Part, part, faulty, with_first}
use Rattle.json_text.specs.Reading.{Reader, after, exactly, behind_item, read_items, read_opened, read_array}
use Rattle.json_text.specs.Places.{Found, found, broken, Cursor, seen, Inside, after_at, here, exactly_at, behind_at, items_at, opened_at, array_at}
use Rattle.json_text.proofs.Places.{Placed, placed_after, here_in, here_out, here_inside, seen_cond, inside_cond, placed_exactly}

-- what is read behind items that are done
with_all : {A : Type 0} → List A → Part (List A) → Part (List A)
with_all items (part l rest) = part (items ++ l) rest
with_all items faulty = faulty

all_none : {A : Type 0} (p : Part (List A)) → with_all [] p ≡ p
unfolding with_all
all_none (part l rest) = refl
all_none faulty = refl

all_more : {A : Type 0} (items : List A) (a : A) (p : Part (List A)) → with_all (items ++ (a ∷ [])) p ≡ with_all items (with_first a p)
unfolding with_all with_first
all_more items a (part l rest) = ap (λ (z : List _). part z rest) (append_assoc items (a ∷ []) l)
all_more items a faulty = refl

all_cond : {A : Type 0} (items : List A) (x : Bool) (u v : Part (List A)) → with_all items (cond x u v) ≡ cond x (with_all items u) (with_all items v)
all_cond items true u v = refl
all_cond items false u v = refl

module _ {A : Type 0} (r : Reader A) (q : Cursor A) (p : Placed r q) where
  -- behind an item
  behind_said : (text : List ℕ) (items : List A) (a : A) (turns next : ℕ) → next ≤ length text
      → (suc next ≤ length text → seen text (items_at q turns (items ++ (a ∷ [])) text (suc next)) ≡ with_all (items ++ (a ∷ [])) (read_items r turns (drop (suc next) text)))
      → seen text (behind_at text (items ++ (a ∷ [])) (items_at q turns (items ++ (a ∷ [])) text) next) ≡ with_all items (behind_item a (read_items r turns) (drop next text))
  unfolding behind_at behind_item seen with_all
  behind_said text items a turns next h rec = go (dec_lt next (length text))
    where
      all : List A
      all = items ++ (a ∷ [])

      c : ℕ
      c = get_or text next 0

      go : Dec (next < length text) → seen text (cond (here 93 text next) (found all (suc next)) (cond (here 44 text next) (items_at q turns all text (suc next)) broken)) ≡ with_all items (behind_item a (read_items r turns) (drop next text))
      go (yes k) = rw (here_in 93 text next k, here_in 44 text next k, drop-cons text next 0 k)
          (seen_cond text (eqb c 93) (found all (suc next)) (cond (eqb c 44) (items_at q turns all text (suc next)) broken)
          ∙ ap (λ (z : Part (List A)). cond (eqb c 93) (part all (drop (suc next) text)) z)
          (seen_cond text (eqb c 44) (items_at q turns all text (suc next)) broken
          ∙ ap (λ (z : Part (List A)). cond (eqb c 44) z faulty) (rec k ∙ all_more items a (read_items r turns (drop (suc next) text)))
          ∙ sym (all_cond items (eqb c 44) (with_first a (read_items r turns (drop (suc next) text))) faulty))
          ∙ sym (all_cond items (eqb c 93) (part (a ∷ []) (drop (suc next) text)) _))
      go (no k) = let e : length text ≤ next = omega (arith, k) in rw (here_out 93 text next e, here_out 44 text next e, drop_of_length-le text e)

  items_said : (turns : ℕ) (items : List A) (text : List ℕ) (at : ℕ) → at ≤ length text → seen text (items_at q turns items text at) ≡ with_all items (read_items r turns (drop at text))
  unfolding items_at read_items seen with_all after_at after
  items_said zero items text at h = refl
  items_said (suc turns) items text at h = go (q text at) (p.inside text at h) (p.said text at h) (λ a next k. items_said turns (items ++ (a ∷ [])) text next k)
    where
      go : (x : Found A) → Inside (length text) x → seen text x ≡ r (drop at text)
          → ((a : A) (next : ℕ) → next ≤ length text → seen text (items_at q turns (items ++ (a ∷ [])) text next) ≡ with_all (items ++ (a ∷ [])) (read_items r turns (drop next text)))
          → seen text (after_at x (λ a next. behind_at text (items ++ (a ∷ [])) (items_at q turns (items ++ (a ∷ [])) text) next)) ≡ with_all items (after (r (drop at text)) (λ a. behind_item a (read_items r turns)))
      go (found a next) i e rec = rw (sym e) (behind_said text items a turns next i (rec a (suc next)))
      go broken i e rec = rw (sym e)

  items_inside : (turns : ℕ) (items : List A) (text : List ℕ) (at : ℕ) → at ≤ length text → Inside (length text) (items_at q turns items text at)
  unfolding items_at after_at behind_at
  items_inside zero items text at h = tt
  items_inside (suc turns) items text at h = go (q text at) (p.inside text at h) (λ a next k. items_inside turns (items ++ (a ∷ [])) text next k)
    where
      go : (x : Found A) → Inside (length text) x → ((a : A) (next : ℕ) → next ≤ length text → Inside (length text) (items_at q turns (items ++ (a ∷ [])) text next))
          → Inside (length text) (after_at x (λ a next. behind_at text (items ++ (a ∷ [])) (items_at q turns (items ++ (a ∷ [])) text) next))
      go (found a next) i rec =
          inside_cond (length text) (here 93 text next) (found (items ++ (a ∷ [])) (suc next)) _ (λ e. here_inside 93 text next e)
          (λ z. inside_cond (length text) (here 44 text next) (items_at q turns (items ++ (a ∷ [])) text (suc next)) broken (λ e. rec a (suc next) (here_inside 44 text next e)) (λ e. tt))
      go broken i rec = tt

  opened_said : (text : List ℕ) (at : ℕ) → at ≤ length text → seen text (opened_at q text at) ≡ read_opened r (drop at text)
  unfolding opened_at read_opened seen items_at
  opened_said text at h = go (dec_lt at (length text))
    where
      go : Dec (at < length text) → seen text (cond (here 93 text at) (found [] (suc at)) (items_at q (length text - at) [] text at)) ≡ read_opened r (drop at text)
      go (yes k) =
          let n : length text - at ≡ suc (length (drop (suc at) text)) = omega (arith, length-drop (suc at) text) in
          let e : seen text (items_at q (length text - at) [] text at) ≡ read_items r (length text - at) (drop at text) = items_said (length text - at) [] text at h ∙ all_none (read_items r (length text - at) (drop at text)) in
          seen_cond text (here 93 text at) (found [] (suc at)) (items_at q (length text - at) [] text at)
          ∙ ap (λ (z : Part (List A)). cond (here 93 text at) (part [] (drop (suc at) text)) z) e
          ∙ rw (here_in 93 text at k, drop-cons text at 0 k, n)
      go (no k) = let e : length text ≤ at = omega (arith, k) in let z : length text - at ≡ 0 = omega arith in rw (here_out 93 text at e, drop_of_length-le text e, z)

  opened_inside : (text : List ℕ) (at : ℕ) → at ≤ length text → Inside (length text) (opened_at q text at)
  unfolding opened_at
  opened_inside text at h = inside_cond (length text) (here 93 text at) (found [] (suc at)) (items_at q (length text - at) [] text at) (λ e. here_inside 93 text at e) (λ e. items_inside (length text - at) [] text at h)

  pub placed_array : Placed (read_array r) (array_at q)
  unfolding read_array array_at
  placed_array =
      placed_after (exactly (91 ∷ [])) (exactly_at (91 ∷ [])) (placed_exactly (91 ∷ [])) (λ u. read_opened r) (λ u. opened_at q) (λ u. record { said = opened_said; inside = opened_inside })
