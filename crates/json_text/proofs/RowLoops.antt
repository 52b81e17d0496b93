-- The same for the reader of rows, each of which is a list.
use mathlib.Core.Path.{◌≡◌, sym, ◌∙◌}
use mathlib.Core.Bool.{true, false}
use mathlib.Core.List.{List, [], ◌∷◌, ◌++◌}
use Prim.Native.Nat.{ℕ, ◌+◌, ◌≤◌, ◌<◌}
use native.Mathlib.Numerals.{add-one}
use lib.ListN.{length}
use Rattle.json_text.specs.Writing.{list_text}
use Rattle.json_text.specs.Documents.{are_bytes}
use Rattle.json_text.specs.Reading.{read_list}
use Rattle.json_text.specs.Places.{found, broken, here, list_at, rows_at, items_from}
use Rattle.json_text.proofs.PlacedDocuments.{placed_list}
use Rattle.json_text.proofs.DocumentTexts.{list_exact}
use Rattle.json_text.proofs.ItemLoops.{place_behind, items_broken, items_close, items_comma, items_neither, array_none, array_empty, array_opens}

-- these rows are read, and what follows from the place on is the rest of them
abbrev pub Rest : List ℕ → ℕ → List (List ℕ) → ℕ → Type 0
Rest text at items i = items_from list_at items text i ≡ rows_at text at

module _ (text : List ℕ) (at : ℕ) where
  pub rows_none : here 91 text at ≡ false → rows_at text at ≡ broken
  unfolding rows_at
  rows_none = array_none list_at text at

  pub rows_empty : here 91 text at ≡ true → here 93 text (at + 1) ≡ true → rows_at text at ≡ found [] (at + 1 + 1)
  unfolding rows_at
  rows_empty e f = rw (add-one (at + 1), add-one at) (array_empty list_at text at e (rw (sym (add-one at)) f))

  pub rows_opens : here 91 text at ≡ true → here 93 text (at + 1) ≡ false → Rest text at [] (at + 1)
  unfolding rows_at
  rows_opens e f = rw (add-one at) (sym (array_opens list_at text at e (rw (sym (add-one at)) f)))

  module _ (items : List (List ℕ)) (i : ℕ) (h : i ≤ length text) (rest : Rest text at items i) where
    pub rows_broken : broken ≡ list_at text i → rows_at text at ≡ broken
    rows_broken e = sym rest ∙ items_broken list_text are_bytes read_list list_at list_exact placed_list items text i h (sym e)

    module _ (v : List ℕ) (next : ℕ) (e : found v next ≡ list_at text i) where
      pub rows_place : (i < next) × (next ≤ length text)
      rows_place = let b = place_behind list_text are_bytes read_list list_at list_exact placed_list text i v next h (sym e) in (b.1, b.2)

      pub rows_closed : here 93 text next ≡ true → rows_at text at ≡ found (items ++ (v ∷ [])) (next + 1)
      rows_closed f = rw (add-one next) (sym rest ∙ items_close list_text are_bytes read_list list_at list_exact placed_list items text i h v next (sym e) f)

      pub rows_comma : here 93 text next ≡ false → here 44 text next ≡ true → Rest text at (items ++ (v ∷ [])) (next + 1)
      rows_comma f g = rw (add-one next) (sym (items_comma list_text are_bytes read_list list_at list_exact placed_list items text i h v next (sym e) f g) ∙ rest)

      pub rows_neither : here 93 text next ≡ false → here 44 text next ≡ false → rows_at text at ≡ broken
      rows_neither f g = sym rest ∙ items_neither list_text are_bytes read_list list_at list_exact placed_list items text i h v next (sym e) f g
