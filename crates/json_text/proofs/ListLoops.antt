-- The loop of the code's reader of lists of numbers: what it knows of the list before item after item, and each way that it ends.
use mathlib.Core.Path.{◌≡◌, sym, ◌∙◌}
use mathlib.Core.Bool.{true, false}
use mathlib.Core.List.{List, [], ◌∷◌, ◌++◌}
use Prim.Native.Nat.{ℕ, ◌+◌, ◌≤◌, ◌<◌}
use native.Mathlib.Numerals.{add-one}
use lib.ListN.{length}
use Rattle.writing.specs.Decimal.{decimal}
use Rattle.json_text.specs.Documents.{is_byte}
use Rattle.json_text.specs.Reading.{read_number}
use Rattle.json_text.specs.Places.{found, broken, here, number_at, list_at, items_from}
use Rattle.json_text.proofs.Places.{placed_number}
use Rattle.json_text.proofs.DocumentTexts.{number_exact}
use Rattle.json_text.proofs.ItemLoops.{place_behind, items_broken, items_close, items_comma, items_neither, array_none, array_empty, array_opens}

-- these are read, and what follows from the place on is the rest of the list
abbrev pub Rest : List ℕ → ℕ → List ℕ → ℕ → Type 0
Rest text at items i = items_from number_at items text i ≡ list_at text at

module _ (text : List ℕ) (at : ℕ) where
  pub list_none : here 91 text at ≡ false → list_at text at ≡ broken
  unfolding list_at
  list_none = array_none number_at text at

  pub list_empty : here 91 text at ≡ true → here 93 text (at + 1) ≡ true → list_at text at ≡ found [] (at + 1 + 1)
  unfolding list_at
  list_empty e f = rw (add-one (at + 1), add-one at) (array_empty number_at text at e (rw (sym (add-one at)) f))

  pub list_opens : here 91 text at ≡ true → here 93 text (at + 1) ≡ false → Rest text at [] (at + 1)
  unfolding list_at
  list_opens e f = rw (add-one at) (sym (array_opens number_at text at e (rw (sym (add-one at)) f)))

  module _ (items : List ℕ) (i : ℕ) (h : i ≤ length text) (rest : Rest text at items i) where
    pub list_broken : broken ≡ number_at text i → list_at text at ≡ broken
    list_broken e = sym rest ∙ items_broken decimal is_byte read_number number_at number_exact placed_number items text i h (sym e)

    module _ (v next : ℕ) (e : found v next ≡ number_at text i) where
      pub list_place : (i < next) × (next ≤ length text)
      list_place = let b = place_behind decimal is_byte read_number number_at number_exact placed_number text i v next h (sym e) in (b.1, b.2)

      pub list_closed : here 93 text next ≡ true → list_at text at ≡ found (items ++ (v ∷ [])) (next + 1)
      list_closed f = rw (add-one next) (sym rest ∙ items_close decimal is_byte read_number number_at number_exact placed_number items text i h v next (sym e) f)

      pub list_comma : here 93 text next ≡ false → here 44 text next ≡ true → Rest text at (items ++ (v ∷ [])) (next + 1)
      list_comma f g = rw (add-one next) (sym (items_comma decimal is_byte read_number number_at number_exact placed_number items text i h v next (sym e) f g) ∙ rest)

      pub list_neither : here 93 text next ≡ false → here 44 text next ≡ false → list_at text at ≡ broken
      list_neither f g = sym rest ∙ items_neither decimal is_byte read_number number_at number_exact placed_number items text i h v next (sym e) f g
