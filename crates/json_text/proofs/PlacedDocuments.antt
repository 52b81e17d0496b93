-- The whole reader by places: it reads what `read` reads.
use mathlib.Core.Path.{◌≡◌, refl, ◌∙◌, ap}
use mathlib.Core.Bool.{cond, ◌&&◌}
use mathlib.Core.List.{List, [], ◌∷◌}
use mathlib.Core.Option.{some, none}
use Prim.Native.Nat.{ℕ, ◌≤◌, ◌<◌}
use native.Mathlib.Decide.{dec_lt}
use native.Mathlib.Omega.{arith}
use lib.ListN.{length, drop, drop_of_length-le}
use lib.Seq.{drop-cons}
use lib.Dec.{eqb}
use borrow.Author.Tests.{eq-eqb, ne_eqb}
use Rattle.notation.specs.Fields.{part}
use Rattle.json_text.specs.Writing.{key}
use Rattle.json_text.specs.Documents.{Document, fitting}
use Rattle.json_text.specs.Documents.{coefficients_name, counts_name, leads_name, modulus_name, order_name, points_name, standard_name, variables_name, weights_name}
use Rattle.json_text.specs.Reading.{Reader, done, exactly, read_number, read_list, read_rows, read_member, read_document, whole, read}
use Rattle.json_text.specs.Places.{Found, found, broken, Cursor, seen, Inside, done_at, exactly_at, number_at, list_at, rows_at}
use Rattle.json_text.specs.Places.{behind_word, member_at, end_at, middle_at, document_at, whole_at, read_at}
use Rattle.json_text.proofs.Places.{Placed, placed_after, placed_exactly, placed_number}
use Rattle.json_text.proofs.PlacedArrays.{placed_array}

pub placed_list : Placed read_list list_at
unfolding read_list list_at
placed_list = placed_array read_number number_at placed_number

pub placed_rows : Placed read_rows rows_at
unfolding read_rows rows_at
placed_rows = placed_array read_list list_at placed_list

pub placed_done : {A : Type 0} (a : A) → Placed (done a) (done_at a)
unfolding done done_at seen
placed_done a = record { said = λ text at h. refl; inside = λ text at h. h }

pub placed_member : {A : Type 0} (r : Reader A) (q : Cursor A) → Placed r q → (before : ℕ) (name : List ℕ) → Placed (read_member before name r) (member_at before name q)
unfolding read_member behind_word
placed_member r q p before name = placed_after (exactly (before ∷ key name)) (exactly_at (before ∷ key name)) (placed_exactly (before ∷ key name)) (λ u. r) (λ u. q) (λ u. p)

pub placed_document : Placed read_document document_at
unfolding read_document document_at middle_at end_at
placed_document =
    placed_after _ _ (placed_member read_rows rows_at placed_rows 123 coefficients_name) _ _ (λ a1.
    placed_after _ _ (placed_member read_list list_at placed_list 44 counts_name) _ _ (λ a2.
    placed_after _ _ (placed_member read_rows rows_at placed_rows 44 leads_name) _ _ (λ a3.
    placed_after _ _ (placed_member read_number number_at placed_number 44 modulus_name) _ _ (λ a4.
    placed_after _ _ (placed_member read_number number_at placed_number 44 order_name) _ _ (λ a5.
    placed_after _ _ (placed_member read_rows rows_at placed_rows 44 points_name) _ _ (λ a6.
    placed_after _ _ (placed_member read_rows rows_at placed_rows 44 standard_name) _ _ (λ a7.
    placed_after _ _ (placed_member read_number number_at placed_number 44 variables_name) _ _ (λ a8.
    placed_after _ _ (placed_member read_list list_at placed_list 44 weights_name) _ _ (λ a9.
    placed_after _ _ (placed_exactly (125 ∷ [])) _ _ (λ u. placed_done _))))))))))

-- nothing behind the document
whole_said : (text : List ℕ) (x : Found Document) → Inside (length text) x → whole_at text x ≡ whole (seen text x)
unfolding whole_at whole seen
whole_said text broken i = refl
whole_said text (found d next) i = go (dec_lt next (length text))
  where
    go : Dec (next < length text) → cond (eqb next (length text) && fitting d) (some d) none ≡ whole (part d (drop next text))
    go (yes k) = rw (ne_eqb next (length text) (λ e. omega arith), drop-cons text next 0 k)
    go (no k) = let e : length text ≤ next = omega (arith, k) in let f : next ≡ length text = omega arith in rw (eq-eqb next (length text) f, drop_of_length-le text e)

-- The reader by places is the reader.
pub read_at_lem : (text : List ℕ) → read_at text ≡ read text
unfolding read_at read
read_at_lem text =
    whole_said text (document_at text 0) (placed_document.inside text 0 (omega arith)) ∙ ap whole (placed_document.said text 0 (omega arith))
