-- Nothing else is taken: what the reader accepts, the writer writes again, byte for byte, from what was left; and 19 is refused exactly of other texts.
use mathlib.Core.Path.{◌≡◌, refl, sym, ◌∙◌, ap, subst}
use mathlib.Core.Logic.{◌↔◌, ◌≢◌}
use mathlib.Core.Bool.{Bool, true, false, not, cond, ◌&&◌, ◌||◌, true≢false}
use mathlib.Core.List.{List, [], ◌∷◌}
use mathlib.Core.Option.{Option, some, none, get_or}
use Prim.Native.Nat.{ℕ, ◌≤◌}
use native.Mathlib.Omega.{arith}
use lib.ListN.{length}
use lib.Dec.{eqb, ltb}
use borrow.Author.Tests.{le-ltb, eqb-true, eq-eqb}
use Rattle.residue.specs.Layout.{over, length_fill}
use Rattle.residue.proofs.Tests.{neither}
use Rattle.specification.specs.Refusal.{Case, first_of}
use Rattle.specification.specs.Settings.{settings_cases}
use Rattle.specification.specs.Tables.{Tables, too_short, recognised, held_in}
use Rattle.specification.specs.Tables.{written as writtenOver}
use Rattle.specification.proofs.agreement.Refusals.{large_of, not_short, written_large}
use Rattle.json_text.specs.Documents.{Document, written, fitting, well_formed, bytes_only}
use Rattle.json_sheets.specs.Sheets.{document_of, settings_in, state_count, row_count_in, tables_in}
use Rattle.json_text.specs.Reading.{read, is_none}
use Rattle.json_sheets.specs.Calls.{text_size, sheet_cases, wrote, writing, write_cases, write_outcome, read_refused, sheet_taken, read_accepted, document_said, document_cases, read_cases, read_outcome}
use Rattle.json_text.proofs.Digits.{both}
use Rattle.json_text.proofs.RoundTrip.{read_written, written_read}
use Rattle.json_sheets.proofs.SheetDocuments.{few_leads}
use Rattle.json_sheets.proofs.DocumentBack.{document_back}
use Rattle.json_sheets.proofs.SizedTables.{sized_in, sized_held, known_over}
use Rattle.json_sheets.proofs.Passed.{Passed, passed_of, of_passed}

-- the first two cases
two_pass : (a b : Bool) (l : List Case) → first_of 0 ((a, 1) ∷ (b, 19) ∷ l) ≡ 0 → (a ≡ false) × (b ≡ false) × (first_of 0 l ≡ 0)
unfolding first_of
two_pass true b l e = absurd (omega arith)
two_pass false true l e = absurd (omega arith)
two_pass false false l e = (refl, refl, e)

some_there : {A : Type 0} (o : Option A) (a : A) → is_none o ≡ false → o ≡ some (get_or o a)
unfolding is_none
some_there none a e = absurd (true≢false e)
some_there (some b) a e = refl

module _ (text : List ℕ) (u : Tables) (w : List ℕ) (fine : first_of 0 (read_cases text u w) ≡ 0) where
  abbrev pub d : Document
  d = document_said text

  passes : (ltb text_size (length text) ≡ false) × (is_none (read text) ≡ false) × (first_of 0 (document_cases d u w) ≡ 0)
  unfolding read_cases
  passes = two_pass (ltb text_size (length text)) (is_none (read text)) (document_cases d u w) fine

  is_read : read text ≡ some d
  unfolding document_said
  is_read = some_there (read text) _ passes.1

  pub is_text : (text ≡ written d) × (well_formed d ≡ true)
  is_text = written_read text d is_read

  pub taken : read_outcome text u w ≡ sheet_taken (settings_in d) (state_count d) (row_count_in d) (tables_in d) u w
  unfolding read_outcome read_accepted
  taken = rw fine

  pub eight : length (settings_in d).weights ≡ 8
  unfolding settings_in
  eight = length_fill 8 d.weights

  pub passed : Passed (settings_in d) (too_short u || ltb (length w) 8) (state_count d) (row_count_in d) (tables_in d)
  unfolding document_cases
  passed = passed_of (settings_in d) (too_short u || ltb (length w) 8) (state_count d) (row_count_in d) (tables_in d) eight passes.2

  abbrev pub left : Tables
  left = writtenOver (tables_in d) u

  pub again : document_of (settings_in d) (state_count d) (row_count_in d) left ≡ d
  unfolding well_formed settings_in
  again = document_back d u (both {a = bytes_only d} {b = fitting d} is_text.1).1 passed.sheet.settings.few passed.sheet.few
      (few_leads (settings_in d) (state_count d) (row_count_in d) (tables_in d) passed.sheet)

  pub known : recognised (settings_in d) (state_count d) (row_count_in d) left ≡ true
  known = subst (λ (t : Tables). recognised (settings_in d) (state_count d) (row_count_in d) (writtenOver t u) ≡ true) (sized_in d)
      (known_over (settings_in d) (state_count d) (row_count_in d) (tables_in d) passed.sheet u)

  long : too_short left ≡ false
  long =
      let e = sym (sized_in d) ∙ sized_held (settings_in d) (state_count d) (row_count_in d) (tables_in d) passed.sheet in
      subst (λ (t : Tables). too_short (writtenOver t u) ≡ false) (sym e)
      (not_short _ (written_large (settings_in d) (held_in (settings_in d) (state_count d) (tables_in d)) u (large_of u (neither (too_short u) (ltb (length w) 8) passed.enough).0)))

  -- What was accepted is written again.
  pub written_again : (buffer : List ℕ) → text_size ≤ length buffer
      → write_outcome (settings_in d) (state_count d) (row_count_in d) left buffer ≡ wrote (record { refusal = 0; count = length text }) (over text buffer)
  unfolding write_outcome writing write_cases
  written_again buffer room =
      let none = of_passed (settings_in d) (too_short left || ltb (length buffer) text_size) (state_count d) (row_count_in d) left
      (record { sheet = record { settings = passed.sheet.settings; eight = eight; few = passed.sheet.few; known = known }; enough = rw (long, le-ltb (length buffer) text_size room) }) in
      rw (none, again, sym is_text.0)

-- The refusal is the first case that holds.
pub refusal_is : (text : List ℕ) (u : Tables) (w : List ℕ) → (read_outcome text u w).answer.refusal ≡ first_of 0 (read_cases text u w)
unfolding read_outcome read_accepted sheet_taken read_refused
refusal_is text u w = go (first_of 0 (read_cases text u w)) (eqb (first_of 0 (read_cases text u w)) 0) refl
  where
    go : (k : ℕ) (x : Bool) → eqb k 0 ≡ x → (cond x (read_accepted (document_said text) u w) (read_refused k u w)).answer.refusal ≡ k
    go k true e = sym (eqb-true k 0 e)
    go k false e = refl

-- a number that no case has
avoids : ℕ → List Case → Bool
avoids k [] = true
avoids k (c ∷ l) = not (eqb c.1 k) && avoids k l

first_avoids : (k : ℕ) (l : List Case) → avoids k l ≡ true → first_of 0 l ≡ k → 0 ≡ k
unfolding avoids first_of
first_avoids k [] a e = e
first_avoids k ((true, j) ∷ l) a e = absurd (true≢false (sym (both {a = not (eqb j k)} {b = avoids k l} a).0 ∙ ap not (eq-eqb j k e)))
first_avoids k ((false, j) ∷ l) a e = first_avoids k l (both {a = not (eqb j k)} {b = avoids k l} a).1 e

-- 'It refuses with 19 any other text'
pub nineteen : (text : List ℕ) (u : Tables) (w : List ℕ) → length text ≤ text_size
    → ((read_outcome text u w).answer.refusal ≡ 19) ↔ ((d : Document) → well_formed d ≡ true → text ≢ written d)
unfolding read_cases document_cases sheet_cases settings_cases first_of is_none avoids
nineteen text u w h = (to, from)
  where
    short : ltb text_size (length text) ≡ false
    short = le-ltb text_size (length text) h

    to : (read_outcome text u w).answer.refusal ≡ 19 → (d : Document) → well_formed d ≡ true → text ≢ written d
    to e d f g =
        let r : read text ≡ some d = ap read g ∙ read_written d f in
        let k : first_of 0 (read_cases text u w) ≡ 19 = sym (refusal_is text u w) ∙ e in
        let z = first_avoids 19 (document_cases (document_said text) u w) refl (sym (rw (short, r) refl) ∙ k) in
        absurd (omega arith)

    from : ((d : Document) → well_formed d ≡ true → text ≢ written d) → (read_outcome text u w).answer.refusal ≡ 19
    from f = refusal_is text u w ∙ go (read text) refl
      where
        go : (o : Option Document) → read text ≡ o → first_of 0 ((ltb text_size (length text), 1) ∷ (is_none o, 19) ∷ document_cases (document_said text) u w) ≡ 19
        go none e = rw short
        go (some d) e = let p = written_read text d e in absurd (f d p.1 p.0)

-- 'a well-formed text whose numbers are no sheet gets the later numbers'
pub later_numbers : (d : Document) (u : Tables) (w : List ℕ) → well_formed d ≡ true → length (written d) ≤ text_size
    → (read_outcome (written d) u w).answer.refusal ≡ first_of 0 (document_cases d u w)
unfolding read_cases first_of is_none document_said
later_numbers d u w f h = refusal_is (written d) u w ∙ rw (le-ltb text_size (length (written d)) h, read_written d f)
