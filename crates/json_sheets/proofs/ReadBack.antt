-- The two calls as each other's inverse: 'a reader takes back what the writer can write and nothing else'.
use mathlib.Core.Path.{◌≡◌, sym, ◌∙◌, ap}
use mathlib.Core.Bool.{false, ◌||◌}
use mathlib.Core.List.{List}
use Prim.Native.Nat.{ℕ, ◌≤◌}
use native.Mathlib.Omega.{arith}
use lib.ListN.{length, take}
use lib.Dec.{ltb}
use borrow.Author.Tests.{le-ltb}
use Rattle.residue.specs.Layout.{over}
use Rattle.residue.proofs.Layouts.{take_over}
use Rattle.specification.specs.declared.settings.Settings.{Settings}
use Rattle.specification.specs.Refusal.{first_of}
use Rattle.specification.specs.Tables.{Tables, too_short}
use Rattle.json_text.specs.Documents.{Document, written}
use Rattle.json_text.specs.Reading.{is_none}
use Rattle.json_sheets.specs.Sheets.{document_of, settings_in, state_count, row_count_in, tables_in, sized}
use Rattle.json_sheets.specs.Calls.{text_size, wrote, writing, write_cases, write_outcome, sheet_taken, read_accepted, document_said, document_cases, read_cases, read_outcome}
use Rattle.json_sheets.proofs.SheetDocuments.{Checked, count_back, rows_back, settings_back, tables_back}
use Rattle.json_sheets.proofs.SheetFormed.{sheet_read, Same, same_text}
use Rattle.json_sheets.proofs.TextLength.{sheet_bound}
use Rattle.json_sheets.proofs.SizedTables.{known_sized}
use Rattle.json_sheets.proofs.Passed.{Passed, passed_of, of_passed}

-- A sheet that can be written is read back from its text, into any tables and weights that are long enough.
module _ (s : Settings) (n r : ℕ) (t : Tables) (h : Checked s n r t) where
  abbrev d : Document
  d = document_of s n r t

  abbrev pub text : List ℕ
  text = written d

  module _ (u : Tables) (w : List ℕ) (large : too_short u ≡ false) (room : 8 ≤ length w) where
    passed : Passed (settings_in d) (too_short u || ltb (length w) 8) (state_count d) (row_count_in d) (tables_in d)
    passed = rw (settings_back s n r t h, count_back s n r t h, rows_back s n r t h, tables_back s n r t h) (record {
      sheet = record { settings = h.settings; eight = h.eight; few = h.few; known = known_sized s n r t h };
      enough = rw (large, le-ltb (length w) 8 room);
    })

    none_holds : first_of 0 (read_cases text u w) ≡ 0
    unfolding read_cases first_of is_none document_said document_cases
    none_holds = rw (le-ltb text_size (length text) (omega (arith, sheet_bound s n r t h)), sheet_read s n r t h)
        (of_passed (settings_in d) (too_short u || ltb (length w) 8) (state_count d) (row_count_in d) (tables_in d) passed)

    pub text_taken : read_outcome text u w ≡ sheet_taken s n r (sized t) u w
    unfolding read_outcome read_accepted document_said
    text_taken =
        rw (none_holds, sheet_read s n r t h)
        (rw (settings_back s n r t h, count_back s n r t h, rows_back s n r t h, tables_back s n r t h))

-- What the writer hands out, the reader takes back: the settings, n, r, the bytes of the five sizes and the weights.
module _ (s : Settings) (eight : length s.weights ≡ 8) (n r : ℕ) (t : Tables) (buffer : List ℕ) (fine : first_of 0 (write_cases s n r t buffer) ≡ 0) where
  pub writable : Passed s (too_short t || ltb (length buffer) text_size) n r t
  unfolding write_cases
  writable = passed_of s (too_short t || ltb (length buffer) text_size) n r t eight fine

  pub write_ends : write_outcome s n r t buffer ≡ wrote (record { refusal = 0; count = length (written (document_of s n r t)) }) (over (written (document_of s n r t)) buffer)
  unfolding write_outcome writing
  write_ends = rw fine

  pub written_front : take (write_outcome s n r t buffer).answer.count (write_outcome s n r t buffer).buffer ≡ written (document_of s n r t)
  written_front = rw write_ends (take_over (written (document_of s n r t)) buffer)

  pub read_back : (u : Tables) (w : List ℕ) → too_short u ≡ false → 8 ≤ length w
      → read_outcome (take (write_outcome s n r t buffer).answer.count (write_outcome s n r t buffer).buffer) u w ≡ sheet_taken s n r (sized t) u w
  read_back u w large room = ap (λ (x : List ℕ). read_outcome x u w) written_front ∙ text_taken s n r t writable.sheet u w large room

-- Two calls that are accepted and write equal texts were handed equal settings, n, r and bytes of the five sizes.
pub equal_texts : (s s' : Settings) → length s.weights ≡ 8 → length s'.weights ≡ 8 → (n n' r r' : ℕ) (t t' : Tables) (buffer buffer' : List ℕ)
    → first_of 0 (write_cases s n r t buffer) ≡ 0 → first_of 0 (write_cases s' n' r' t' buffer') ≡ 0
    → take (write_outcome s n r t buffer).answer.count (write_outcome s n r t buffer).buffer
    ≡ take (write_outcome s' n' r' t' buffer').answer.count (write_outcome s' n' r' t' buffer').buffer
    → Same s s' n n' r r' t t'
equal_texts s s' eight eight' n n' r r' t t' buffer buffer' f f' e =
    let p = writable s eight n r t buffer f in
    let p' = writable s' eight' n' r' t' buffer' f' in
    same_text s s' n n' r r' t t' p.sheet p'.sheet
    (sym (written_front s eight n r t buffer f) ∙ e ∙ written_front s' eight' n' r' t' buffer' f')
