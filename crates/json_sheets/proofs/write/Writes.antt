-- Writing a sheet: its number, the room that its text has, and what it leaves.
use mathlib.Core.Path.{◌≡◌, refl}
use mathlib.Core.Bool.{◌||◌, or_comm, false}
use mathlib.Core.List.{List}
use Prim.Native.Nat.{ℕ, ◌≤◌}
use native.Mathlib.Nat.{zero-add}
use native.Mathlib.Omega.{arith}
use lib.ListN.{length}
use lib.Dec.{ltb}
use borrow.Author.Tests.{ne_eqb, ltb-false}
use Rattle.residue.specs.Layout.{over}
use Rattle.residue.proofs.Tests.{neither}
use Rattle.specification.specs.declared.settings.Settings.{Settings}
use Rattle.specification.specs.Refusal.{first_of}
use Rattle.specification.specs.Tables.{Tables, too_short}
use Rattle.specification.proofs.agreement.Refusals.{large_of}
use Rattle.writing.specs.Appending.{Room, put_at, Put}
use Rattle.json_text.specs.Documents.{written}
use Rattle.json_text.specs.Tables.{Holds}
use Rattle.json_sheets.specs.Sheets.{document_of, shape_under}
use Rattle.json_sheets.specs.Calls.{text_size, sheet_cases, wrote, writing, write_cases, write_outcome}
use Rattle.json_sheets.proofs.SheetDocuments.{Checked, few_leads}
use Rattle.json_sheets.proofs.TextLength.{few_weights, sheet_bound}
use Rattle.json_sheets.proofs.Passed.{Passed, passed_of}

module _ (s : Settings) (n r : ℕ) (t : Tables) (buffer : List ℕ) where
  -- the number by which it is judged
  pub judged : first_of 0 (sheet_cases s (ltb (length buffer) text_size || too_short t) n r t) ≡ first_of 0 (write_cases s n r t buffer)
  unfolding write_cases
  judged = rw (or_comm (ltb (length buffer) text_size) (too_short t)) refl

  pub write_refused : (k : ℕ) → k ≡ first_of 0 (write_cases s n r t buffer) → (k ≡ 0 → ⊥) → wrote (record { refusal = k; count = 0 }) buffer ≡ write_outcome s n r t buffer
  unfolding write_outcome writing
  write_refused k e z = rw (← e) (simp (ne_eqb k 0 z))

  -- Nothing refuses.
  module _ (eight : length s.weights ≡ 8) (fine : first_of 0 (write_cases s n r t buffer) ≡ 0) where
    passed : Passed s (too_short t || ltb (length buffer) text_size) n r t
    unfolding write_cases
    passed = passed_of s (too_short t || ltb (length buffer) text_size) n r t eight fine

    pub checked : Checked s n r t
    checked = passed.sheet

    enough : (too_short t ≡ false) × (ltb (length buffer) text_size ≡ false)
    enough = neither (too_short t) (ltb (length buffer) text_size) passed.enough

    pub holds : Holds (shape_under s n r) t.coefficients t.counts t.leads t.states t.standard s.weights
    holds =
        let l = large_of t enough.0 in
        let f = few_leads s n r t checked in
        record {
          few = checked.few;
          narrow = checked.settings.few;
          rows = omega (arith, l.coefficients);
          counted = omega (arith, l.counts, checked.few);
          leading = omega (arith, l.leads);
          pointed = omega (arith, l.states, checked.few);
          standing = omega (arith, l.standard, checked.few);
          weighed = omega (arith, eight, few_weights s n r t checked);
        }

    pub room : Room 0 (written (document_of s n r t)) buffer
    room = omega (arith, sheet_bound s n r t checked, ltb-false (length buffer) text_size enough.1)

    pub write_accepted : {out : List ℕ} {next : ℕ} → Put 0 (written (document_of s n r t)) buffer out next
        → wrote (record { refusal = 0; count = next }) out ≡ write_outcome s n r t buffer
    unfolding write_outcome writing put_at over
    write_accepted p = rw (fine, p.ends, p.holds) (simp zero-add)

    pub write_short : {out : List ℕ} {next : ℕ} → Put 0 (written (document_of s n r t)) buffer out next → next ≤ 103534
    write_short p = omega (arith, p.ends, sheet_bound s n r t checked)
