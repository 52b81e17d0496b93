-- A sheet names its states, however it was reached (request M-113): what any call leaves whose number is 0 is a sheet.
use mathlib.Core.Path.{◌≡◌, refl, sym, ◌∙◌, ap, subst}
use mathlib.Core.Logic.{◌↔◌}
use mathlib.Core.List.{List, [], ◌∷◌}
use mathlib.Core.Option.{Option, some, none, get_or}
use Prim.Native.Nat.{ℕ}
use lib.IntN.{ℤ}
use lib.ListN.{length}
use Rattle.residue.specs.Lists.{Among}
use Rattle.residue.proofs.Layouts.{over_sized}
use Rattle.specification.specs.declared.settings.Settings.{Settings}
use Rattle.specification.specs.Refusal.{first_of}
use Rattle.specification.specs.Settings.{Accepted}
use Rattle.specification.specs.Counted.{Counted}
use Rattle.specification.specs.Points.{IsPoint}
use Rattle.specification.specs.Tables.{Tables, held_in, points_in}
use Rattle.specification.specs.TablesRead.{SameStates}
use Rattle.specification.specs.SheetNames.{IsSheet, RowsZero}
use Rattle.specification.specs.Adding.{Outcome, draw_outcome}
use Rattle.specification.specs.Solving.{check_refusal}
use Rattle.specification.specs.LeaveOutAgreement.{SameSheet}
use Rattle.specification.specs.Reference.{Operation, outcome_of, refusal_of, list_after}
use Rattle.specification.specs.CallByCall.{HoldsBasis}
use Rattle.specification.proofs.Recognised.{none_of}
use Rattle.specification.proofs.agreement.Refusals.{accepted}
use Rattle.specification.proofs.agreement.Operations.{lawful}
use Rattle.specification.proofs.agreement.Run.{number_of_lem}
use Rattle.specification.proofs.CallByCall.{drawn_points, drawn_number, draw_leaves, packed_drawn, packed_two, packed_leaves, operation_leaves, check_passes}
use Rattle.specification.proofs.leaving.Calls.{left_number, left_passed, leave_out_leaves}
use Rattle.specification.proofs.Sheets.{recognised_of}
use Rattle.specification.proofs.SheetNames.{sheet_names, sheet_zeros}
use Rattle.notation.specs.Fields.{records_of}
use Rattle.notation.specs.Forms.{Header, header_of}
use Rattle.notation.proofs.Grammar.HeaderForm.{header_grammar}
use Rattle.comma_text.specs.reading.Text.{header_in, no_header, contents_of}
use Rattle.comma_text.proofs.reading.HeaderWeights.{header_eight}
use Rattle.forward.specs.Outcome.{CourseOutcome, course_accepted, course_outcome}
use Rattle.forward.proofs.PassedCourse.{under, taken, accepted_is, course_holds}
use Rattle.json_text.specs.Documents.{Document}
use Rattle.json_sheets.specs.Sheets.{settings_in}
use Rattle.json_sheets.specs.Calls.{Received, sheet_taken, read_cases, read_outcome}
use Rattle.json_sheets.proofs.ReadOnly.{d as document, taken as read_taken, eight, passed, known, refusal_is}
use Rattle.misqafur.specs.Reached.{sheet_left, settings_left, sheet_read, settings_read, Reached, checked, drawn, drawn_packed, operated, left_out, timed, read}
use Rattle.misqafur.proofs.Unpacked.{few_held}

-- n, r and tables of an outcome as a sheet
abbrev Leaves : Settings → Outcome → Type 0
Leaves s o = IsSheet s o.answer.n o.answer.r o.tables

sheet_of : {s : Settings} {L : Counted} {lent : Tables} {n r : ℕ} {t : Tables} → Accepted s → HoldsBasis s L lent n r t → IsSheet s n r t
sheet_of {s} ok h = record { settings = ok; few = (few_held h).0; known = recognised_of s ok h }

-- calls that are not refused have accepted the settings
drawn_accepts : (s : Settings) (t : Tables) (levels : List ℤ) → (draw_outcome s t levels).answer.refusal ≡ 0 → Accepted s
drawn_accepts s t levels e = (drawn_points s t levels (sym (drawn_number s t levels) ∙ e)).ok

operation_accepts : (o : Operation) (s : Settings) (n r : ℕ) (t : Tables) → (outcome_of o s n r t).answer.refusal ≡ 0 → Accepted s
operation_accepts o s n r t e =
    let number = number_of_lem (refusal_of o s n r t) t s (list_after o s (held_in s n t)) in
    accepted s ((lawful o).passed s n r t (sym number ∙ sym (ap (λ (w : Outcome). w.answer.refusal) ((lawful o).outcome s n r t)) ∙ e)).fine

check_accepts : (s : Settings) (n r : ℕ) (t : Tables) → check_refusal s n r t ≡ 0 → Accepted s
unfolding check_refusal
check_accepts s n r t e = accepted s (none_of s _ tt e).0

-- A header has eight weights, so the settings that a time course answers are those of its text.
header_weights : (t : List (Option (List (List ℕ)))) → length (get_or (header_in t) no_header).weights ≡ 8
unfolding header_in
header_weights [] = refl
header_weights (none ∷ t) = refl
header_weights (some fields ∷ t) = go (header_of fields) refl
  where
    go : (o : Option Header) → header_of fields ≡ o → length (get_or o no_header).weights ≡ 8
    go none e = refl
    go (some h) e = header_eight h ((header_grammar fields h).1 e)

module _ (text : List ℕ) (c : ℕ) (t : Tables) (interpolants weights : List ℕ) (z : (course_outcome text c t interpolants weights).answer.refusal ≡ 0) where
  abbrev o : CourseOutcome
  o = course_outcome text c t interpolants weights

  abbrev s : Settings
  s = under text c t interpolants weights

  answered : settings_left o ≡ s
  unfolding course_accepted contents_of
  answered = ap settings_left (accepted_is text c t interpolants weights z)
      ∙ ap (λ (w : List ℕ). record { modulus = s.modulus; variables = s.variables; order = s.order; weights = w })
      (over_sized 8 s.weights weights (header_weights (records_of text)))

  course_sheet : Leaves (settings_left o) (sheet_left o)
  course_sheet = subst (λ (u : Settings). Leaves u (sheet_left o)) (sym answered)
      (sheet_of (taken text c t interpolants weights z).settings (course_holds text c t interpolants weights z))

-- The settings that reading JSON answers are those of its document.
module _ (text : List ℕ) (t : Tables) (weights : List ℕ) (z : (read_outcome text t weights).answer.refusal ≡ 0) where
  fine : first_of 0 (read_cases text t weights) ≡ 0
  fine = sym (refusal_is text t weights) ∙ z

  abbrev d : Document
  d = document text t weights fine

  document_answered : settings_read (read_outcome text t weights) ≡ settings_in d
  unfolding sheet_taken settings_in
  document_answered = ap settings_read (read_taken text t weights fine)
      ∙ ap (λ (w : List ℕ). record { modulus = d.modulus; variables = d.variables; order = d.order; weights = w })
      (over_sized 8 (settings_in d).weights weights (eight text t weights fine))

  json_sheet : Leaves (settings_read (read_outcome text t weights)) (sheet_read (read_outcome text t weights))
  unfolding sheet_taken
  json_sheet = subst (λ (u : Settings). Leaves u (sheet_read (read_outcome text t weights))) (sym document_answered)
      (subst (λ (o : Received). Leaves (settings_in d) (sheet_read o)) (sym (read_taken text t weights fine)) (record {
        settings = (passed text t weights fine).sheet.settings;
        few = (passed text t weights fine).sheet.few;
        known = known text t weights fine;
      }))

-- What is left by a call whose number is 0.
reached_sheet : {s : Settings} {o : Outcome} → Reached s o → o.answer.refusal ≡ 0 → Leaves s o
reached_sheet (checked s n r t) e = sheet_of (check_accepts s n r t e) (check_passes s n r t e)
reached_sheet (drawn s t levels) e = sheet_of (drawn_accepts s t levels e) (draw_leaves s t levels e)
reached_sheet (drawn_packed s t levels) e =
    let d = packed_drawn s t levels (packed_two s t levels e) in
    sheet_of (drawn_accepts s t levels (sym (ap (λ (o : Outcome). o.answer.refusal) d) ∙ e)) (packed_leaves s t levels e)
reached_sheet (operated o s n r t) e = sheet_of (operation_accepts o s n r t e) (operation_leaves o s n r t e)
reached_sheet (left_out s n r t v u) e = sheet_of (left_passed s n r t v u (sym (left_number s n r t v u) ∙ e)).fine (leave_out_leaves s n r t v u e)
reached_sheet (timed text c t interpolants weights) e = course_sheet text c t interpolants weights e
reached_sheet (read text t weights) e = json_sheet text t weights e

-- Document 02, M-113: 'under the same settings, two sheets have equal counts of states and rows and equal standard, lead and coefficient tables only when their
-- sets of states are equal, the empty set included .. This holds however the sheet was reached, for all four orders through one argument.'
pub reached_names : {s : Settings} {a b : Outcome} → Reached s a → Reached s b → a.answer.refusal ≡ 0 → b.answer.refusal ≡ 0 → SameSheet a b
    → SameStates s a.answer.n a.tables b.answer.n b.tables
reached_names h k e f same = sheet_names (reached_sheet h e) (reached_sheet k f) same.count same.rows same.algebra

-- 'the states are precisely those at which every row is zero'
pub reached_zeros : {s : Settings} {o : Outcome} → Reached s o → o.answer.refusal ≡ 0
    → (P : List ℕ) → IsPoint s P → Among P (points_in s o.answer.n o.tables.states) ↔ RowsZero s o.answer.n o.answer.r o.tables P
reached_zeros h e = sheet_zeros (reached_sheet h e)
