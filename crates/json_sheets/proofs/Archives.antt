-- What the file of a sheet is told by: its points with their counts in their order. So equal multisets that arrived in equal order give equal files, whichever
-- way the sheet was reached (demand 3; request M-112: 'The cooperatives archive sheets and compare the files').
use mathlib.Core.Path.{◌≡◌, sym, ◌∙◌, ap}
use mathlib.Core.List.{List, []}
use Prim.Native.Nat.{ℕ}
use native.Mathlib.Omega.{arith}
use lib.IntN.{ℤ}
use lib.ListN.{length}
use Rattle.specification.specs.declared.settings.Settings.{Settings}
use Rattle.specification.specs.Refusal.{first_of}
use Rattle.specification.specs.Settings.{Accepted, settings_cases}
use Rattle.specification.specs.Counted.{Counted, gathered}
use Rattle.specification.specs.Tables.{Tables}
use Rattle.specification.specs.CallByCall.{HoldsBasis}
use Rattle.specification.specs.Adding.{points_offered, draw_outcome}
use Rattle.specification.specs.Reference.{Event, Held, held_at_end, reference_at_end, Refuses}
use Rattle.specification.specs.Agreement.{Fresh, freshly}
use Rattle.specification.proofs.agreement.Refusals.{accepted}
use Rattle.specification.specs.Calls.{checking, number_with, ending_of}
use Rattle.specification.proofs.CallByCall.{check_passes, drawn_points, drawn_number, draw_leaves}
use Rattle.specification.proofs.agreement.Claim.{agreement}
use Rattle.specification.proofs.Sheets.{held_of, recognised_of}
use Rattle.json_text.specs.Documents.{written}
use Rattle.json_sheets.specs.Sheets.{document_of, document_under}
use Rattle.json_sheets.proofs.SheetDocuments.{Checked, document_held}

-- the text of what is held
abbrev pub text_of : Settings → Held → List ℕ
text_of s h = written (document_of s h.n h.r h.tables)

module _ (s : Settings) (eight : length s.weights ≡ 8) where
  -- what any call has left whose number is 0
  pub left_checked : Accepted s → {L : Counted} {lent end : Tables} {n r : ℕ} → HoldsBasis s L lent n r end → Checked s n r end
  left_checked ok h = record { settings = ok; eight = eight; few = omega (arith, h.count, h.few_points); known = recognised_of s ok h }

  pub left_text : Accepted s → {L : Counted} {lent end : Tables} {n r : ℕ} → HoldsBasis s L lent n r end → written (document_of s n r end) ≡ written (document_under s L)
  left_text ok {n = n} {r = r} h = ap written (document_held s n r _ (left_checked ok h) ∙ ap (document_under s) (held_of s ok h))

  -- one desk: any list of calls from fresh tables, refused ones included, against the reference list
  pub listed_text : first_of 0 (settings_cases s) ≡ 0 → (start : Tables) → Fresh start → (es : List Event) → Refuses s (freshly start) es
      → text_of s (held_at_end s (freshly start) es) ≡ written (document_under s (reference_at_end s [] es))
  unfolding number_with ending_of
  listed_text fine start fresh es refuses =
      let h = held_at_end s (freshly start) es in
      let a = agreement s fine start fresh es refuses in
      left_text (accepted s fine) (check_passes s h.n h.r h.tables (a.requests checking)) ∙ ap (λ (L : Counted). written (document_under s L)) a.held

  -- the other: drawing up, either way
  pub drawn_text : (t : Tables) (levels : List ℤ) → let o = draw_outcome s t levels in o.answer.refusal ≡ 0
      → written (document_of s o.answer.n o.answer.r o.tables) ≡ written (document_under s (gathered (points_offered s levels)))
  drawn_text t levels z = left_text (drawn_points s t levels (sym (drawn_number s t levels) ∙ z)).ok (draw_leaves s t levels z)

  -- The two desks: where the points that are drawn up come with the list's counts in the list's order, both files are the same.
  pub equal_files : first_of 0 (settings_cases s) ≡ 0 → (start : Tables) → Fresh start → (es : List Event) → Refuses s (freshly start) es
      → (t : Tables) (levels : List ℤ) → let o = draw_outcome s t levels in o.answer.refusal ≡ 0 → gathered (points_offered s levels) ≡ reference_at_end s [] es
      → written (document_of s o.answer.n o.answer.r o.tables) ≡ text_of s (held_at_end s (freshly start) es)
  equal_files fine start fresh es refuses t levels z e =
      drawn_text t levels z ∙ ap (λ (L : Counted). written (document_under s L)) e ∙ sym (listed_text fine start fresh es refuses)
