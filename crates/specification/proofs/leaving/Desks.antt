-- M-110 and the two desks: what a list of operations holds against every drawing up of its points, in the shape of `Agrees`.
use mathlib.Core.Path.{◌≡◌, sym, ◌∙◌, ap}
use mathlib.Core.List.{List}
use Prim.Native.Nat.{ℕ}
use native.Mathlib.Omega.{arith}
use lib.IntN.{ℤ}
use lib.ListN.{length}
use Rattle.specification.specs.declared.settings.Settings.{Settings}
use Rattle.specification.specs.Refusal.{first_of}
use Rattle.specification.specs.Settings.{settings_cases}
use Rattle.specification.specs.Counted.{Counted, points_of, gathered}
use Rattle.specification.specs.Tables.{Tables, row_count, tables_of, written, points_in}
use Rattle.specification.specs.TablesRead.{SameStates}
use Rattle.specification.specs.Adding.{points_offered, draw_outcome}
use Rattle.specification.specs.CallByCall.{HoldsBasis}
use Rattle.specification.specs.Reference.{Held}
use Rattle.specification.specs.Agreement.{SameSet, LeavesAlike}
use Rattle.specification.proofs.CallByCall.{holds_basis, draw_leaves}
use Rattle.specification.proofs.counted.Gathered.{Entries, among_gathered}
use Rattle.specification.proofs.counted.Held.{points_held}
use Rattle.specification.specs.Settings.{Accepted}
use Rattle.specification.proofs.agreement.Refusals.{accepted, Large, not_short, large_of, written_large}
use Rattle.specification.proofs.agreement.Operations.{Passed}
use Rattle.specification.proofs.agreement.Arrangements.{arranged_same}
use Rattle.specification.proofs.Sheets.{held_of, recognised_of}
use Rattle.specification.proofs.leaving.Sets.{leaving_sets}
use Rattle.specification.proofs.leaving.Multisets.{leaving_multisets}

module _ (s : Settings) (fine : first_of 0 (settings_cases s) ≡ 0) where
  ok : Accepted s
  ok = accepted s fine

  -- what a call has left in tables that are long enough
  module _ (L : Counted) (lent : Tables) (n r : ℕ) (end : Tables) (h : HoldsBasis s L lent n r end) where
    points_of_lem : points_in s n end.states ≡ points_of L
    points_of_lem = sym (points_held s n end) ∙ ap points_of (held_of s ok h)

    passed_of : Large lent → Passed s n r end
    passed_of big = record {
      fine = fine;
      large = rw h.tables (not_short (written (tables_of s L) lent) (written_large s L lent big));
      few = omega (arith, h.count, h.few_points);
      known = recognised_of s ok h;
    }

  pub leaves_alike : (L : Counted) → Entries s L → (start : Tables) → Large start → (h : Held) → h.n ≡ length L → h.r ≡ row_count s (points_of L) → h.tables ≡ written (tables_of s L) start
      → LeavesAlike s L h
  leaves_alike L hL start big h en er et = record {
    drawn = λ t levels same zero v u u' lengths a b. let o = draw_outcome s t levels in
        leaving_sets s o.answer.n o.answer.r o.tables h.n h.r h.tables v u u' (one_set t levels same zero) a b;
    arranged = λ t levels short a v u u' lengths.
        let o = draw_outcome s t levels in
        let c = arranged_same s ok fine L hL levels a start big h en er et t short in
        leaving_multisets s o.answer.n o.answer.r o.tables h.n h.r h.tables
        (passed_of (gathered (points_offered s levels)) t o.answer.n o.answer.r o.tables (draw_leaves s t levels c.number) (large_of t short))
        (passed_of L start h.n h.r h.tables held big) c.counts v u u' lengths;
  }
    where
      held : HoldsBasis s L start h.n h.r h.tables
      held = holds_basis s ok L hL start en er et

      one_set : (t : Tables) (levels : List ℤ) → SameSet s L levels → (draw_outcome s t levels).answer.refusal ≡ 0
          → SameStates s (draw_outcome s t levels).answer.n (draw_outcome s t levels).tables h.n h.tables
      one_set t levels same zero P =
          rw (points_of_lem (gathered (points_offered s levels)) t _ _ _ (draw_leaves s t levels zero), points_of_lem L start h.n h.r h.tables held)
          (let g = among_gathered (points_offered s levels) P in ((λ mem. (same P).0 (g.0 mem)), λ mem. g.1 ((same P).1 mem)))
