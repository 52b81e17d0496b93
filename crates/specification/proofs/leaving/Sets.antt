-- M-110 and the two desks, equal sets: wherever both numbers are 0 the results are equal in n, r and the three tables.
use mathlib.Core.Path.{◌≡◌, sym, ◌∙◌}
use mathlib.Core.Logic.{◌↔◌}
use mathlib.Core.List.{List}
use Prim.Native.Nat.{ℕ, ◌-◌}
use lib.ListN.{length-map}
use Rattle.residue.specs.Lists.{Among}
use Rattle.residue.proofs.Layouts.{over_same}
use Rattle.specification.specs.declared.settings.Settings.{Settings}
use Rattle.specification.specs.Counted.{Counted, points_of, counts_of}
use Rattle.specification.specs.Tables.{Tables, tables_of, written, held_in}
use Rattle.residue.specs.Sizes.{standard_size, leads_size, coefficients_size}
use Rattle.specification.specs.Tables.{standard_table, leads_table, coefficients_table}
use Rattle.specification.specs.Adding.{Outcome, holding}
use Rattle.specification.proofs.counted.Gathered.{positive_of}
use Rattle.specification.proofs.counted.Held.{points_held}
use Rattle.specification.specs.Settings.{Accepted}
use Rattle.specification.proofs.agreement.Drawings.{standard_size_lem, leads_size_lem, coefficients_size_lem, distinct_points, same_length, same_rows, same_standard, same_leads, same_coefficients}
use Rattle.specification.specs.TablesRead.{SameStates}
use Rattle.specification.specs.LeaveOut.{without_variable, fewer, leave_out_outcome}
use Rattle.specification.specs.LeaveOutAgreement.{SameSheet}
use Rattle.specification.proofs.leaving.Without.{without_members}
use Rattle.specification.proofs.leaving.Calls.{Left, left_number, left_passed, left_outcome}

-- Equal sets. The numbers say that both inputs are sheets, so nothing else is asked for.
module _ (s : Settings) (n r : ℕ) (t : Tables) (n' r' : ℕ) (t' : Tables) (v : ℕ) (u u' : Tables) where
  abbrev a : Outcome
  a = leave_out_outcome s n r t v u

  abbrev b : Outcome
  b = leave_out_outcome s n' r' t' v u'

  abbrev K : Counted
  K = without_variable (v - 1) (held_in s n t)

  abbrev L : Counted
  L = without_variable (v - 1) (held_in s n' t')

  module _ (w : Left s n r t v u) (w' : Left s n' r' t' v u') (same : (P : List ℕ) → Among P (points_of (held_in s n t)) ↔ Among P (points_of (held_in s n' t'))) where
    good : Accepted (fewer v s)
    good = w.fine

    to : (Q : List ℕ) → Among Q (points_of K) → Among Q (points_of L)
    to Q mem = let x = (without_members (v - 1) (held_in s n t) (positive_of (counts_of (held_in s n t)) w.before.counts) Q).0 mem in
        (without_members (v - 1) (held_in s n' t') (positive_of (counts_of (held_in s n' t')) w'.before.counts) Q).1 (x.0, (same x.0).0 x.1, x.2)

    from : (Q : List ℕ) → Among Q (points_of L) → Among Q (points_of K)
    from Q mem = let x = (without_members (v - 1) (held_in s n' t') (positive_of (counts_of (held_in s n' t')) w'.before.counts) Q).0 mem in
        (without_members (v - 1) (held_in s n t) (positive_of (counts_of (held_in s n t)) w.before.counts) Q).1 (x.0, (same x.0).1 x.1, x.2)

    held_same : SameSheet (holding (fewer v s) K u) (holding (fewer v s) L u')
    unfolding holding written tables_of
    held_same =
        let d_k = distinct_points (fewer v s) good (points_of K) w.entries.points in
        let d_l = distinct_points (fewer v s) good (points_of L) w'.entries.points in record {
          count = sym (length-map K (λ q. q.0)) ∙ same_length (fewer v s) good (points_of L) (points_of K) d_l d_k to from ∙ length-map L (λ q. q.0);
          rows = same_rows (fewer v s) good (points_of L) (points_of K) d_l d_k to from;
          algebra = record {
            standard = over_same standard_size (standard_table (fewer v s) (points_of K)) _ (same_standard (fewer v s) good (points_of L) (points_of K) d_l d_k to from) u.standard u'.standard (standard_size_lem (fewer v s) (points_of K));
            leads = over_same leads_size (leads_table (fewer v s) (points_of K)) _ (same_leads (fewer v s) good (points_of L) (points_of K) d_l d_k to from) u.leads u'.leads (leads_size_lem (fewer v s) (points_of K));
            coefficients = over_same coefficients_size (coefficients_table (fewer v s) (points_of K)) _ (same_coefficients (fewer v s) good (points_of L) (points_of K) d_l d_k to from) u.coefficients u'.coefficients (coefficients_size_lem (fewer v s) (points_of K));
          };
        }

  -- 'n, r and the standard, leads and coefficients tables for equal sets wherever both numbers are 0'
  pub leaving_sets : SameStates s n t n' t' → a.answer.refusal ≡ 0 → b.answer.refusal ≡ 0 → SameSheet a b
  leaving_sets same e f =
      let z = sym (left_number s n r t v u) ∙ e in
      let z' = sym (left_number s n' r' t' v u') ∙ f in
      rw (left_outcome s n r t v u z, left_outcome s n' r' t' v u' z')
      (held_same (left_passed s n r t v u z) (left_passed s n' r' t' v u' z') (rw (points_held s n t, points_held s n' t') same))
