-- Withdrawing the point that was just added gives back the counts and every byte (request M-103), also where it was a replicate (M-106).
use mathlib.Core.Path.{◌≡◌, refl, sym, ◌∙◌, ap, ap₂}
use mathlib.Core.Bool.{false, not}
use mathlib.Core.List.{List}
use mathlib.Core.Logic.{inl}
use Prim.Native.Nat.{ℕ, ◌≤◌}
use native.Mathlib.Omega.{arith}
use lib.IntN.{ℤ}
use lib.ListN.{length, length-map}
use lib.Dec.{eqb}
use Rattle.residue.proofs.Tests.{true_of}
use Rattle.specification.specs.declared.settings.Settings.{Settings}
use Rattle.specification.specs.Refusal.{first_of}
use Rattle.specification.specs.Levels.{in_range, residues, is_among}
use Rattle.specification.specs.Counted.{Counted, points_of, counts_of, entered, lowered, overfull}
use Rattle.specification.specs.Tables.{Tables, row_count, tables_of, written, held_in}
use Rattle.specification.specs.Adding.{Outcome, holding, by_refusal, add_refusal, add_outcome}
use Rattle.specification.specs.Withdrawing.{withdraw_outcome}
use Rattle.specification.specs.Reference.{adding, withdrawing, outcome_of, refusal_of, reference_answer, list_after}
use Rattle.specification.proofs.Cases.{none_holds}
use Rattle.specification.proofs.Repeats.{is_among_lem}
use Rattle.specification.proofs.CallByCall.{known_entries, known_tables, known_rows}
use Rattle.specification.proofs.counted.Entered.{lowered_entered}
use Rattle.specification.proofs.counted.Gathered.{Entries, positive_of, among_entered}
use Rattle.specification.proofs.counted.Held.{length_held}
use Rattle.specification.specs.Settings.{Accepted}
use Rattle.specification.proofs.agreement.Refusals.{accepted, not_short, large_of, written_large, written_held, written_recognised}
use Rattle.specification.proofs.agreement.Operations.{Passed, lawful}
use Rattle.specification.proofs.agreement.Run.{number_of_lem, written_twice}

module _ (s : Settings) (n r : ℕ) (t : Tables) (levels : List ℤ) (taken : refusal_of (adding levels) s n r t ≡ 0) where
  abbrev P : List ℕ
  P = residues s.modulus levels

  abbrev before : Counted
  before = held_in s n t

  abbrev after : Counted
  after = entered P before

  abbrev grown : Tables
  grown = written (tables_of s after) t

  passed : Passed s n r t
  passed = (lawful (adding levels)).passed s n r t taken

  ok : Accepted s
  ok = accepted s passed.fine

  answered : reference_answer (adding levels) s before ≡ 0
  answered = sym ((lawful (adding levels)).number s passed.fine n r t passed.few passed.large passed.known) ∙ taken

  entries_before : Entries s before
  entries_before = known_entries s ok n r t passed.few passed.known

  entries : Entries s after
  unfolding list_after
  entries = (lawful (adding levels)).entries s ok before entries_before answered

  few : length after ≤ 64
  few = omega (arith, length-map after (λ q. q.0), entries.points.few)

  judged : (not (eqb (length levels) s.variables) ≡ false) × (not (in_range s.modulus levels) ≡ false)
  unfolding reference_answer overfull
  judged = let z = none_holds _ tt answered in (z.0, z.1.0)

  -- the reference list gives up what it took last
  taken_back : reference_answer (withdrawing levels) s after ≡ 0
  unfolding reference_answer first_of
  taken_back = rw (judged.0, judged.1, true_of (is_among P (points_of after)) (is_among_lem P (points_of after) ((among_entered P before P).1 (inl refl))))

  left : lowered P after ≡ before
  left = lowered_entered P before (positive_of (counts_of before) entries_before.counts)

  same : held_in s (length after) grown ≡ after
  same = written_held s ok after entries t

  withdrawn : refusal_of (withdrawing levels) s (length after) (row_count s (points_of after)) grown ≡ 0
  withdrawn =
      (lawful (withdrawing levels)).number s passed.fine (length after) (row_count s (points_of after)) grown few
      (not_short grown (written_large s after t (large_of t passed.large))) (written_recognised s ok after entries t)
      ∙ ap (reference_answer (withdrawing levels) s) same ∙ taken_back

  back : holding s before grown ≡ record { answer = record { refusal = 0; n = n; r = r }; tables = t }
  unfolding holding
  back =
      let e : length before ≡ n = length_held s n t in
      let f : row_count s (points_of before) ≡ r = sym (known_rows s ok n r t passed.few passed.known) in
      let g : written (tables_of s before) grown ≡ t = written_twice s after before t ∙ sym (known_tables s ok n r t passed.few passed.known) in
      cc

  given_back : withdraw_outcome s (length after) (row_count s (points_of after)) grown levels ≡ record { answer = record { refusal = 0; n = n; r = r }; tables = t }
  unfolding outcome_of list_after by_refusal
  given_back =
      (lawful (withdrawing levels)).outcome s (length after) (row_count s (points_of after)) grown
      ∙ ap₂ (λ (k : ℕ) (L : Counted). by_refusal k grown (holding s L grown)) withdrawn (ap (lowered P) same ∙ left)
      ∙ back

  added : add_outcome s n r t levels ≡ holding s after t
  unfolding outcome_of list_after by_refusal
  added = (lawful (adding levels)).outcome s n r t ∙ ap (λ (k : ℕ). by_refusal k t (holding s after t)) taken

  returned : let o = add_outcome s n r t levels in withdraw_outcome s o.answer.n o.answer.r o.tables levels
      ≡ record { answer = record { refusal = 0; n = n; r = r }; tables = t }
  unfolding holding
  returned = ap (λ (o : Outcome). withdraw_outcome s o.answer.n o.answer.r o.tables levels) added ∙ given_back

pub withdraw_added : (s : Settings) (n r : ℕ) (t : Tables) (levels : List ℤ) → let o = add_outcome s n r t levels in o.answer.refusal ≡ 0
    → withdraw_outcome s o.answer.n o.answer.r o.tables levels ≡ record { answer = record { refusal = 0; n = n; r = r }; tables = t }
unfolding add_outcome refusal_of
withdraw_added s n r t levels e = returned s n r t levels (sym (number_of_lem (add_refusal s n r t levels) t s _) ∙ e)
