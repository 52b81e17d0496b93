-- What a call has passed that is not refused, and what holds of it (request M-111): the model runs every course of the text forward as it was recorded, the sheet
-- is that of the points, and the answer is the first return of the run.
use mathlib.Core.Path.{◌≡◌, refl, sym, ap, subst, ◌∙◌}
use mathlib.Core.Bool.{Bool, false, not, cond, ◌&&◌}
use mathlib.Core.Logic.{◌≢◌}
use mathlib.Core.List.{List, [], ◌∷◌, ◌++◌, map}
use mathlib.Core.Option
use mathlib.Core.Option.{Option, some, none}
use Prim.Native.Nat.{ℕ, suc, ◌<◌, ◌≤◌}
use native.Mathlib.Decide.{ℕ_discrete}
use native.Mathlib.Omega.{arith}
use lib.IntN.{ℤ}
use lib.ListN.{length, get_or}
use lib.Dec.{T, eqb, leb, ltb, leb→le}
use borrow.Author.Tests.{not-false, eqb-true, eq-eqb, ne_eqb}
use Rattle.residue.specs.Modulus.{is_modulus}
use Rattle.residue.specs.Lists.{Among}
use Rattle.residue.proofs.Tests.{of_true, and_left, and_right}
use Rattle.specification.specs.declared.settings.Settings.{Settings}
use Rattle.specification.specs.Refusal.{first_of}
use Rattle.specification.specs.Settings.{right_weights, Accepted}
use Rattle.specification.specs.Points.{IsPoint}
use Rattle.specification.specs.Tables.{Tables}
use Rattle.specification.specs.CallByCall.{HoldsBasis}
use Rattle.specification.proofs.Numbers.{at_most, never}
use Rattle.notation.specs.Fields.{records_of}
use Rattle.notation.specs.Forms.{Header}
use Rattle.comma_text.specs.reading.Answers.{Refusal}
use Rattle.comma_text.specs.reading.Text.{further, first_fault, first_after, is_none, header_in, no_header, entries_in, Contents, contents_of, not_refused, settings_by, header_cases, TextCase}
use Rattle.comma_text.proofs.reading.TextCases.{passed}
use Rattle.comma_text.proofs.reading.FirstPlaces.{fault_step}
use Rattle.comma_text.proofs.reading.AcceptedPoints.{in_small, or_small, all_long, all_some}
use Rattle.courses.specs.TimeCourse.{Timed, in_runs, course_of, moves_of, points_of_moves, moves_cases, course_cases, course_refusal, step, times, told_return, course_return}
use Rattle.courses.specs.Returns.{Ends}
use Rattle.courses.proofs.theory.Forward.{course_leaves, forward, return_ends}
use Rattle.course_text.specs.Form.{course_fault, course_form_fault, all_timed, first_state_outside}
use Rattle.forward.specs.Outcome.{CourseOutcome, timed_by, short_for, time_cases, refused_course, course_accepted, course_refused, course_decided, course_outcome}
use Rattle.course_text.proofs.reading.Returning.{runs_iff}
use Rattle.forward.proofs.running.Recorded.{each_point}
use Rattle.forward.proofs.running.RunCases.{first_mapped}

-- records without a fault of form are entries
entries_some : (m : ℕ) (seen es : List (Option (List ℤ))) → first_after (course_fault m) seen es ≡ 0 → first_fault is_none es ≡ 0
unfolding first_after course_fault first_fault is_none further
entries_some m seen [] h = refl
entries_some m seen (none ∷ es) h = absurd (omega arith)
entries_some m seen (some zs ∷ es) h =
    rw (entries_some m (seen ++ (some zs ∷ [])) es (fault_step (course_fault m seen (some zs)) (first_after (course_fault m) (seen ++ (some zs ∷ [])) es) h).1) refl

no_form_fault : (o : Option Header) (d : Header) (t : List (Option (List (List ℕ)))) → course_form_fault o t ≡ 0
    → first_after (course_fault (Option.get_or o d).variables) [] (entries_in (Option.get_or o d).variables t) ≡ 0
unfolding course_form_fault
no_form_fault none d t h = absurd (omega arith)
no_form_fault (some x) d t h = (fault_step false (first_after (course_fault x.variables) [] (entries_in x.variables t)) h).1

module _ (text : List ℕ) (c : ℕ) (u : Tables) (genes weights : List ℕ) where
  -- what is said in the text, if its form is right; its settings and its records
  abbrev pub says : Contents
  says = contents_of (Option.get_or (header_in (records_of text)) no_header) (records_of text)

  abbrev pub under : Settings
  under = settings_by says.header

  abbrev pub records : List Timed
  records = timed_by says

  abbrev fault : ℕ
  fault = course_form_fault (header_in (records_of text)) (records_of text)

  abbrev cases : List TextCase
  cases = time_cases text fault says (short_for u genes weights) c

  abbrev decided : Refusal
  decided = first_of not_refused cases

  abbrev pub o : CourseOutcome
  o = course_outcome text c u genes weights

  -- settings that calls take, states that are points, numbers in runs, and nothing that the records decide
  pub record PassedCourse : Type 0 where
    pub settings : Accepted under
    pub each : (a : Timed) → Among a records → IsPoint under a.0
    pub runs : T (in_runs records)
    pub zero : (course_refusal c records).0 ≡ 0

  course_passed : decided.refusal ≡ 0 → PassedCourse
  unfolding time_cases header_cases contents_of timed_by course_refusal
  course_passed z =
      let t = records_of text in
      let h : Header = Option.get_or (header_in t) no_header in
      let E : List (List ℤ) = map (λ e. Option.get_or e []) (entries_in h.variables t) in
      let k : ℕ = first_state_outside h.modulus h.variables E in
      let c₁ = passed (ltb 16384 (length text)) 0 0 _ z in
      let c₂ = passed (not (eqb fault 0)) 1 fault _ c₁.1 in
      let c₃ = passed (not (is_modulus h.modulus)) 2 1 _ c₂.1 in
      let c₄ = passed (not (leb 1 h.variables && leb h.variables 8)) 3 1 _ c₃.1 in
      let c₅ = passed (not (right_weights (settings_by h))) 14 1 _ c₄.1 in
      let c₆ = passed (not (eqb k 0)) 8 (suc k) _ (passed (short_for u genes weights) 5 0 _ c₅.1).1 in
      let m = of_true (not-false (leb 1 h.variables && leb h.variables 8) c₄.0) in
      let none = no_form_fault (header_in t) no_header t (eqb-true fault 0 (not-false _ c₂.0)) in
      let some-all = entries_some h.variables [] (entries_in h.variables t) none in
      let ok : Accepted (settings_by h) = record {
        modulus = not-false (is_modulus h.modulus) c₃.0;
        some = leb→le 1 h.variables (and_left (leb 1 h.variables) (leb h.variables 8) m);
        few = leb→le h.variables 8 (and_right (leb 1 h.variables) (leb h.variables 8) m);
        order = or_small (header_in t) no_header (in_small t) (omega arith);
        weights = not-false (right_weights (settings_by h)) c₅.0;
      } in record {
        settings = ok;
        each = each_point (settings_by h) ok E (all_long h.variables t some-all) (eqb-true k 0 (not-false _ c₆.0));
        runs = ((runs_iff h.modulus h.variables E).0 (ap (first_after (course_fault h.variables) []) (sym (all_some (entries_in h.variables t) some-all)) ∙ none)).1;
        zero = sym (ap (λ (x : Refusal). x.refusal) (first_mapped (course_cases c (all_timed h.modulus h.variables E)))) ∙ c₆.1;
      }

  -- the outcome, refused and taken
  taken_is : decided.refusal ≡ 0 → o ≡ course_accepted says c u genes weights
  unfolding course_outcome course_decided
  taken_is e = ap (λ (b : Bool). cond b (course_accepted says c u genes weights) (course_refused decided u genes weights)) (eq-eqb decided.refusal 0 e)

  refused_is : decided.refusal ≢ 0 → o ≡ course_refused decided u genes weights
  unfolding course_outcome course_decided
  refused_is n = ap (λ (b : Bool). cond b (course_accepted says c u genes weights) (course_refused decided u genes weights)) (ne_eqb decided.refusal 0 n)

  pub number_is : o.answer.refusal ≡ decided.refusal
  unfolding course_accepted course_refused
  number_is = go (ℕ_discrete decided.refusal 0)
    where
      go : Dec (decided.refusal ≡ 0) → o.answer.refusal ≡ decided.refusal
      go (yes e) = ap (λ (x : CourseOutcome). x.answer.refusal) (taken_is e) ∙ sym e
      go (no n) = ap (λ (x : CourseOutcome). x.answer.refusal) (refused_is n)

  -- no refusal is above 18, and none is 11 or 14
  pub course_few : o.answer.refusal ≤ 18
  unfolding time_cases header_cases course_cases moves_cases
  course_few = rw number_is (at_most (λ r. r.refusal) 18 not_refused cases (omega arith) tt)

  pub course_never : (k : ℕ) → k ≡ 11 → o.answer.refusal ≢ k
  unfolding time_cases header_cases course_cases moves_cases
  course_never k q e = never (λ r. r.refusal) 11 not_refused cases (λ z. omega (arith, z)) tt (sym number_is ∙ e ∙ q)

  -- A refusal comes with its record alone, and no lent byte has changed.
  pub course_alone : o.answer.refusal ≢ 0 → (o.answer ≡ refused_course decided) × (o.tables ≡ u) × (o.interpolants ≡ genes) × (o.weights ≡ weights)
  unfolding course_refused
  course_alone n = let e = refused_is (λ z. n (number_is ∙ z)) in
      (ap (λ (x : CourseOutcome). x.answer) e, ap (λ (x : CourseOutcome). x.tables) e, ap (λ (x : CourseOutcome). x.interpolants) e, ap (λ (x : CourseOutcome). x.weights) e)

  -- A call that is taken.
  module _ (z : o.answer.refusal ≡ 0) where
    pub taken : PassedCourse
    taken = course_passed (sym number_is ∙ z)

    pub accepted_is : o ≡ course_accepted says c u genes weights
    accepted_is = taken_is (sym number_is ∙ z)

    -- 'the model applied k times to a course's first state gives its record k+1, if it has one', for every course of the text and every k
    pub runs_forward : (d k : ℕ) → k < length (course_of d records) → times k (step under (moves_of records)) (get_or (course_of d records) 0 []) ≡ get_or (course_of d records) k []
    runs_forward d k h = forward under taken.settings c records taken.each taken.zero taken.runs d k h

    -- the lent tables hold the basis of the points with their counts
    pub course_holds : HoldsBasis under (points_of_moves (moves_of records)) u o.answer.n o.answer.r o.tables
    unfolding course_accepted
    course_holds = subst (λ (x : CourseOutcome). HoldsBasis under (points_of_moves (moves_of records)) u x.answer.n x.answer.r x.tables) (sym accepted_is)
        (course_leaves under taken.settings c records taken.each taken.zero u)

    -- the step and the distance back are the first return of the run, or none came
    pub course_ends : (r : _) × (record { step = o.answer.step; back = o.answer.back } ≡ told_return r) × Ends (step under (moves_of records)) (get_or (course_of c records) 0 []) 256 r
    unfolding course_accepted
    course_ends = (
      course_return under c records,
      ap (λ (x : CourseOutcome). record { step = x.answer.step; back = x.answer.back }) accepted_is,
      return_ends under taken.settings c records taken.each taken.zero,
    )
