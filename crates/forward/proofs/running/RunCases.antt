-- What is decided of a text of right form, case by case, and what is left of it.
use mathlib.Core.Path.{◌≡◌, refl, sym, ap, ap₂, ◌∙◌}
use mathlib.Core.Bool.{Bool, true, false, cond}
use mathlib.Core.List.{List, [], ◌∷◌, ◌++◌, map}
use Prim.Native.Nat.{ℕ, suc}
use lib.IntN.{ℤ}
use lib.Dec.{eqb}
use native.Mathlib.Decide.{ℕ_discrete}
use borrow.Author.Tests.{eq-eqb, ne_eqb, eqb-true}
use Rattle.specification.specs.declared.settings.Settings.{Settings}
use Rattle.specification.specs.Refusal.{first_of}
use Rattle.specification.specs.Tables.{Tables}
use Rattle.comma_text.specs.reading.Answers.{Refusal}
use Rattle.comma_text.specs.reading.Text.{TextCase, not_refused, refusal_at, header_cases, entry_case}
use Rattle.comma_text.specs.reading.Points.{levels_at, saying}
use Rattle.comma_text.proofs.reading.TextCases.{Allowed, room, settings_over, first_of_both, place_refuses, place_passes}
use Rattle.courses.specs.TimeCourse.{Timed, course_cases, course_refusal, told_return, course_return, course_sheet, course_model}
use Rattle.forward.specs.Outcome.{Course}
use Rattle.course_text.specs.Form.{all_timed, first_state_outside}
use Rattle.forward.specs.Outcome.{timed_by, records_cases, refused_course, course_accepted, course_refused, course_decided}
use Rattle.forward.specs.Running.{RunOutcome, without_weights, run_cases, run_outcome}

-- the first of the cases of records, as a refusal
pub first_mapped : (l : List (Bool × (ℕ × ℕ))) → let f = first_of (0, 0) l in
    first_of not_refused (map (λ k. (k.0, refusal_at k.1.0 k.1.1)) l) ≡ refusal_at f.0 f.1
unfolding first_of
first_mapped [] = refl
first_mapped ((true, f) ∷ l) = refl
first_mapped ((false, f) ∷ l) = first_mapped l

module _ (s : Settings) (l : List ℕ) (c : ℕ) (short : Bool) where
  abbrev E : List (List ℤ)
  E = levels_at s.variables l

  abbrev pub records : List Timed
  records = all_timed s.modulus s.variables E

  abbrev pub cases : List TextCase
  cases = run_cases (saying s l) c short

  pub settings_refuse : (f : Refusal) → f ≡ first_of not_refused (header_cases s short) → (f.refusal ≡ 0 → ⊥) → f ≡ first_of not_refused cases
  unfolding saying
  settings_refuse f e n = first_of_both (header_cases s short) _ f n e

  module _ (h : Allowed s short) where
    past : (k : List TextCase) → first_of not_refused (header_cases s short ++ k) ≡ first_of not_refused k
    past k = settings_over s short h.modulus h.some h.few h.right h.long k

    pub state_refuses : (k : ℕ) → k ≡ first_state_outside s.modulus s.variables E → (k ≡ 0 → ⊥) → refusal_at 9 (suc k) ≡ first_of not_refused cases
    unfolding saying
    state_refuses k e n = place_refuses 9 k (records_cases c (timed_by (saying s l))) n ∙ ap (λ (j : ℕ). first_of not_refused (entry_case 9 j ∷ records_cases c (timed_by (saying s l)))) e ∙ sym (past _)

    pub records_decide : first_state_outside s.modulus s.variables E ≡ 0 → (k at : ℕ) → (k, at) ≡ course_refusal c records → refusal_at k at ≡ first_of not_refused cases
    unfolding saying timed_by course_refusal
    records_decide z k at e =
        ap (λ (q : ℕ × ℕ). refusal_at q.0 q.1) e ∙ sym (first_mapped (course_cases c records))
        ∙ sym (place_passes 9 (first_state_outside s.modulus s.variables E) (records_cases c records) z) ∙ sym (past _)

  -- the outcome
  module _ (t : Tables) (genes : List ℕ) (f : Refusal) (e : f ≡ first_of not_refused cases) where
    pub run_refused : (f.refusal ≡ 0 → ⊥) → record { answer = refused_course f; tables = t; interpolants = genes } ≡ run_outcome s l c short t genes
    unfolding run_outcome course_decided course_refused
    run_refused n = sym (ap (λ (x : Refusal). without_weights (course_decided x (course_accepted (saying s l) c t genes []) t genes [])) (sym e) ∙ rw (ne_eqb f.refusal 0 n))

    pub run_accepted : f.refusal ≡ 0 → without_weights (course_accepted (saying s l) c t genes []) ≡ run_outcome s l c short t genes
    unfolding run_outcome course_decided
    run_accepted z = sym (ap (λ (x : Refusal). without_weights (course_decided x (course_accepted (saying s l) c t genes []) t genes [])) (sym e) ∙ rw (eq-eqb f.refusal 0 z))

  -- no lent buffer is too short where nothing refuses
  pub taken_long : (t : Tables) (genes : List ℕ) (o : RunOutcome) → o ≡ run_outcome s l c short t genes → o.answer.refusal ≡ 0 → short ≡ false
  unfolding run_outcome course_decided course_accepted course_refused
  taken_long t genes o e z = (room s short header refl (go (eqb (first_of not_refused cases).refusal 0) refl (sym (ap (λ (x : RunOutcome). x.answer.refusal) e) ∙ z))).long
    where
      header : Refusal
      header = first_of not_refused (header_cases s short)

      none : (first_of not_refused cases).refusal ≡ 0 → header.refusal ≡ 0
      none y = pick (ℕ_discrete header.refusal 0)
        where
          pick : Dec (header.refusal ≡ 0) → header.refusal ≡ 0
          pick (yes q) = q
          pick (no n) = absurd (n (ap (λ (x : Refusal). x.refusal) (settings_refuse header refl n) ∙ y))

      go : (b : Bool) → eqb (first_of not_refused cases).refusal 0 ≡ b
          → (cond b (course_accepted (saying s l) c t genes []) (course_refused (first_of not_refused cases) t genes [])).answer.refusal ≡ 0 → header.refusal ≡ 0
      go true q y = none (eqb-true (first_of not_refused cases).refusal 0 q)
      go false q y = none y

  -- what is written of records that nothing refuses
  pub run_written : (t : Tables) (buffer : List ℕ) {r : Course} {left : Tables} {genes : List ℕ} → let o = course_sheet s records t in let b = told_return (course_return s c records) in
      r ≡ record { refusal = 0; at = 0; modulus = s.modulus; variables = s.variables; order = s.order; n = o.answer.n; r = o.answer.r; step = b.step; back = b.back }
      → left ≡ o.tables → genes ≡ course_model s records buffer
      → record { answer = r; tables = left; interpolants = genes } ≡ without_weights (course_accepted (saying s l) c t buffer [])
  unfolding course_accepted saying timed_by
  run_written t buffer a b d =
      ap₂ (λ (x : Course) (y : Tables × List ℕ). record { answer = x; tables = y.0; interpolants = y.1 }) a (ap₂ (λ (u : Tables) (v : List ℕ). (u, v)) b d)
