-- Running a time course forward from its text: the call's refusals with the record at fault, in document 02's order (M-111), and what an accepted call leaves.
use Rattle.std.specs.Prelude.{Bool, not, cond, ◌||◌, List, ◌∷◌, ◌++◌, map, ℕ, length, eqb, ltb, Result, Ok, Err}
use Rattle.std.proofs.Math.Option.{get_or}
use Rattle.residue.specs.Layout.{over}
use Rattle.specification.specs.Refusal.{first_of}
use Rattle.specification.specs.Answers.{number_of}
use Rattle.specification.specs.Tables.{Tables, too_short}
use Rattle.specification.specs.declared.refusals.Fault.{Fault}
use Rattle.notation.specs.Fields.{records_of}
use Rattle.comma_text.specs.reading.Answers.{Refusal}
use Rattle.comma_text.specs.reading.Text.{header_in, no_header, Contents, contents_of, refusal_at, not_refused, broken_at, TextCase, settings_by, header_cases, entry_case}
use Rattle.courses.specs.TimeCourse.{Timed, course_cases, told_return, course_return, course_sheet, course_model}
use Rattle.course_text.specs.Form.{course_form_fault, all_timed, first_state_outside}
use Rattle.forward.specs.declared.running.Course as R

-- the records of a text of right form
unfoldable pub timed_by : Contents → List Timed
timed_by e = all_timed e.header.modulus e.header.variables e.entries

-- one of the five tables, the interpolants (512 bytes) or the weights (8) is too short
unfoldable pub short_for : Tables → List ℕ → List ℕ → Bool
short_for t interpolants weights = too_short t || ltb (length interpolants) 512 || ltb (length weights) 8

-- what the moves decide, with their records
abbrev pub records_cases : ℕ → List Timed → List TextCase
records_cases c l = map (λ k. (k.0, refusal_at k.1.0 k.1.1)) (course_cases c l)

-- all of them, in the order of checking: 1, 2, 3, 4, 15, 6, 9, 17, 8, 13, 18
unfoldable pub time_cases : List ℕ → ℕ → Contents → Bool → ℕ → List TextCase
time_cases text fault e short c =
    (ltb 16384 (length text), refusal_at 1 0)
    ∷ (not (eqb fault 0), broken_at fault)
    ∷ (header_cases (settings_by e.header) short
    ++ (entry_case 9 (first_state_outside e.header.modulus e.header.variables e.entries) ∷ records_cases c (timed_by e)))

-- The refusal with the record at fault, the header being 1; or 0 with the settings, the counts of the points' sheet, the step at which the run comes back to a
-- state and how many steps ago that was met, 0 and 0 where it does not come back.
pub record Course : Type 0 where
  pub refusal : ℕ
  pub at : ℕ
  pub modulus : ℕ
  pub variables : ℕ
  pub order : ℕ
  pub n : ℕ
  pub r : ℕ
  pub step : ℕ
  pub back : ℕ

unfoldable pub course_answer : Result R.Course Fault → Course
course_answer (Ok a) = record {
  refusal = 0;
  at = 0;
  modulus = a.modulus;
  variables = a.variables;
  order = a.order;
  n = a.n;
  r = a.r;
  step = a.step;
  back = a.back;
}
course_answer (Err f) = record { refusal = number_of f.refusal; at = f.at; modulus = 0; variables = 0; order = 0; n = 0; r = 0; step = 0; back = 0 }

-- the answer, and the lent buffers at exit
pub record CourseOutcome : Type 0 where
  pub answer : Course
  pub tables : Tables
  pub interpolants : List ℕ
  pub weights : List ℕ

abbrev pub course_ended : Course → Tables → List ℕ → List ℕ → CourseOutcome
course_ended r tables interpolants weights = record { answer = r; tables = tables; interpolants = interpolants; weights = weights }

-- 'the settings, the points' sheet, the interpolants .., and that step with the distance back to the earlier visit'
unfoldable pub course_accepted : Contents → ℕ → Tables → List ℕ → List ℕ → CourseOutcome
course_accepted e c t interpolants weights =
    let s = settings_by e.header in
    let l = timed_by e in
    let sheet = course_sheet s l t in
    let back = told_return (course_return s c l) in
    record {
      answer = record {
        refusal = 0;
        at = 0;
        modulus = s.modulus;
        variables = s.variables;
        order = s.order;
        n = sheet.answer.n;
        r = sheet.answer.r;
        step = back.step;
        back = back.back;
      };
      tables = sheet.tables;
      interpolants = course_model s l interpolants;
      weights = over e.header.weights weights;
    }

-- A refusal comes with its record and changes nothing.
abbrev pub refused_course : Refusal → Course
refused_course f = record { refusal = f.refusal; at = f.at; modulus = 0; variables = 0; order = 0; n = 0; r = 0; step = 0; back = 0 }

unfoldable pub course_refused : Refusal → Tables → List ℕ → List ℕ → CourseOutcome
course_refused f t interpolants weights = record {
  answer = refused_course f;
  tables = t;
  interpolants = interpolants;
  weights = weights;
}

unfoldable pub course_decided : Refusal → CourseOutcome → Tables → List ℕ → List ℕ → CourseOutcome
course_decided f done t interpolants weights = cond (eqb f.refusal 0) done (course_refused f t interpolants weights)

-- A text, the number of the course to run, and the lent buffers.
unfoldable pub course_outcome : List ℕ → ℕ → Tables → List ℕ → List ℕ → CourseOutcome
course_outcome text c t interpolants weights =
    let records = records_of text in
    let e = contents_of (get_or (header_in records) no_header) records in
    course_decided
    (first_of not_refused (time_cases text (course_form_fault (header_in records) records) e (short_for t interpolants weights) c))
    (course_accepted e c t interpolants weights) t interpolants weights
