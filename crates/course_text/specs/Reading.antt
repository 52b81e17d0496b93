-- What the readers of a time course's records answer, in the terms of the definitions.
use Rattle.std.specs.Prelude.{◌≡◌, cond, List, [], ◌∷◌, ◌++◌, ℕ, suc, ◌+◌, ◌≤◌, ℤ, length, take, drop, Result, Ok, Err}
use Rattle.std.proofs.Math.Option.{Option}
use Rattle.specification.specs.Levels.{in_range}
use Rattle.notation.specs.Fields.{Part}
use Rattle.comma_text.specs.reading.Records.{form_fault_at}
use Rattle.comma_text.specs.reading.Points.{levels_in, behind_entry}
use Rattle.specification.specs.declared.refusals.Fault.{Fault}
use Rattle.courses.specs.Records.{RecordedAs}
use Rattle.course_text.specs.Form.{number_of, course_fault, all_timed, first_state_outside}
use Rattle.course_text.specs.declared.reading.Timed.{Timed}

-- `check_courses`: the count of the records, those of `seen` being passed, or the refusal of the first that has a fault of form, the header being 1
unfoldable pub counted_courses : ℕ → List (Option (List ℤ)) → List (Option (List ℤ)) → Result ℕ Fault
counted_courses m seen [] = Ok (length seen)
counted_courses m seen (e ∷ l) = cond (course_fault m seen e) (Err (form_fault_at (length seen + 2))) (counted_courses m (seen ++ (e ∷ [])) l)

-- `read_record`: whether the m levels are in range, the course number, and the text behind the record
pub record TimedAs (p m : ℕ) (text : List ℕ) (e : Part (List ℤ)) (r : Timed) : Type 0 where
  pub inside : r.inside ≡ in_range p (take m (levels_in e))
  pub number : r.number ≡ number_of m (levels_in e)
  pub rest : drop r.next text ≡ behind_entry e
  pub within : r.next ≤ length text

-- the place, from 1, of the record that was out of range; 0 where all were read
unfoldable pub place_outside : Result (Unit {0}) ℕ → ℕ
place_outside (Ok u) = 0
place_outside (Err «record») = suc «record»

-- `read_records`: the first place with a level out of range, or the records in the tables
pub record ReadAs (p m : ℕ) (E : List (List ℤ)) (r : Result (Unit {0}) ℕ) (records numbers : List ℕ) : Type 0 where
  pub place : place_outside r ≡ first_state_outside p m E
  pub recorded : place_outside r ≡ 0 → RecordedAs (all_timed p m E) records numbers
