-- The form of a time course's text, said and not computed (document 02, M-111), over the grammar of the other text.
use Rattle.std.specs.Prelude.{◌≡◌, List, [], ◌∷◌, ◌++◌, map, ◌↔◌, ℕ, suc, ◌≤◌, ℤ, pos}
use Rattle.std.proofs.Math.Option.{Option, some}
use Rattle.residue.specs.Lists.{Among}
use Rattle.notation.specs.Forms.{Header}
use Rattle.notation.specs.FormGrammar.{IsEntry}
use Rattle.comma_text.specs.reading.Text.{header_in}
use Rattle.comma_text.specs.reading.Faults.{Says, FaultAt}
use Rattle.course_text.specs.Form.{course_form_fault}

-- a record behind a header of m names: m levels and 'in place of a value and in its form, a course number from 1 to 99'
pub record IsCourseEntry (m : ℕ) (fields : List (List ℕ)) (levels : List ℤ) (c : ℕ) : Type 0 where
  pub entry : IsEntry m fields (levels ++ (pos c ∷ []))
  pub least : 1 ≤ c
  pub most : c ≤ 99

-- A record of the text, `none` being the one that breaks the grammar, has this course number.
abbrev pub HasNumber : ℕ → Option (List (List ℕ)) → ℕ → Type 0
HasNumber m r c = (fields : List (List ℕ)) × (levels : List ℤ) × (r ≡ some fields) × IsCourseEntry m fields levels c

-- 'returning after another': a record before has it, and the one directly before has not
abbrev pub ReturnsAfter : ℕ → List (Option (List (List ℕ))) → ℕ → Type 0
ReturnsAfter m before c = ((r : Option (List (List ℕ))) × Among r before × HasNumber m r c)
    × ¬ ((b : List (Option (List (List ℕ)))) × (r : Option (List (List ℕ))) × (before ≡ b ++ (r ∷ [])) × HasNumber m r c)

-- 'Course numbers outside the range or returning after another count as faults of form': a record has the wrong form, by those before it,
-- unless it has a course number that does not return.
abbrev pub WrongCourse : ℕ → List (Option (List (List ℕ))) → Option (List (List ℕ)) → Type 0
WrongCourse m before r = (c : ℕ) → HasNumber m r c → ReturnsAfter m before c

-- between two records of one number stands none of another
abbrev pub Together : List ℕ → Type 0
Together numbers = (b c d e : List ℕ) (x y : ℕ) → numbers ≡ b ++ (x ∷ (c ++ (y ∷ (d ++ (x ∷ e))))) → x ≡ y

-- a text of right form, with what its header says and each record behind it, its levels with its course number
pub record SaysCourses (text : List ℕ) (h : Header) (l : List (List ℤ × ℕ)) : Type 0 where
  pub says : Says text h (map (λ a. a.0 ++ (pos a.1 ∷ [])) l)
  pub range : (a : List ℤ × ℕ) → Among a l → (1 ≤ a.1) × (a.1 ≤ 99)
  pub together : Together (map (λ a. a.1) l)

-- the computed record of refusal 2 is the one at which records fail
abbrev pub CourseFaults : Type 0
CourseFaults = (t : List (Option (List (List ℕ)))) (k : ℕ) → FaultAt WrongCourse t (suc k) ↔ (course_form_fault (header_in t) t ≡ suc k)
