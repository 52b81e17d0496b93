-- The form of a time course's text (request M-111): that of the other text, but 'whose last column holds, in place of a value and in its form, a course number
-- from 1 to 99'.
use Rattle.std.specs.Prelude.{Bool, true, not, cond, ◌&&◌, ◌||◌, List, [], ◌∷◌, map, ℕ, ℤ, pos, negsuc, take, eqb, leb}
use Rattle.std.proofs.Math.Option.{Option, some, none, get_or}
use Rattle.residue.specs.Lists as Lists
use Rattle.notation.specs.Forms.{Header}
use Rattle.comma_text.specs.reading.Text.{further, first_fault, first_after, entries_in, entry_point, is_outside}
use Rattle.comma_text.specs.reading.Text.{last_level}
use Rattle.courses.specs.TimeCourse.{Timed}

-- the course number that a level is, so that 7, 07 and 007 are course 7; 0 where it is none
unfoldable pub course_in : ℤ → ℕ
course_in (pos k) = cond (leb k 99) k 0
course_in (negsuc k) = 0

-- that of an entry, behind its m levels
unfoldable pub number_of : ℕ → List ℤ → ℕ
number_of m levels = course_in (last_level m levels)

unfoldable pub numbers_of : ℕ → List (Option (List ℤ)) → List ℕ
numbers_of m entries = map (λ e. number_of m (get_or e [])) entries

-- the last of them; 0 where there is none
unfoldable pub latest : List ℕ → ℕ
latest [] = 0
latest (c ∷ []) = c
latest (c ∷ d ∷ l) = latest (d ∷ l)

-- 'returning after another': it was there before, and the latest is another
unfoldable pub comes_back : List ℕ → ℕ → Bool
comes_back before c = Lists.some (eqb c) before && not (eqb c (latest before))

-- A record behind the header has a fault of form, by those before it: it is no entry, or its number is 'outside the range or returning after another'.
unfoldable pub course_fault : ℕ → List (Option (List ℤ)) → Option (List ℤ) → Bool
course_fault m before none = true
course_fault m before (some levels) = eqb (number_of m levels) 0 || comes_back (numbers_of m before) (number_of m levels)

-- The record of refusal 2, under a header that was read or not; 0 where there is none. It is looked for over the whole text, earliest record first.
unfoldable pub course_form_fault : Option Header → List (Option (List (List ℕ))) → ℕ
course_form_fault none records = 1
course_form_fault (some h) records = further (first_after (course_fault h.variables) [] (entries_in h.variables records))

-- an entry as its state, in residues, with its course number
unfoldable pub timed_of : ℕ → ℕ → List ℤ → Timed
timed_of p m levels = (entry_point p m levels, number_of m levels)

unfoldable pub all_timed : ℕ → ℕ → List (List ℤ) → List Timed
all_timed p m E = map (timed_of p m) E

-- a level of an entry is out of range; its course number never is
unfoldable pub state_outside : ℕ → ℕ → List ℤ → Bool
state_outside p m levels = is_outside p (take m levels)

-- the place, from 1, of the first entry that has such a level; 0 where there is none
unfoldable pub first_state_outside : ℕ → ℕ → List (List ℤ) → ℕ
first_state_outside p m E = first_fault (state_outside p m) E
