-- What is decided of records, and what is written of them, as the code does it. No public promise names these: they serve the contracts of
-- the functions that run a course.
use Rattle.std.specs.Prelude.{◌≡◌, Bool, List, [], ◌∷◌, ◌++◌, ℕ, ◌<◌, length, get_or, replicate, Result, Ok, Err}
use Rattle.residue.specs.Sizes.{pivot_rows_size}
use Rattle.residue.specs.Layout.{fill, in_places, over, row_at}
use Rattle.specification.specs.declared.settings.Settings.{Settings}
use Rattle.specification.specs.Refusal.{first_of}
use Rattle.specification.specs.Answers.{number_of}
use Rattle.specification.specs.Tables.{Tables, points_in, standard_table}
use Rattle.specification.specs.declared.refusals.Fault.{Fault}
use Rattle.specification.specs.Adding.{Outcome, holding_both}
use Rattle.construction.specs.Drawing.{Solves, PivotBytes, pivot_rows_under}
use Rattle.points.specs.Gathering.{TabledAs}
use Rattle.comma_text.specs.reading.Text.{Contents, TextCase, not_refused, settings_by, header_cases, entry_case}
use Rattle.comma_text.specs.reading.Points.{saying}
use Rattle.courses.specs.declared.returns.Return.{Return}
use Rattle.courses.specs.TimeCourse.{Timed, course_of, moves_of, points_of_moves, course_refusal, told_return, return_of}
use Rattle.courses.specs.Moves.{FirstsOf}
use Rattle.steps.specs.Stepping.{solutions_of, step_of}
use Rattle.course_text.specs.Form.{first_state_outside}
use Rattle.forward.specs.Outcome.{Course, CourseOutcome, timed_by, records_cases, course_accepted, course_decided}
use Rattle.forward.specs.declared.running.Decided as R

-- The refusal of records with the record at fault, or 0 with the number of points and where the course's first record stands.
pub record Decided : Type 0 where
  pub refusal : ℕ
  pub at : ℕ
  pub n : ℕ
  pub first : ℕ

unfoldable pub decided_of : Result R.Decided Fault → Decided
decided_of (Ok d) = record { refusal = 0; at = 0; n = d.n; first = d.first }
decided_of (Err f) = record { refusal = number_of f.refusal; at = f.at; n = 0; first = 0 }

-- `decide`: the refusal of the records with its own record; or 0, the points with their counts and a record for each, and the place of the
-- course's first record
pub record DecidedAs (c : ℕ) (l : List Timed) (records : List ℕ) (d : Decided) (points counts firsts : List ℕ) : Type 0 where
  pub answer : (d.refusal, d.at) ≡ course_refusal c l
  pub tabled : d.refusal ≡ 0 → TabledAs (points_of_moves (moves_of l)) d.n points counts
  pub kept : d.refusal ≡ 0 → FirstsOf (moves_of l) (length l) records firsts
  pub inside : d.refusal ≡ 0 → d.first < length l
  pub first : d.refusal ≡ 0 → row_at 8 d.first records ≡ fill 8 (get_or (course_of c l) 0 [])

-- n, r and the five tables of an outcome
abbrev pub sheet_of : Outcome → ℕ × ℕ × Tables
sheet_of o = (o.answer.n, o.answer.r, o.tables)

-- the pivot rows of points, drawn up over zeros
abbrev pub pivots_of : Settings → List (List ℕ) → PivotBytes
pivots_of s S = pivot_rows_under s S (replicate pivot_rows_size 0) (replicate 64 0)

-- the interpolants of the variables at n points, whose successors stand behind the records that `firsts` names
abbrev pub genes_in : Settings → ℕ → List (List ℕ) → List ℕ → List ℕ → List ℕ
genes_in s n S records firsts = let kept = pivots_of s S in
    fill 512 (in_places 64 (solutions_of s.modulus n kept.rows kept.pivots records firsts s.variables))

-- the run from the state of a record
abbrev pub return_in : Settings → ℕ → List (List ℕ) → List ℕ → List ℕ → ℕ → Return
return_in s n S records firsts first =
    told_return (return_of (step_of s.modulus s.variables n (standard_table s S) (genes_in s n S records firsts)) (row_at 8 first records))

-- `write_course`, of n points in a table with their counts
pub record CourseWritten (s : Settings) (n first : ℕ) (records firsts points times : List ℕ) (lent : Tables) (buffer : List ℕ) (r : Course) (left : Tables)
    (genes : List ℕ) : Type 0 where
  pub sheet : (r.n, r.r, left) ≡ sheet_of (holding_both s (points_in s n points) times lent)
  pub model : genes ≡ over (genes_in s n (points_in s n points) records firsts) buffer
  pub back : record { step = r.step; back = r.back } ≡ return_in s n (points_in s n points) records firsts first
  pub solves : let kept = pivots_of s (points_in s n points) in Solves s (points_in s n points) kept.rows kept.pivots
  pub settings : (r.refusal ≡ 0) × (r.at ≡ 0) × (r.modulus ≡ s.modulus) × (r.variables ≡ s.variables) × (r.order ≡ s.order)

-- What is answered and left of a text of right form but for its weights, by its settings, the text behind its header and whether a lent buffer is too short.
pub record RunOutcome : Type 0 where
  pub answer : Course
  pub tables : Tables
  pub interpolants : List ℕ

abbrev pub run_ended : Course → Tables → List ℕ → RunOutcome
run_ended r tables interpolants = record { answer = r; tables = tables; interpolants = interpolants }

abbrev pub run_cases : Contents → ℕ → Bool → List TextCase
run_cases e c short = header_cases (settings_by e.header) short
    ++ (entry_case 9 (first_state_outside e.header.modulus e.header.variables e.entries) ∷ records_cases c (timed_by e))

abbrev pub without_weights : CourseOutcome → RunOutcome
without_weights o = record { answer = o.answer; tables = o.tables; interpolants = o.interpolants }

unfoldable pub run_outcome : Settings → List ℕ → ℕ → Bool → Tables → List ℕ → RunOutcome
run_outcome s l c short t interpolants = let e = saying s l in
    without_weights (course_decided (first_of not_refused (run_cases e c short)) (course_accepted e c t interpolants []) t interpolants [])
