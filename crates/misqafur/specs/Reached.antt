-- How a sheet is reached (document 02, M-113: 'however the sheet was reached'; docs/SCOPE.md, 'A sheet names its states'): the outcome of each call that
-- answers n and r and leaves tables, with the settings that these are under. It is a sheet where the number is 0. What calls came before does not matter,
-- since an outcome is here whatever its call was handed; n, r and tables that come from elsewhere are a sheet where checking answers 0.
use Rattle.std.specs.Prelude.{List, ℕ, ℤ, take}
use Rattle.specification.specs.declared.settings.Settings.{Settings}
use Rattle.specification.specs.Tables.{Tables}
use Rattle.specification.specs.Adding.{Outcome, draw_outcome, uncosted, draw_packed_outcome}
use Rattle.specification.specs.Solving.{check_refusal}
use Rattle.specification.specs.LeaveOut.{fewer, leave_out_outcome}
use Rattle.specification.specs.Reference.{Operation, outcome_of}
use Rattle.forward.specs.Outcome.{CourseOutcome, course_outcome}
use Rattle.json_sheets.specs.Calls.{Received, read_outcome}

-- the settings that a host reads from an answer and the buffer of weights
abbrev pub settings_answered : ℕ → ℕ → ℕ → List ℕ → Settings
settings_answered modulus variables order weights = record { modulus = modulus; variables = variables; order = order; weights = take 8 weights }

-- the number, n and r with the tables
abbrev pub leaving : ℕ → ℕ → ℕ → Tables → Outcome
leaving k n r t = record { answer = record { refusal = k; n = n; r = r }; tables = t }

-- of a time course, and of reading JSON; and the settings that they answer
abbrev pub sheet_left : CourseOutcome → Outcome
sheet_left o = leaving o.answer.refusal o.answer.n o.answer.r o.tables

abbrev pub settings_left : CourseOutcome → Settings
settings_left o = settings_answered o.answer.modulus o.answer.variables o.answer.order o.weights

abbrev pub sheet_read : Received → Outcome
sheet_read o = leaving o.answer.refusal o.answer.n o.answer.r o.tables

abbrev pub settings_read : Received → Settings
settings_read o = settings_answered o.answer.modulus o.answer.variables o.answer.order o.weights

pub data Reached : Settings → Outcome → Type 0 where
  checked : (s : Settings) (n r : ℕ) (t : Tables) → Reached s (leaving (check_refusal s n r t) n r t)
  drawn : (s : Settings) (t : Tables) (levels : List ℤ) → Reached s (uncosted (draw_outcome s t levels))
  drawn_packed : (s : Settings) (t : Tables) (levels : List ℤ) → Reached s (draw_packed_outcome s t levels)
  -- by adding or withdrawing
  operated : (o : Operation) (s : Settings) (n r : ℕ) (t : Tables) → Reached s (outcome_of o s n r t)
  -- by leaving variable v out, under the settings that are left
  left_out : (s : Settings) (n r : ℕ) (t : Tables) (v : ℕ) (u : Tables) → Reached (fewer v s) (leave_out_outcome s n r t v u)
  -- by running a time course forward, under the settings that it answers
  timed : (text : List ℕ) (c : ℕ) (t : Tables) (interpolants weights : List ℕ)
      → Reached (settings_left (course_outcome text c t interpolants weights)) (sheet_left (course_outcome text c t interpolants weights))
  -- by reading JSON, under the settings that it answers
  read : (text : List ℕ) (t : Tables) (weights : List ℕ) → Reached (settings_read (read_outcome text t weights)) (sheet_read (read_outcome text t weights))
