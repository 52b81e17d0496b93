-- What C sees of a call: one number that holds the refusal and the counts, and the lent bytes. A call that answers a refusal alone answers it as it is.
use Rattle.std.specs.Prelude.{cond, List, [], ◌∷◌, ℕ, ◌+◌, ◌*◌, ◌≤◌, eqb}
use Rattle.residue.specs.Words.{bytes_of}
use Rattle.specification.specs.declared.settings.Settings.{Settings}
use Rattle.specification.specs.Answers.{Answer, Drawn, Wired}
use Rattle.specification.specs.Tables.{Tables}
use Rattle.specification.specs.Adding.{Outcome, DrawOutcome}
use Rattle.specification.specs.Solving.{Listed}
use Rattle.comma_text.specs.reading.Answers.{Read}
use Rattle.comma_text.specs.reading.Text.{TextOutcome}
use Rattle.forward.specs.Outcome.{Course}
use Rattle.forward.specs.Outcome.{CourseOutcome}
use Rattle.json_sheets.specs.Calls.{Written, Taken, WrittenText, Received}

-- Numbers in one, each 256 times higher than the one before it.
abbrev pub packed : List ℕ → ℕ
packed [] = 0
packed (a ∷ l) = a + 256 * packed l

-- The settings that a call is handed: the weights as one number, w1 + 256 w2 + 65536 w3 + ...
abbrev pub settings_given : ℕ → ℕ → ℕ → ℕ → Settings
settings_given modulus variables order weights = record { modulus = modulus; variables = variables; order = order; weights = bytes_of 8 weights }

-- refusal + 256 n + 65536 r
abbrev pub packed_answer : Answer → ℕ
packed_answer a = packed (a.refusal ∷ a.n ∷ a.r ∷ [])

-- refusal + 256 n + 65536 r + 2^32 cancellations
abbrev pub packed_drawn : Drawn → ℕ
packed_drawn d = packed (d.refusal ∷ d.n ∷ (d.r + 65536 * d.cancellations) ∷ [])

-- refusal + 256 count
abbrev pub packed_wired : Wired → ℕ
packed_wired w = packed (w.refusal ∷ w.count ∷ [])

-- refused: refusal + 256 record; else 256 n + 65536 modulus + 2^24 variables + 2^32 order
abbrev pub packed_read : Read → ℕ
packed_read r = cond (eqb r.refusal 0) (packed (0 ∷ r.n ∷ r.modulus ∷ r.variables ∷ r.order ∷ [])) (packed (r.refusal ∷ r.at ∷ []))

-- refused: refusal + 256 record; else 256 n + 65536 modulus + 2^24 variables + 2^32 order + 2^36 r + 2^46 step + 2^55 back
abbrev pub packed_course : Course → ℕ
packed_course c =
    cond (eqb c.refusal 0)
    (packed (0 ∷ c.n ∷ c.modulus ∷ c.variables ∷ (c.order + 16 * (c.r + 1024 * (c.step + 512 * c.back))) ∷ []))
    (packed (c.refusal ∷ c.at ∷ []))

-- its parts fit the places that they have there
pub record CourseFits (c : Course) : Type 0 where
  pub n : c.n ≤ 255
  pub modulus : c.modulus ≤ 255
  pub variables : c.variables ≤ 255
  pub order : c.order ≤ 15
  pub r : c.r ≤ 1023
  pub step : c.step ≤ 511
  pub back : c.back ≤ 511

-- refusal + 256 length
abbrev pub packed_written : Written → ℕ
packed_written w = packed (w.refusal ∷ w.count ∷ [])

-- refusal + 256 n + 65536 modulus + 2^24 variables + 2^32 order + 2^36 r
abbrev pub packed_taken : Taken → ℕ
packed_taken a = packed (a.refusal ∷ a.n ∷ a.modulus ∷ a.variables ∷ (a.order + 16 * a.r) ∷ [])

-- Adding, withdrawing and drawing up, packed or not: the number, and the lent tables at exit.
pub record Left : Type 0 where
  pub number : ℕ
  pub tables : Tables

abbrev pub left : ℕ → Tables → Left
left a tables = record { number = a; tables = tables }

unfoldable pub packed_outcome : Outcome → Left
packed_outcome o = record { number = packed_answer o.answer; tables = o.tables }

unfoldable pub packed_drawing : DrawOutcome → Left
packed_drawing o = record { number = packed_drawn o.answer; tables = o.tables }

-- The wiring call and writing JSON: the number, and the lent buffer at exit.
pub record LeftList : Type 0 where
  pub number : ℕ
  pub buffer : List ℕ

abbrev pub left_list : ℕ → List ℕ → LeftList
left_list a buffer = record { number = a; buffer = buffer }

unfoldable pub packed_list : Listed → LeftList
packed_list o = record { number = packed_wired o.answer; buffer = o.buffer }

unfoldable pub packed_text : WrittenText → LeftList
packed_text o = left_list (packed_written o.answer) o.buffer

-- Reading JSON: the number, and the lent tables and weights at exit.
pub record LeftSheet : Type 0 where
  pub number : ℕ
  pub tables : Tables
  pub weights : List ℕ

abbrev pub left_sheet : ℕ → Tables → List ℕ → LeftSheet
left_sheet a tables weights = record { number = a; tables = tables; weights = weights }

unfoldable pub packed_sheet : Received → LeftSheet
packed_sheet o = left_sheet (packed_taken o.answer) o.tables o.weights

-- Reading a text: the number, and the lent buffers at exit.
pub record LeftReading : Type 0 where
  pub number : ℕ
  pub states : List ℕ
  pub values : List ℕ
  pub counts : List ℕ
  pub weights : List ℕ

abbrev pub left_reading : ℕ → List ℕ → List ℕ → List ℕ → List ℕ → LeftReading
left_reading a states values counts weights = record { number = a; states = states; values = values; counts = counts; weights = weights }

unfoldable pub packed_reading : TextOutcome → LeftReading
packed_reading o = record { number = packed_read o.answer; states = o.states; values = o.values; counts = o.counts; weights = o.weights }

-- Running a time course forward: the number, and the lent buffers at exit.
pub record LeftCourse : Type 0 where
  pub number : ℕ
  pub tables : Tables
  pub interpolants : List ℕ
  pub weights : List ℕ

abbrev pub left_course : ℕ → Tables → List ℕ → List ℕ → LeftCourse
left_course a tables interpolants weights = record { number = a; tables = tables; interpolants = interpolants; weights = weights }

unfoldable pub packed_run : CourseOutcome → LeftCourse
packed_run o = left_course (packed_course o.answer) o.tables o.interpolants o.weights
