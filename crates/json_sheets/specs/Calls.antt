-- The two calls of request M-112: what each answers and leaves in the lent buffers, refused or not.
use Rattle.std.specs.Prelude.{Bool, not, cond, ◌||◌, List, [], ◌∷◌, ◌++◌, ℕ, length, eqb, ltb, Result, Ok, Err}
use Rattle.std.proofs.Math.Option.{get_or}
use Rattle.residue.specs.Layout.{over}
use Rattle.specification.specs.declared.settings.Settings.{Settings}
use Rattle.specification.specs.declared.refusals.Refusal.{Refusal}
use Rattle.specification.specs.Refusal.{Case, first_of}
use Rattle.specification.specs.Answers.{number_of}
use Rattle.specification.specs.Settings.{settings_cases}
use Rattle.specification.specs.Tables.{Tables, too_short, recognised}
use Rattle.specification.specs.Tables.{written as writtenOver}
use Rattle.json_text.specs.Documents.{Document, written}
use Rattle.json_text.specs.Reading.{read, is_none}
use Rattle.json_sheets.specs.declared.read.Archived.{Archived}
use Rattle.json_sheets.specs.Sheets.{document_of, settings_in, state_count, row_count_in, tables_in}

-- 'The buffer lent is 131,072 bytes'
abbrev pub text_size : ℕ
text_size = 131072

-- what both calls refuse of settings, lent lengths and a sheet
unfoldable pub sheet_cases : Settings → Bool → ℕ → ℕ → Tables → List Case
sheet_cases s short n r t = settings_cases s ++ ((short, 6) ∷ (ltb 64 n, 8) ∷ (not (recognised s n r t), 10) ∷ [])

-- Writing: the refusal alone, or 0 with the text's length; the text stands at the front of the buffer, and bytes after it are untouched.
pub record Written : Type 0 where
  pub refusal : ℕ
  pub count : ℕ

unfoldable pub written_of : Result ℕ Refusal → Written
written_of (Ok count) = record { refusal = 0; count = count }
written_of (Err e) = record { refusal = number_of e; count = 0 }

pub record WrittenText : Type 0 where
  pub answer : Written
  pub buffer : List ℕ

abbrev pub wrote : Written → List ℕ → WrittenText
wrote a buffer = record { answer = a; buffer = buffer }

unfoldable pub writing : ℕ → List ℕ → List ℕ → WrittenText
writing k text buffer = wrote (record { refusal = k; count = cond (eqb k 0) (length text) 0 }) (cond (eqb k 0) (over text buffer) buffer)

unfoldable pub write_cases : Settings → ℕ → ℕ → Tables → List ℕ → List Case
write_cases s n r t buffer = sheet_cases s (too_short t || ltb (length buffer) text_size) n r t

unfoldable pub write_outcome : Settings → ℕ → ℕ → Tables → List ℕ → WrittenText
write_outcome s n r t buffer = writing (first_of 0 (write_cases s n r t buffer)) (written (document_of s n r t)) buffer

-- Reading: the refusal alone, or 0 with the settings, n and r; five tables and eight bytes of weights are written to their sizes.
pub record Taken : Type 0 where
  pub refusal : ℕ
  pub modulus : ℕ
  pub variables : ℕ
  pub order : ℕ
  pub n : ℕ
  pub r : ℕ

unfoldable pub taken_of : Result Archived Refusal → Taken
taken_of (Ok a) = record { refusal = 0; modulus = a.modulus; variables = a.variables; order = a.order; n = a.n; r = a.r }
taken_of (Err e) = record { refusal = number_of e; modulus = 0; variables = 0; order = 0; n = 0; r = 0 }

pub record Received : Type 0 where
  pub answer : Taken
  pub tables : Tables
  pub weights : List ℕ

abbrev pub received : Taken → Tables → List ℕ → Received
received a t weights = record { answer = a; tables = t; weights = weights }

unfoldable pub read_refused : ℕ → Tables → List ℕ → Received
read_refused k t weights = received (record { refusal = k; modulus = 0; variables = 0; order = 0; n = 0; r = 0 }) t weights

-- a sheet that was taken: its settings, n, r and tables, over the lent ones
unfoldable pub sheet_taken : Settings → ℕ → ℕ → Tables → Tables → List ℕ → Received
sheet_taken s n r new t weights = received (record { refusal = 0; modulus = s.modulus; variables = s.variables; order = s.order; n = n; r = r })
    (writtenOver new t) (over s.weights weights)

unfoldable pub read_accepted : Document → Tables → List ℕ → Received
read_accepted d t weights = sheet_taken (settings_in d) (state_count d) (row_count_in d) (tables_in d) t weights

-- the document of a text; of another text, which is refused before any of it counts, one of nothing
unfoldable pub document_said : List ℕ → Document
document_said text = get_or (read text) (record {
  coefficients = [];
  counts = [];
  leads = [];
  modulus = 0;
  order = 0;
  points = [];
  standard = [];
  variables = 0;
  weights = [];
})

-- 'a well-formed text whose numbers are no sheet gets the later numbers'
unfoldable pub document_cases : Document → Tables → List ℕ → List Case
document_cases d t weights = sheet_cases (settings_in d) (too_short t || ltb (length weights) 8) (state_count d) (row_count_in d) (tables_in d)

unfoldable pub read_cases : List ℕ → Tables → List ℕ → List Case
read_cases text t weights = (ltb text_size (length text), 1) ∷ (is_none (read text), 19) ∷ document_cases (document_said text) t weights

unfoldable pub read_outcome : List ℕ → Tables → List ℕ → Received
read_outcome text t weights =
    let k = first_of 0 (read_cases text t weights) in cond (eqb k 0) (read_accepted (document_said text) t weights) (read_refused k t weights)
