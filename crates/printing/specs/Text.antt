-- What is printed of a text: docs/SCOPE.md, 'Examples': the program.
use Rattle.std.specs.Prelude.{◌≡◌, cond, List, [], map, ℕ, ◌≤◌, eqb, ltb, length, take, replicate}
use Rattle.specification.specs.declared.settings.Settings.{Settings}
use Rattle.specification.specs.BasisOf.{interpolant_of}
use Rattle.specification.specs.Tables.{space_under, points_under, standard_under, leads_under, rows_under, points_in}
use Rattle.specification.specs.Settings.{no_weights}
use Rattle.specification.specs.Needed.{wiring_of}
use Rattle.residue.specs.Sizes.{most_points, states_size, counts_size}
use Rattle.residue.specs.Layout.{over}
use Rattle.comma_text.specs.reading.Text.{TextOutcome, read_outcome}
use Rattle.printing.specs.Lines.{basis_lines, refusal_line}

-- The lines of the basis of points under settings, of the interpolant of values at them, and of their wiring list.
unfoldable pub lines_of : Settings → List (List ℕ) → List ℕ → List ℕ
lines_of s S values =
    basis_lines
    (map (λ a. a.0) (standard_under s S))
    (map (λ a. a.0) (leads_under s S))
    (rows_under s S)
    (interpolant_of (space_under s) (points_under s S) values)
    (wiring_of s.variables S values)

-- the settings that were read
abbrev pub settings_read : TextOutcome → Settings
settings_read o = let a = o.answer in record { modulus = a.modulus; variables = a.variables; order = a.order; weights = o.weights }

-- What is printed of the reader's answer: the refusal's line, or the lines of the points and values that were read.
unfoldable pub lines_read : TextOutcome → List ℕ
lines_read o = let a = o.answer in let s = settings_read o in
    cond (eqb a.refusal 0) (lines_of s (points_in s a.n o.states) (take a.n o.values)) (refusal_line a.refusal a.at)

-- What is printed of a text: nothing into a buffer of less than 131,072 bytes.
unfoldable pub lines_for : ℕ → List ℕ → List ℕ
lines_for size text = cond (ltb size 131072) []
    (lines_read (read_outcome text (replicate states_size 0) (replicate most_points 0) (replicate counts_size 0) no_weights))

-- The answer of printing, how many bytes were written, and the lent buffer at exit: they stand at its front.
pub record Printed : Type 0 where
  pub count : ℕ
  pub buffer : List ℕ

abbrev pub printed : ℕ → List ℕ → Printed
printed count buffer = record { count = count; buffer = buffer }

unfoldable pub print_outcome : List ℕ → List ℕ → Printed
print_outcome text buffer = let lines = lines_for (length buffer) text in printed (length lines) (over lines buffer)

-- so many bytes stand at the front, as lending them asks
abbrev pub Within : ℕ → List ℕ → Type 0
Within end out = (end ≤ length out) × (end ≡ length (take end out))
