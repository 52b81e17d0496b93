-- What refuses a call that is lent tables, up to 10, and what looking at them leaves in the arrays lent for it, by the number. No public promise names these:
-- each public call has its own list of cases, which begins so, and the arrays are its own.
use Rattle.std.specs.Prelude.{◌≡◌, Bool, not, cond, ◌&&◌, ◌||◌, List, [], ◌∷◌, ◌++◌, ℕ, ◌/◌, ℤ, length, eqb, ltb}
use Rattle.residue.specs.Sizes.{states_size}
use Rattle.residue.specs.Layout.{groups, fill, in_places}
use Rattle.specification.specs.declared.settings.Settings.{Settings}
use Rattle.specification.specs.Refusal.{Case}
use Rattle.specification.specs.Settings.{settings_cases}
use Rattle.specification.specs.Levels.{in_range}
use Rattle.specification.specs.Tables.{Tables, too_short, points_in, recognised}
use Rattle.specification.specs.Solving.{within_variables}
use Rattle.construction.specs.Drawing.{Solves, pivot_bytes, pivot_rows_left}
use Rattle.recognition.specs.declared.looking.Faults.{Faults}

-- In each case what only some calls have stands first: for a call that has none it is computed away.
unfoldable pub look_cases : Settings → ℕ → ℕ → Tables → Faults → List ℤ → List ℕ → List Case
look_cases s n r t f numbers exponents = settings_cases s
    ++ ((f.short || too_short t, 6)
    ∷ (f.wrong, 7)
    ∷ (f.many || ltb 64 n, 8)
    ∷ (not (within_variables s.variables (groups 8 (length exponents / 8) exponents) && in_range s.modulus numbers), 9)
    ∷ (not (recognised s n r t), 10) ∷ [])

-- A call with this number has looked at its tables: it is refused for them, or nothing refuses it up to there.
unfoldable pub looked_at : ℕ → Bool
looked_at k = eqb k 0 || eqb k 10

-- The points of the tables, as a table, and what recognition leaves of lent pivot rows, where they are looked at; else the arrays are as they were lent. Where
-- nothing refuses, the pivot rows are those of all the points.
pub record Looked (s : Settings) (n : ℕ) (states : List ℕ) (k : ℕ) (points₀ rows₀ pivots₀ points rows pivots : List ℕ) : Type 0 where
  pub table : points ≡ cond (looked_at k) (fill states_size (in_places 8 (points_in s n states))) points₀
  pub pivot_rows : pivot_bytes rows pivots ≡ cond (looked_at k) (pivot_rows_left s (points_in s n states) rows₀ pivots₀) (pivot_bytes rows₀ pivots₀)
  pub solves : k ≡ 0 → Solves s (points_in s n states) rows pivots
