-- What drawing up from all points is handed, and what it leaves. The public calls stand on it. Of these definitions a public promise names `settings_of`
-- alone (printing, Text).
use Rattle.std.specs.Prelude.{◌≡◌, cond, List, [], ◌∷◌, ◌++◌, map, ℕ, suc, ◌+◌, ◌-◌, ◌%◌, ◌<◌, ◌≤◌, length, get_or, set, take, replicate, T}
use Rattle.residue.specs.Sizes.{states_size, work_size, block_size, pivot_rows_size}
use Rattle.residue.specs.Inverse.{inverse_of}
use Rattle.residue.specs.Vector.{Below, pointwise}
use Rattle.elimination.specs.Elimination.{eliminated, multiples_of, Multiplied}
use Rattle.elimination.specs.Rows.{first_nonzero, pivot_row}
use Rattle.residue.specs.Layout.{fill, in_places, over, with_place}
use Rattle.specification.specs.declared.settings.Settings.{Settings}
use Rattle.specification.specs.Levels.{no_repeat}
use Rattle.specification.specs.BasisOf.{interpolant_of}
use Rattle.specification.specs.Cancellations.{value_column}
use Rattle.specification.specs.Tables.{space_under, points_under, standard_under, row_count, standard_table, leads_table, coefficients_table, points_in}
use Rattle.specification.specs.Settings.{Accepted}

-- A working row: empty, and with values at its front.
abbrev pub empty_row : List ℕ
empty_row = replicate work_size 0

abbrev pub row_with : List ℕ → List ℕ
row_with values = fill work_size values

-- The pivot rows and their pivots: of their sizes.
abbrev pub RowsLong : List ℕ → List ℕ → Type 0
RowsLong rows pivots = (length rows ≡ pivot_rows_size) × (length pivots ≡ 64)

-- the values of a variable times a monomial, from the n of the variable and those of the monomial
unfoldable pub product_values : ℕ → ℕ → List ℕ → List ℕ → List ℕ
product_values p n column values = over (pointwise p (take n values) column) values

-- Settings that no call refuses, and the table of n points, none twice.
pub record PointsGiven (s : Settings) (n : ℕ) (points : List ℕ) : Type 0 where
  pub settings : Accepted s
  pub most : n ≤ 64
  pub table : points ≡ fill states_size (in_places 8 (points_in s n points))
  pub once : T (no_repeat (points_in s n points))

-- Pivot rows for all the standard monomials: elimination leaves of any n values the negatives of their interpolant's coefficients.
pub record Solves (s : Settings) (S : List (List ℕ)) (rows pivots : List ℕ) : Type 0 where
  pub long_rows : length rows ≡ pivot_rows_size
  pub long_pivots : length pivots ≡ 64
  pub multiples : Multiplied s.modulus (length S) rows
  pub inside : (t : ℕ) → t < length S → get_or pivots t 0 < length S
  pub solves : (vs : List ℕ) → length vs ≡ length S → Below s.modulus vs
      → eliminated s.modulus rows pivots (length S) (row_with vs)
      ≡ row_with (replicate (length S) 0 ++ map (λ c. (s.modulus - c) % s.modulus) (interpolant_of (space_under s) (points_under s S) vs))

-- The row count and the three tables of the points' basis.
pub record Tabled (s : Settings) (S : List (List ℕ)) (r : ℕ) (standard leads coefficients : List ℕ) : Type 0 where
  pub row_count : r ≡ row_count s S
  pub standard_table_lem : standard ≡ standard_table s S
  pub leads_table_lem : leads ≡ leads_table s S
  pub coefficients_table_lem : coefficients ≡ coefficients_table s S

-- And the pivot rows.
pub record DrawnUp (s : Settings) (S : List (List ℕ)) (r : ℕ) (standard leads coefficients rows pivots : List ℕ) : Type 0 where
  pub tabled : Tabled s S r standard leads coefficients
  pub pivot_rows : Solves s S rows pivots

-- The lent bytes of the pivot rows: the blocks of their multiples, and their pivots.
pub record PivotBytes : Type 0 where
  pub rows : List ℕ
  pub pivots : List ℕ

abbrev pub pivot_bytes : List ℕ → List ℕ → PivotBytes
pivot_bytes rows pivots = record { rows = rows; pivots = pivots }

-- with a working row kept as pivot row t, with its multiples: its pivot is the place of its first value that is not 0, which becomes 1
unfoldable pub with_row : ℕ → ℕ → ℕ → List ℕ → PivotBytes → PivotBytes
with_row p n t work kept = let at = first_nonzero n work in
    pivot_bytes (with_place block_size t (multiples_of p (pivot_row p (n + t) (inverse_of p (get_or work at 0)) work)) kept.rows) (set kept.pivots t at)

-- with n values kept: the working row is what elimination by the t rows before leaves of them
unfoldable pub with_column : ℕ → ℕ → ℕ → List ℕ → PivotBytes → PivotBytes
with_column p n t values kept = with_row p n t (eliminated p kept.rows kept.pivots t (row_with values)) kept

-- with columns of n values kept behind the t rows before, first to last
unfoldable pub with_columns : ℕ → ℕ → ℕ → List (List ℕ) → PivotBytes → PivotBytes
with_columns p n t [] kept = kept
with_columns p n t (values ∷ columns) kept = with_columns p n (suc t) columns (with_column p n t values kept)

-- The pivot rows of the points, over lent bytes: one for each standard monomial, of its values at the points. What lies behind the last is as it was lent.
unfoldable pub pivot_rows_under : Settings → List (List ℕ) → List ℕ → List ℕ → PivotBytes
pivot_rows_under s S rows pivots =
    with_columns s.modulus (length S) 0 (map (value_column (space_under s) (points_under s S)) (standard_under s S)) (pivot_bytes rows pivots)

-- What recognition leaves of lent bytes: points of which one repeats are not drawn up.
unfoldable pub pivot_rows_left : Settings → List (List ℕ) → List ℕ → List ℕ → PivotBytes
pivot_rows_left s S rows pivots = cond (no_repeat S) (pivot_rows_under s S rows pivots) (pivot_bytes rows pivots)
