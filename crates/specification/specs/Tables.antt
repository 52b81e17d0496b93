-- The five lent tables of points with their counts under settings: docs/SCOPE.md, 'The sheet'; the fifth is request M-106's.
use Rattle.std.specs.Prelude.{Bool, ◌&&◌, ◌||◌, ℕ, suc, ◌-◌, length, ltb, eqb}
use mathlib.Core.List.{List, map, zip}
use Rattle.residue.specs.Sizes.{states_size, standard_size, leads_size, coefficients_size, counts_size}
use Rattle.residue.specs.Lists.{every}
use Rattle.residue.specs.Layout.{groups, fill, in_places, over, begins}
use Rattle.monomial.specs.Order.{Order, order_of}
use Rattle.specification.specs.declared.settings.Settings.{Settings}
use Rattle.specification.specs.Levels.{no_repeat}
use Rattle.specification.specs.Counted.{Counted, points_of, counts_of, is_count}
use Rattle.specification.specs.Space.{Space}
use Rattle.specification.specs.BasisOf.{standard_of, leads_of, rows_of}
use Rattle.specification.specs.Instance.{Monomial, Point, space_of, point_of}

-- The order of monomials and the space under settings, and points under settings as lists of residues.
abbrev pub order_under : Settings → Order
order_under s = order_of s.order s.weights

abbrev pub space_under : Settings → Space
space_under s = space_of (s.modulus - 1) s.variables (order_under s)

abbrev pub points_under : (s : Settings) → List (List ℕ) → List (Point (suc (s.modulus - 1)) s.variables)
points_under s S = map (point_of (s.modulus - 1) s.variables) S

-- their standard monomials, leading monomials and rows
abbrev pub standard_under : (s : Settings) → List (List ℕ) → List (Monomial s.variables)
standard_under s S = standard_of (space_under s) (points_under s S)

abbrev pub leads_under : (s : Settings) → List (List ℕ) → List (Monomial s.variables)
leads_under s S = leads_of (space_under s) (points_under s S)

abbrev pub rows_under : Settings → List (List ℕ) → List (List ℕ)
rows_under s S = rows_of (space_under s) (points_under s S)

pub record Tables : Type 0 where
  pub states : List ℕ
  pub standard : List ℕ
  pub leads : List ℕ
  pub coefficients : List ℕ
  pub counts : List ℕ

abbrev pub five_tables : List ℕ → List ℕ → List ℕ → List ℕ → List ℕ → Tables
five_tables a b c d e = record { states = a; standard = b; leads = c; coefficients = d; counts = e }

-- The row count r.
unfoldable pub row_count : Settings → List (List ℕ) → ℕ
row_count s S = length (leads_under s S)

-- The tables of points: 8 bytes for a point, a standard monomial and a leading monomial, 64 for a row of coefficients; each byte of the sizes that is not so
-- described is 0.
unfoldable pub states_table : List (List ℕ) → List ℕ
states_table S = fill states_size (in_places 8 S)

unfoldable pub standard_table : Settings → List (List ℕ) → List ℕ
standard_table s S = fill standard_size (in_places 8 (map (λ a. a.0) (standard_under s S)))

unfoldable pub leads_table : Settings → List (List ℕ) → List ℕ
leads_table s S = fill leads_size (in_places 8 (map (λ a. a.0) (leads_under s S)))

unfoldable pub coefficients_table : Settings → List (List ℕ) → List ℕ
coefficients_table s S = fill coefficients_size (in_places 64 (rows_under s S))

-- The tables of points with their counts: a byte for each count, and '0 for unused places'.
unfoldable pub tables_of : Settings → Counted → Tables
tables_of s L = record {
  states = states_table (points_of L);
  standard = standard_table s (points_of L);
  leads = leads_table s (points_of L);
  coefficients = coefficients_table s (points_of L);
  counts = fill counts_size (counts_of L);
}

-- the lent tables with these in their sizes
unfoldable pub written : Tables → Tables → Tables
written new old = record {
  states = over new.states old.states;
  standard = over new.standard old.standard;
  leads = over new.leads old.leads;
  coefficients = over new.coefficients old.coefficients;
  counts = over new.counts old.counts;
}

-- a lent table is shorter than its size: by the tables' lengths, and of tables
unfoldable pub short_lengths : ℕ → ℕ → ℕ → ℕ → ℕ → Bool
short_lengths states standard leads coefficients counts =
    ltb states states_size || ltb standard standard_size || ltb leads leads_size || ltb coefficients coefficients_size || ltb counts counts_size

unfoldable pub too_short : Tables → Bool
too_short t = short_lengths (length t.states) (length t.standard) (length t.leads) (length t.coefficients) (length t.counts)

-- the first n points of a table of points; the first n points of lent tables with their counts
unfoldable pub points_in : Settings → ℕ → List ℕ → List (List ℕ)
points_in s n states = map (λ P. P.0) (points_under s (groups 8 n states))

unfoldable pub held_in : Settings → ℕ → Tables → Counted
held_in s n t = zip (points_in s n t.states) (fill n t.counts)

-- The lent n, r and tables are the basis of their points under these settings, with counts from 1 to 255: refusal 10 is given where they are not. A residue
-- above p-1, or a byte that is not 0 where it has to be, differs from the tables of the points.
unfoldable pub recognised : Settings → ℕ → ℕ → Tables → Bool
recognised s n r t = let L = held_in s n t in let new = tables_of s L in
    no_repeat (points_of L) && eqb r (row_count s (points_of L)) && begins new.states t.states && begins new.standard t.standard
    && begins new.leads t.leads && begins new.coefficients t.coefficients && every is_count (counts_of L) && begins new.counts t.counts
