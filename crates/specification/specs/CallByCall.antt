-- What each call leaves whose number is 0, whatever it was handed: docs/SCOPE.md, 'The sheet'. proofs/CallByCall has the proofs.
use Rattle.std.specs.Prelude.{◌≡◌, List, map, ℕ, suc, ◌+◌, ◌*◌, ◌-◌, ◌≤◌, ◌<◌, ℤ, pos, length, get_or, set, T}
use Rattle.residue.specs.Sizes.{most_rows, counts_size}
use Rattle.residue.specs.Lists.{every}
use Rattle.residue.specs.Congruence.{Mod}
use Rattle.specification.specs.declared.settings.Settings.{Settings}
use Rattle.specification.specs.Levels.{residues}
use Rattle.specification.specs.Counted.{Counted, points_of, counts_of, is_count}
use Rattle.residue.specs.Layout.{fill, in_places, over}
use Rattle.specification.specs.Polynomial.{eval, Distinct, terms}
use Rattle.specification.specs.Basis.{IsBasis, Fits}
use Rattle.specification.specs.Ideal.{row_polynomials, ReducedGroebner}
use Rattle.specification.specs.BasisOf.{value_at}
use Rattle.specification.specs.Cancellations.{Found}
use Rattle.specification.specs.Examination.{Examination}
use Rattle.specification.specs.Instance.{Point}
use Rattle.specification.specs.Adding.{Outcome, DrawOutcome}
use Rattle.specification.specs.Tables.{Tables, five_tables, space_under, points_under, standard_under, leads_under, rows_under, row_count, tables_of, written}

-- n, r and the tables at exit are the basis of the points of L by definition with their counts, laid out in the sizes of the lent tables.
pub record HoldsBasis (s : Settings) (L : Counted) (lent : Tables) (n r : ℕ) (end : Tables) : Type 0 where
  -- each point is m residues, and none stands twice
  pub points : map (λ P. P.0) (points_under s (points_of L)) ≡ points_of L
  pub distinct : Distinct (space_under s) (points_under s (points_of L))
  pub basis : IsBasis (space_under s) (points_under s (points_of L)) (standard_under s (points_of L)) (leads_under s (points_of L)) (rows_under s (points_of L))
  pub groebner : ReducedGroebner (space_under s) (points_under s (points_of L))
      (row_polynomials (space_under s) (standard_under s (points_of L)) (leads_under s (points_of L)) (rows_under s (points_of L)))
  -- '1 to 255 for each state'
  pub counts : T (every is_count (counts_of L))
  -- its layout; nothing of it is cut off, and bytes past the sizes are as they were
  pub count : n ≡ length L
  pub rows : r ≡ row_count s (points_of L)
  pub tables : end ≡ written (tables_of s L) lent
  pub few_points : length L ≤ 64
  pub few_rows : row_count s (points_of L) ≤ most_rows
  -- 'The number r of rows is 1 + n(m-1) at most'
  pub most_rows_lem : r ≤ 1 + n * (s.variables - 1)

-- The buffer holds 'the interpolant of n values (as levels, in state order)' over the standard monomials: it has the i-th value at the i-th point.
pub record Interpolates (s : Settings) (S : List (List ℕ)) (values : List ℤ) (buffer end : List ℕ) : Type 0 where
  pub coefficients : List ℕ
  pub held : end ≡ over (fill 64 coefficients) buffer
  pub fits : Fits (space_under s) (points_under s S) (standard_under s S)
      (value_at (space_under s) (points_under s S) (residues s.modulus values)) coefficients
  pub values_at : (i : ℕ) (P : Point (suc (s.modulus - 1)) s.variables) → i < length S
      → Mod (suc (s.modulus - 1)) (eval (space_under s) (terms (space_under s) coefficients (standard_under s S)) (get_or (points_under s S) i P))
      (get_or (residues s.modulus values) i 0)

-- The number that drawing up the points S, in their order, answers as its cancellations: the count of THE examination (docs/SCOPE.md, 'Cancellations'; request
-- M-105), whose standard monomials and leads are those of the basis; at most n times (n times m, plus 1).
pub record Costs (s : Settings) (S : List (List ℕ)) (cancellations : ℕ) : Type 0 where
  pub found : Found (space_under s)
  pub examination : Examination (space_under s) (points_under s S) found
  pub only : (g : Found (space_under s)) → Examination (space_under s) (points_under s S) g → g ≡ found
  pub count : cancellations ≡ found.cancellations
  pub standard : found.standard ≡ standard_under s S
  pub leads : found.leads ≡ leads_under s S
  pub most : cancellations ≤ length S * (length S * s.variables + 1)

-- Points as levels that offer them: their residues, one point after the other, as misqafur_pack_levels (include/misqafur.h) has them.
unfoldable pub as_levels : Settings → List (List ℕ) → List ℤ
as_levels s K = map pos (in_places s.variables K)

-- Counts written over those of a drawing up, and nothing else.
unfoldable pub counting : List ℕ → DrawOutcome → DrawOutcome
counting c o = let t = o.tables in
    record { answer = o.answer; tables = five_tables t.states t.standard t.leads t.coefficients (over (fill counts_size c) t.counts) }

-- A replicate, request M-106: the sheet of n and r in the tables t, of whose counts the i-th is now k, and nothing else has changed.
unfoldable pub recounted : ℕ → ℕ → Tables → ℕ → ℕ → Outcome
recounted n r t i k = record {
  answer = record { refusal = 0; n = n; r = r };
  tables = five_tables t.states t.standard t.leads t.coefficients (set t.counts i k);
}
