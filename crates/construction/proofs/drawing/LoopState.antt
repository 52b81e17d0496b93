-- What the loop of drawing up holds, over the lists of the code: at its head, where a monomial is in hand, and where it is kept.
use mathlib.Core.Path.{◌≡◌}
use mathlib.Core.List.{List, map}
use Prim.Native.Nat.{ℕ, suc, ◌+◌, ◌-◌, ◌<◌, ◌≤◌}
use lib.ListN.{length, get_or}
use Rattle.residue.specs.Vector.{Below}
use Rattle.elimination.specs.Elimination.{Multiplied, ZeroBehind}
use Rattle.monomial.specs.Rank.{rank_bound}
use Rattle.specification.specs.declared.settings.Settings.{Settings}
use Rattle.specification.specs.Instance.{Monomial, Point}
use Rattle.specification.specs.Tables.{order_under, space_under, points_under, points_in}
use Rattle.specification.specs.Cancellations.{value_column}
use Rattle.specification.proofs.cancellations.Progress.{Ready, Passed}
use Rattle.construction.specs.Drawing.{PivotBytes, pivot_bytes, with_columns}
use Rattle.construction.proofs.drawing.TablesHold.{TablesHold, InHand, Decided}

-- What the code's calls ask of the tables.
pub record DrawingSized (p n found : ℕ) (standard leads coefficients rows pivots values ranks : List ℕ) : Type 0 where
  pub found_room : found ≤ n
  pub standard_long : length standard ≡ 512
  pub leads_long : length leads ≡ 3592
  pub coefficients_long : length coefficients ≡ 28736
  pub rows_long : length rows ≡ 73728
  pub pivots_long : length pivots ≡ 64
  pub values_long : length values ≡ 4096
  pub ranks_long : length ranks ≡ 64
  pub rows_multiplied : Multiplied p found rows
  pub values_below : Below p values
  pub ranks_below : Below rank_bound ranks
  pub pivots_inside : (t : ℕ) → t < found → get_or pivots t 0 < n
  pub rows_zero : ZeroBehind n found rows

-- the points under the settings
abbrev pub points_drawn : (s : Settings) → ℕ → List ℕ → List (Point (suc (s.modulus - 1)) s.variables)
points_drawn s n points = points_under s (points_in s n points)

-- rows₀ and pivots₀ are the lent bytes of the pivot rows at entry
module _ (s : Settings) (n : ℕ) (points rows₀ pivots₀ : List ℕ) where
  -- the pivot rows of standard monomials, over them
  abbrev pub rows_kept : List (Monomial s.variables) → PivotBytes
  rows_kept std = with_columns s.modulus n 0 (map (value_column (space_under s) (points_drawn s n points)) std) (pivot_bytes rows₀ pivots₀)

  -- A monomial is in hand.
  pub record Head (found r total : ℕ) (standard leads coefficients rows pivots values ranks steps at exponents : List ℕ) (rank : ℕ) (own : List ℕ) : Type 0 where
    pub std : List (Monomial s.variables)
    pub lds : List (Monomial s.variables)
    pub css : List (List ℕ)
    pub hand : Monomial s.variables
    pub found_is : found ≡ length std
    pub r_is : r ≡ length lds
    pub held : TablesHold (s.modulus - 1) s.variables n (order_under s) (points_drawn s n points) std lds css standard leads coefficients rows pivots values ranks steps
    pub in_hand : InHand (s.modulus - 1) s.variables n (order_under s) (points_drawn s n points) std lds hand at exponents rank own
    pub ready : Ready (space_under s) (points_drawn s n points) n std lds total rows pivots hand
    pub few : found + r ≤ 513
    pub rows_kept_lem : pivot_bytes rows pivots ≡ rows_kept std

  -- It is kept.
  pub record Kept (found r total : ℕ) (standard leads coefficients rows pivots values ranks steps at : List ℕ) : Type 0 where
    pub std : List (Monomial s.variables)
    pub lds : List (Monomial s.variables)
    pub css : List (List ℕ)
    pub found_is : found ≡ length std
    pub r_is : r ≡ length lds
    pub held : TablesHold (s.modulus - 1) s.variables n (order_under s) (points_drawn s n points) std lds css standard leads coefficients rows pivots values ranks steps
    pub decided : Decided (s.modulus - 1) s.variables n (order_under s) (points_drawn s n points) std lds at
    pub last : Monomial s.variables
    pub passed : Passed (space_under s) (points_drawn s n points) n std lds total rows pivots last
    pub rows_kept_lem : pivot_bytes rows pivots ≡ rows_kept std

-- the same lists, by their equations
pub kept_as : {s : Settings} {n : ℕ} {points rows₀ pivots₀ : List ℕ} {found found' r r' total : ℕ} {standard standard' leads leads' coefficients coefficients' rows rows' pivots pivots' values values' ranks ranks' steps at : List ℕ}
    → found ≡ found' → r ≡ r' → standard ≡ standard' → leads ≡ leads' → coefficients ≡ coefficients' → rows ≡ rows' → pivots ≡ pivots' → values ≡ values' → ranks ≡ ranks'
    → Kept s n points rows₀ pivots₀ found' r' total standard' leads' coefficients' rows' pivots' values' ranks' steps at → Kept s n points rows₀ pivots₀ found r total standard leads coefficients rows pivots values ranks steps at
kept_as a b c d e f g h i k = rw (a, b, c, d, e, f, g, h, i) k
