-- The points of a call, in a table, as drawing up is handed them; and what it leaves.
use mathlib.Core.Path.{◌≡◌, refl, sym, ◌∙◌, ap, subst}
use mathlib.Core.List.{List}
use Prim.Native.Nat.{ℕ, ◌+◌, ◌*◌, ◌≤◌}
use native.Mathlib.Nat.{mul-le-mul_left}
use native.Mathlib.Omega.{arith}
use lib.ListN.{length}
use lib.Dec.{T}
use Rattle.residue.specs.Lists.{Among}
use Rattle.residue.specs.Layout.{groups, fill, in_places, over, length_fill}
use Rattle.residue.proofs.Layouts.{over_all}
use Rattle.residue.proofs.Places.{table_groups}
use Rattle.specification.specs.declared.settings.Settings.{Settings}
use Rattle.specification.specs.Levels.{no_repeat}
use Rattle.specification.specs.Tables.{row_count, states_table, standard_table, leads_table, coefficients_table, points_in}
use Rattle.specification.specs.Adding.{cancellations_under}
use Rattle.specification.proofs.Repeats.{repeat_filled}
use Rattle.specification.specs.Points.{Points, IsPoint}
use Rattle.specification.proofs.agreement.Points.{points_back}
use Rattle.specification.specs.Settings.{Accepted}
use Rattle.specification.proofs.agreement.Drawings.{few_rows}
use Rattle.specification.proofs.cancellations.Under.{few_cancellations}
use Rattle.specification.proofs.Recognised.{length_read, read}
use Rattle.construction.specs.Drawing.{PointsGiven, Tabled, DrawnUp}

-- how many points there are
pub given_count : {s : Settings} {n : ℕ} {points : List ℕ} → PointsGiven s n points → length (points_in s n points) ≡ n
given_count {s} {n} {points} g = length_read s g.settings n points

-- its points, that they have few rows, and that drawing them up takes few cancellations
module _ {s : Settings} {n : ℕ} {points : List ℕ} (g : PointsGiven s n points) where
  pub given_points : Points s (points_in s n points)
  given_points = read s g.settings n points g.most g.once

  pub few_drawn : row_count s (points_in s n points) ≤ 449
  few_drawn = few_rows s g.settings (points_in s n points) given_points

  pub few_cost : cancellations_under s (points_in s n points) ≤ 32832
  few_cost = bound (length (points_in s n points)) s.variables given_points.few g.settings.few (few_cancellations s g.settings (points_in s n points) given_points)
    where
      bound : {k : ℕ} (n m : ℕ) → n ≤ 64 → m ≤ 8 → k ≤ n * (n * m + 1) → k ≤ 32832
      bound n m a b h =
          let x : n * m ≤ n * 8 = mul-le-mul_left n b in
          let y : n * m + 1 ≤ 513 = omega arith in
          let z : n * (n * m + 1) ≤ n * 513 = mul-le-mul_left n y in
          omega arith

module _ (s : Settings) (ok : Accepted s) where
  -- A table of points.
  module _ (L : List (List ℕ)) (h : (P : List ℕ) → Among P L → IsPoint s P) (few : length L ≤ 64) where
    pub table_repeat : no_repeat (groups 8 (length L) (fill 512 (in_places 8 L))) ≡ no_repeat L
    table_repeat = ap no_repeat (table_groups 8 512 L (omega arith)) ∙ repeat_filled 8 s.variables ok.few L (λ P w. (h P w).long)

  module _ (L : List (List ℕ)) (h : Points s L) where
    pub table_points : points_in s (length L) (fill 512 (in_places 8 L)) ≡ L
    unfolding states_table
    table_points =
        let t : List ℕ = fill 512 (in_places 8 L) in
        ap (points_in s (length L)) (sym (over_all t t refl)) ∙ points_back s ok.few L h t

    pub given : PointsGiven s (length L) (fill 512 (in_places 8 L))
    given = record {
      settings = ok;
      most = h.few;
      table = ap (λ (S : List (List ℕ)). fill 512 (in_places 8 S)) (sym table_points);
      once = subst (λ (S : List (List ℕ)). T (no_repeat S)) (sym table_points) h.once;
    }

-- the sizes of the tables
pub tabled_long : {s : Settings} {S : List (List ℕ)} {r : ℕ} {standard leads coefficients : List ℕ} → Tabled s S r standard leads coefficients
    → (length standard ≡ 512) × ((length leads ≡ 3592) × (length coefficients ≡ 28736))
unfolding standard_table leads_table coefficients_table
tabled_long h = (ap length h.standard_table_lem ∙ length_fill 512 _, (ap length h.leads_table_lem ∙ length_fill 3592 _, ap length h.coefficients_table_lem ∙ length_fill 28736 _))

-- written over tables of the same sizes
pub tabled_over : {s : Settings} {S K : List (List ℕ)} {r k : ℕ} {a b c x y z x' y' z' : List ℕ} → Tabled s K r a b c → Tabled s S k x y z → x' ≡ over x a → y' ≡ over y b → z' ≡ over z c
    → Tabled s S k x' y' z'
tabled_over {a} {b} {c} {x} {y} {z} old h e f g =
    let l = tabled_long old in
    let m = tabled_long h in
    record {
      row_count = h.row_count;
      standard_table_lem = e ∙ over_all x a (m.0 ∙ sym l.0) ∙ h.standard_table_lem;
      leads_table_lem = f ∙ over_all y b (m.1.0 ∙ sym l.1.0) ∙ h.leads_table_lem;
      coefficients_table_lem = g ∙ over_all z c (m.1.1 ∙ sym l.1.1) ∙ h.coefficients_table_lem;
    }

pub drawn_long : (s : Settings) (S : List (List ℕ)) (r : ℕ) (standard leads coefficients rows pivots : List ℕ) → DrawnUp s S r standard leads coefficients rows pivots
    → (length standard ≡ 512) × ((length leads ≡ 3592) × (length coefficients ≡ 28736))
drawn_long s S r standard leads coefficients rows pivots h = tabled_long h.tabled

-- of the same points
pub drawn_of : {s : Settings} {S K : List (List ℕ)} {r : ℕ} {standard leads coefficients rows pivots : List ℕ} → S ≡ K → DrawnUp s S r standard leads coefficients rows pivots
    → DrawnUp s K r standard leads coefficients rows pivots
drawn_of {s} {S} {K} {r} {standard} {leads} {coefficients} {rows} {pivots} e h = subst (λ (Z : List (List ℕ)). DrawnUp s Z r standard leads coefficients rows pivots) e h
