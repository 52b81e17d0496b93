-- Points and values printed: the tables, the interpolant and the wiring list that the calls leave give the lines of the definitions.
use mathlib.Core.Path.{◌≡◌, refl, sym, ◌∙◌, ap, ap₂, subst}
use mathlib.Core.List.{List}
use Prim.Native.Nat.{ℕ, ◌<◌, ◌≤◌}
use native.Mathlib.Omega.{arith}
use lib.ListN.{length, get_or, take}
use lib.Seq.{take_all}
use Rattle.elimination.specs.Elimination.{Multiplied}
use Rattle.residue.specs.Vector.{Below}
use Rattle.residue.specs.Layout.{groups, fill}
use Rattle.residue.proofs.Layouts.{take_fill}
use Rattle.specification.specs.declared.settings.Settings.{Settings}
use Rattle.specification.specs.BasisOf.{interpolant_of}
use Rattle.specification.specs.Tables.{space_under, points_under, points_in, row_count}
use Rattle.specification.specs.Points.{Points}
use Rattle.specification.specs.Settings.{Accepted}
use Rattle.specification.proofs.agreement.Drawings.{few_rows}
use Rattle.specification.specs.Needed.{wiring_of}
use Rattle.specification.proofs.needed.Filled.{names_tabled}
use Rattle.specification.proofs.Recognised.{read}
use Rattle.interpolation.specs.Solving.{solution}
use Rattle.construction.specs.Drawing.{PointsGiven, DrawnUp}
use Rattle.construction.proofs.drawing.Given.{given_count}
use Rattle.interpolation.proofs.Interpolants.{length_interpolant, solution_is}
use Rattle.writing.specs.Appending.{Room, Put}
use Rattle.writing.specs.Rows.{in_table}
use Rattle.printing.specs.Lines.{basis_lines}
use Rattle.printing.specs.Text.{lines_of}
use Rattle.printing.proofs.text.DrawnTables.{standard_back, leads_back, rows_back, names_few, lines_length}

module _ (s : Settings) (n : ℕ) (points values : List ℕ) (g : PointsGiven s n points) (lv : length values ≡ n) (bv : Below s.modulus values) where
  abbrev pub S : List (List ℕ)
  S = points_in s n points

  ok : Accepted s
  ok = g.settings

  pub given : Points s S
  given = read s ok n points g.most g.once

  pub count_points : length S ≡ n
  count_points = given_count g

  abbrev cs : List ℕ
  cs = interpolant_of (space_under s) (points_under s S) values

  module _ (r : ℕ) (standard leads coefficients rows pivots : List ℕ) (u : DrawnUp s S r standard leads coefficients rows pivots) where
    pub few : r ≤ 449
    few = omega (arith, u.tabled.row_count, few_rows s ok S given)

    pub inside : (t : ℕ) → t < n → get_or pivots t 0 < n
    inside t k = omega (arith, u.pivot_rows.inside t (omega (arith, count_points)), count_points)

    pub multiplied : Multiplied s.modulus n rows
    multiplied = subst (λ (k : ℕ). Multiplied s.modulus k rows) count_points u.pivot_rows.multiples

    module _ (interpolant : List ℕ) (i : interpolant ≡ fill 64 (solution s.modulus n rows pivots (fill 128 values))) where
      filled : interpolant ≡ fill 64 cs
      filled =
          i ∙ ap (λ (j : ℕ). fill 64 (solution s.modulus j rows pivots (fill 128 values))) (sym count_points)
          ∙ ap (fill 64) (solution_is s ok S given rows pivots u.pivot_rows values (lv ∙ sym count_points) bv)

      solved : take n interpolant ≡ cs
      solved = ap (take n) filled ∙ take_fill n 64 cs (length_interpolant s ok S given values ∙ count_points) g.most

      module _ (count : ℕ) (names : List ℕ) (c : count ≡ length (wiring_of s.variables (groups 8 n points) (take n values)))
          (f : names ≡ fill 8 (wiring_of s.variables (groups 8 n points) (take n values))) where
        same_names : wiring_of s.variables (groups 8 n points) (take n values) ≡ wiring_of s.variables S values
        same_names =
            ap₂ (λ (t l : List ℕ). wiring_of s.variables (groups 8 n t) l) g.table (take_all n values (omega (arith, lv)))
            ∙ names_tabled s ok S given n count_points values

        listed : take count names ≡ wiring_of s.variables S values
        listed =
            ap₂ (λ (k : ℕ) (l : List ℕ). take k l) (c ∙ ap length same_names) (f ∙ ap (fill 8) same_names)
            ∙ take_fill (length (wiring_of s.variables S values)) 8 (wiring_of s.variables S values) refl (names_few s ok S given values)

        abbrev pub lines : List ℕ
        lines = basis_lines (in_table 8 n s.variables standard) (in_table 8 r s.variables leads) (in_table 64 r n coefficients) (take n interpolant) (take count names)

        text : lines ≡ lines_of s S values
        unfolding lines_of
        text =
            let x = ap₂ (λ (j : ℕ) (t : List ℕ). in_table 8 j s.variables t) (sym count_points) u.tabled.standard_table_lem ∙ standard_back s ok S given in
            let y = ap₂ (λ (j : ℕ) (t : List ℕ). in_table 8 j s.variables t) u.tabled.row_count u.tabled.leads_table_lem ∙ leads_back s ok S given in
            let z =
            ap₂ (λ (j k : ℕ). in_table 64 j k coefficients) u.tabled.row_count (sym count_points) ∙ ap (in_table 64 (row_count s S) (length S)) u.tabled.coefficients_table_lem ∙ rows_back s ok S given in
            let v = solved in
            let w = listed in
            cc

        pub told_room : (o : List ℕ) → 102048 ≤ length o → Room 0 lines o
        told_room o h =
            let e = ap length text in
            omega (arith, lines_length s ok S given values)

        pub told : {o after : List ℕ} {end : ℕ} → Put 0 lines o after end → Put 0 (lines_of s S values) o after end
        told p = rw text at p
