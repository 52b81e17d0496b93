-- The tables when a point is added are those of the points with the new one.
use mathlib.Core.Path.{◌≡◌, refl, sym, ◌∙◌, ap, ap₂, subst}
use mathlib.Core.Bool.{Bool, true, cond}
use mathlib.Core.List.{List, [], ◌∷◌, ◌++◌, map, map-map, map-append}
use mathlib.Core.Logic.{inl, inr, ◌≢◌}
use Prim.Native.Nat.{ℕ, zero, suc, ◌+◌, ◌*◌, ◌-◌, ◌%◌, ◌<◌, ◌≤◌}
use native.Mathlib.Omega.{arith}
use lib.ListN.{length, get_or, take, replicate, length-map}
use lib.Seq.{take-suc, take_all, get_or-set_same, get_or-set_other}
use Rattle.residue.specs.Lists.{Among}
use Rattle.residue.specs.Inverse.{inverse_of}
use Rattle.residue.specs.Vector.{Below}
use Rattle.elimination.specs.Elimination.{eliminated}
use Rattle.residue.specs.Layout.{groups, fill, in_places, over, row_at}
use Rattle.residue.proofs.vector.Vectors.{map_at}
use Rattle.residue.proofs.Places.{table_groups, place_at, rows_filled, over_table}
use Rattle.residue.proofs.Tests.{Decides, so, not_so}
use Rattle.monomial.specs.Monomial.{times_variable, divides}
use Rattle.monomial.specs.Order.{Order, cmp}
use Rattle.monomial.specs.Increasing.{inserted}
use Rattle.monomial.specs.Insert.{removed_at, place_of, divided_by, taken_out, with_row_at}
use Rattle.monomial.proofs.Algebra.Division.{divides_refl}
use Rattle.monomial.proofs.Padding.{cmp_fill, divides_fill, fill_times_variable}
use Rattle.monomial.proofs.insert.Tables.{map_inserted, map_removed, inserted_long, removed_long, place_map, place_bound, table_in, table_out}
use Rattle.specification.specs.Space.{Space}
use Rattle.specification.specs.Polynomial.{Distinct}
use Rattle.specification.specs.Extension.{without, divided, extended}
use Rattle.specification.specs.BasisOf.{standard_of, leads_of, row_of, interpolant_of}
use Rattle.specification.specs.Instance.{Monomial, Point, space_of}
use Rattle.specification.proofs.ideal.Laws.{Laws}
use Rattle.specification.proofs.ideal.Lists.{get_d_among}
use Rattle.specification.proofs.ideal.Increasing.{divided_told}
use Rattle.specification.proofs.ideal.Leads.{Divided, extended_of, extended_length_le}
use Rattle.specification.proofs.ideal.Basis.{staircase, row_is}
use Rattle.growth.specs.Growing.{row_value_at, corrected_row, corrected_rows, Grown, grown, put_with_row, product_put, products_put, others_of, rows_left, others_corrected, standard_grown, grown_by, reduced_row}
use Rattle.growth.proofs.KeptRows.{grow_at, row_grown}
use Rattle.growth.proofs.Growth.{product_passed, product_put_lem, grown_by_lem}
use Rattle.growth.proofs.Insertion.{inserted_at_lem, without_at, divided_map}
use Rattle.growth.proofs.Corrections.{values_at, inverse_at, row_value_filled, corrected_is}
use Rattle.growth.proofs.LostRow.{leads_table, rows_table, lead_at, row_at_lem, standard_count, lost, lost_one, lost_first, lost_nonzero}
use Rattle.growth.proofs.NewRows.{reduced_is}

module _ (q m : ℕ) (o : Order) (few : m ≤ 8) (L : Laws (space_of q m o)) where
  abbrev D : Space
  D = space_of q m o

  abbrev pub bytes : Monomial m → List ℕ
  bytes a = fill 8 a.0

  -- a table of monomials
  abbrev pub table : ℕ → List (Monomial m) → List ℕ
  table N l = fill N (in_places 8 (map (λ (a : Monomial m). a.0) l))

  cmp_bytes : (a b : Monomial m) → cmp o (bytes a) (bytes b) ≡ D.cmp a b
  cmp_bytes a b = cmp_fill a.0 b.0 (a.1 ∙ sym b.1) (rw a.1 few) o

  divides_bytes : (a b : Monomial m) → divides (bytes a) (bytes b) ≡ D.divides a b
  divides_bytes a b = divides_fill a.0 b.0 (a.1 ∙ sym b.1) (rw a.1 few)

  pub read : (N : ℕ) (l : List (Monomial m)) → 8 * length l ≤ N → groups 8 (length l) (table N l) ≡ map bytes l
  read N l h =
      let n = length-map l (λ (a : Monomial m). a.0) in
      ap (λ (k : ℕ). groups 8 k (table N l)) (sym n) ∙ table_groups 8 N (map (λ (a : Monomial m). a.0) l) (omega arith) ∙ map-map (fill 8) (λ (a : Monomial m). a.0) l

  place_bytes : (N : ℕ) (a : Monomial m) (l : List (Monomial m)) → 8 * length l ≤ N → place_of (cmp o) (bytes a) (groups 8 (length l) (table N l)) ≡ place_of D.cmp a l
  place_bytes N a l h = ap (place_of (cmp o) (bytes a)) (read N l h) ∙ place_map D.cmp (cmp o) bytes a l (λ b mem. cmp_bytes a b)

  -- a new monomial put in
  put_bytes_lem : (N : ℕ) (a : Monomial m) (l : List (Monomial m)) → 8 * length l + 8 ≤ N → ((b : Monomial m) → Among b l → a ≢ b)
      → with_row_at 8 (length l) (place_of D.cmp a l) (bytes a) (table N l) ≡ table N (inserted D.cmp a l)
  put_bytes_lem N a l h out =
      let f : Monomial m → List ℕ = λ b. b.0 in
      let n = length-map l f in
      ap (λ (k : ℕ). with_row_at 8 k (place_of D.cmp a l) (bytes a) (table N l)) (sym n)
      ∙ table_in 8 N (map f l) (place_of D.cmp a l) a.0 (omega (arith, place_bound D.cmp a l)) (omega arith)
      ∙ ap (λ (z : List (List ℕ)). fill N (in_places 8 z)) (sym (map_inserted f (place_of D.cmp a l) a l) ∙ ap (map f) (sym (inserted_at_lem D L a l out)))

  -- and its row
  put_row_lem : (f : Monomial m → List ℕ) (N : ℕ) (a : Monomial m) (l : List (Monomial m)) → 64 * length l + 64 ≤ N → ((b : Monomial m) → Among b l → a ≢ b)
      → with_row_at 64 (length l) (place_of D.cmp a l) (fill 64 (f a)) (fill N (in_places 64 (map f l))) ≡ fill N (in_places 64 (map f (inserted D.cmp a l)))
  put_row_lem f N a l h out =
      let n = length-map l f in
      ap (λ (k : ℕ). with_row_at 64 k (place_of D.cmp a l) (fill 64 (f a)) (fill N (in_places 64 (map f l)))) (sym n)
      ∙ table_in 64 N (map f l) (place_of D.cmp a l) (f a) (omega (arith, place_bound D.cmp a l)) (omega arith)
      ∙ ap (λ (z : List (List ℕ)). fill N (in_places 64 z)) (sym (map_inserted f (place_of D.cmp a l) a l) ∙ ap (map f) (sym (inserted_at_lem D L a l out)))

  -- two products of one monomial differ
  products_differ : (a : Monomial m) (i k : ℕ) → i < k → k < m → D.x k a ≢ D.x i a
  products_differ a i k h l e =
      let n : k < length a.0 = rw a.1 l in
      let u : get_or a.0 k 0 + 1 ≡ get_or a.0 k 0 =
      sym (get_or-set_same a.0 k (get_or a.0 k 0 + 1) 0 n) ∙ ap (λ (b : Monomial m). get_or b.0 k 0) e ∙ get_or-set_other a.0 i k (get_or a.0 i 0 + 1) 0 (λ z. omega arith) in
      omega arith

  module _ (S : List (Point (suc q) m)) (d : Distinct D S) (room : length S < 64) (some : 1 ≤ m) (fits : length (leads_of D S) + m ≤ 450) (P : Point (suc q) m)
      (far : (Q : Point (suc q) m) → Among Q S → P ≢ Q) where
    pub short : length S ≤ 64
    short = omega arith

    pub most : length (leads_of D S) ≤ 449
    most = omega arith

    pub few_standard : length (standard_of D S) ≤ 64
    few_standard = omega (arith, standard_count q m o few L S d short most P)

    -- the lost row, its lead, and the other leads
    abbrev j : ℕ
    j = lost q m o few L S d short most P far

    inside : j < length (leads_of D S)
    inside = lost_one q m o few L S d short most P far

    abbrev α : Monomial m
    α = get_or (leads_of D S) j D.one

    abbrev others : List (Monomial m)
    others = without D α (leads_of D S)

    fresh : (b : Monomial m) → Among b (standard_of D S) → α ≢ b
    fresh b mem e = (staircase D L S d).outside α (get_d_among (leads_of D S) j D.one inside) (subst (λ (c : Monomial m). Among c (standard_of D S)) (sym e) mem)

    grows : (standard_of D (P ∷ S) ≡ inserted D.cmp α (standard_of D S)) × (leads_of D (P ∷ S) ≡ extended D (leads_of D S) α m)
    grows = grow_at D L S d P j inside (lost_first q m o few L S d short most P far) (lost_nonzero q m o few L S d short most P far)

    others_at : others ≡ removed_at j (leads_of D S)
    others_at = without_at D L (leads_of D S) j (staircase D L S d).leads_increasing inside

    others_count : suc (length others) ≡ length (leads_of D S)
    others_count = ap (λ (l : List (Monomial m)). suc (length l)) others_at ∙ removed_long j (leads_of D S) inside

    -- what the additions work with
    abbrev place : ℕ
    place = place_of D.cmp α (standard_of D S)

    abbrev inverse : ℕ
    inverse = inverse_at q m o few (standard_of D S) P few_standard α (row_of D S α) (row_is D L S d α).long

    abbrev gone : List ℕ
    gone = fill 64 (row_of D S α)

    abbrev point : List ℕ
    point = fill 8 P.0

    abbrev pub values : List ℕ
    values = values_at q m o few (standard_of D S) P few_standard

    abbrev rows_over : (Monomial m → List ℕ) → List (Monomial m) → List ℕ
    rows_over f l = fill 28736 (in_places 64 (map f l))

    row_new : (a : Monomial m) → corrected_row (suc q) place inverse gone point values (bytes a) (fill 64 (row_of D S a)) ≡ fill 64 (row_of D (P ∷ S) a)
    row_new a = corrected_is q m o few (standard_of D S) P few_standard α (row_of D S α) (row_is D L S d α).long L fresh a (row_of D S a) (row_is D L S d a).long
        ∙ ap (fill 64) (row_grown D L S d P j inside (lost_first q m o few L S d short most P far) (lost_nonzero q m o few L S d short most P far) a)

    abbrev leads_t : List ℕ
    leads_t = leads_table q m o few L S d short most P

    abbrev rows_t : List ℕ
    rows_t = rows_table q m o few L S d short most P

    taken : (f : Monomial m → List ℕ) (w N : ℕ) → w * length (leads_of D S) ≤ N
        → over (taken_out w (length (leads_of D S)) j (fill N (in_places w (map f (leads_of D S))))) (replicate N 0) ≡ fill N (in_places w (map f others))
    taken f w N h =
        let n = length-map (leads_of D S) f in
        ap (λ (k : ℕ). over (taken_out w k j (fill N (in_places w (map f (leads_of D S))))) (replicate N 0)) (sym n)
        ∙ table_out w N (map f (leads_of D S)) j N (rw n inside) (rw n h) (rw n (omega arith))
        ∙ ap (λ (z : List (List ℕ)). fill N (in_places w z)) (sym (map_removed f j (leads_of D S)) ∙ ap (map f) (sym others_at))

    others_are : others_of (length (leads_of D S)) j leads_t ≡ table 3592 others
    unfolding others_of
    others_are = taken (λ (a : Monomial m). a.0) 8 3592 (omega (arith, most))

    left_are : rows_left (length (leads_of D S)) j rows_t ≡ rows_over (row_of D S) others
    unfolding rows_left
    left_are = taken (row_of D S) 64 28736 (omega (arith, most))

    -- the rows that stay
    corrected_are : (t : ℕ) → t ≤ length others
        → corrected_rows (suc q) place inverse gone point values (table 3592 others) (rows_over (row_of D S) others) t ≡ map (λ (b : Monomial m). fill 64 (row_of D (P ∷ S) b)) (take t others)
    unfolding corrected_rows
    corrected_are zero h = refl
    corrected_are (suc t) h =
        let f : Monomial m → List ℕ = λ b. fill 64 (row_of D (P ∷ S) b) in
        let b : Monomial m = get_or others t D.one in
        let c = length-map others (λ (a : Monomial m). a.0) in
        let e = length-map others (row_of D S) in
        let lead : row_at 8 t (table 3592 others) ≡ bytes b =
        place_at 8 3592 (map (λ (a : Monomial m). a.0) others) t [] (omega (arith, others_count, most)) (omega arith) ∙ ap (fill 8) (map_at (λ (a : Monomial m). a.0) others D.one [] t h) in
        let row : row_at 64 t (rows_over (row_of D S) others) ≡ fill 64 (row_of D S b) =
        place_at 64 28736 (map (row_of D S) others) t [] (omega (arith, others_count, most)) (omega arith) ∙ ap (fill 64) (map_at (row_of D S) others D.one [] t h) in
        ap₂ (λ (l : List (List ℕ)) (r : List ℕ). l ++ (r ∷ [])) (corrected_are t (omega arith))
        (ap₂ (corrected_row (suc q) place inverse gone point values) lead row ∙ row_new b)
        ∙ sym (ap (map f) (take-suc others t D.one h) ∙ map-append f (take t others) (b ∷ []))

    kept_are : others_corrected (suc q) place inverse gone point values (length (leads_of D S)) j leads_t rows_t ≡ rows_over (row_of D (P ∷ S)) others
    unfolding others_corrected
    kept_are =
        let k : length (leads_of D S) - 1 ≡ length others = omega (arith, others_count) in
        let e = length-map others (row_of D S) in
        let g = length-map others (row_of D (P ∷ S)) in
        ap₂ (λ (u v : List ℕ). over (in_places 64 (corrected_rows (suc q) place inverse gone point values u v (length (leads_of D S) - 1))) v) others_are left_are
        ∙ ap (λ (z : List (List ℕ)). over (in_places 64 z) (rows_over (row_of D S) others))
        (ap (corrected_rows (suc q) place inverse gone point values (table 3592 others) (rows_over (row_of D S) others)) k ∙ corrected_are (length others) (omega arith)
        ∙ ap (map (λ (b : Monomial m). fill 64 (row_of D (P ∷ S) b))) (take_all (length others) others (omega arith)))
        ∙ ap (λ (z : List ℕ). over z (rows_over (row_of D S) others)) (rows_filled 64 (row_of D (P ∷ S)) others)
        ∙ over_table 64 28736 (map (row_of D (P ∷ S)) others) (map (row_of D S) others) (g ∙ sym e) (omega (arith, others_count, most))

    -- the products
    module _ (rows pivots : List ℕ)
        (solves : (vs : List ℕ) → length vs ≡ length S → Below (suc q) vs
        → eliminated (suc q) rows pivots (length S) (fill 128 vs) ≡ fill 128 (replicate (length S) 0 ++ map (λ c. (suc q - c) % suc q) (interpolant_of D S vs))) where
      abbrev points : List ℕ
      points = fill 512 (in_places 8 (map (λ (Q : Point (suc q) m). Q.0) S))

      abbrev leads_over : List (Monomial m) → Grown
      leads_over l = grown (length l) (table 3592 l) (rows_over (row_of D (P ∷ S)) l)

      put_one : (a : Monomial m) (l : List (Monomial m)) → length l ≤ 448 → ((b : Monomial m) → Among b l → a ≢ b)
          → put_with_row (suc q) o (length S) points rows pivots place inverse gone point values (bytes a) (leads_over l) ≡ leads_over (inserted D.cmp a l)
      unfolding put_with_row
      put_one a l h out =
          let i : place_of (cmp o) (bytes a) (groups 8 (length l) (table 3592 l)) ≡ place_of D.cmp a l = place_bytes 3592 a l (omega arith) in
          let row : corrected_row (suc q) place inverse gone point values (bytes a) (reduced_row (suc q) (length S) points rows pivots (bytes a)) ≡ fill 64 (row_of D (P ∷ S) a) =
          ap (corrected_row (suc q) place inverse gone point values (bytes a)) (reduced_is q m o few L S d short rows pivots solves a) ∙ row_new a in
          let count : length l + 1 ≡ length (inserted D.cmp a l) = omega (arith, ap length (inserted_at_lem D L a l out), inserted_long (place_of D.cmp a l) a l) in
          let leads : with_row_at 8 (length l) (place_of (cmp o) (bytes a) (groups 8 (length l) (table 3592 l))) (bytes a) (table 3592 l) ≡ table 3592 (inserted D.cmp a l) =
          ap (λ (k : ℕ). with_row_at 8 (length l) k (bytes a) (table 3592 l)) i ∙ put_bytes_lem 3592 a l (omega arith) out in
          let kept : with_row_at 64 (length l) (place_of (cmp o) (bytes a) (groups 8 (length l) (table 3592 l))) (corrected_row (suc q) place inverse gone point values (bytes a) (reduced_row (suc q) (length S) points rows pivots (bytes a))) (rows_over (row_of D (P ∷ S)) l)
          ≡ rows_over (row_of D (P ∷ S)) (inserted D.cmp a l) =
          ap₂ (λ (k : ℕ) (z : List ℕ). with_row_at 64 (length l) k z (rows_over (row_of D (P ∷ S)) l)) i row ∙ put_row_lem (row_of D (P ∷ S)) 28736 a l (omega arith) out in
          ap₂ (grown (length l + 1)) leads kept ∙ ap (λ (n : ℕ). grown n (table 3592 (inserted D.cmp a l)) (rows_over (row_of D (P ∷ S)) (inserted D.cmp a l))) count

      products_are : (v : ℕ) → v ≤ m → products_put (suc q) o (length S) points rows pivots place inverse gone point values (length others) (table 3592 others) (bytes α) v (leads_over others)
          ≡ leads_over (extended D (leads_of D S) α v)
      unfolding products_put extended
      products_are zero h = refl
      products_are (suc v) h =
          let E : List (Monomial m) = extended D (leads_of D S) α v in
          let a : Monomial m = D.x v α in
          let lead : times_variable v (bytes α) ≡ bytes a = sym (fill_times_variable α.0 (rw α.1 few) v (rw α.1 h)) in
          let seen : divided_by (groups 8 (length others) (table 3592 others)) (bytes a) ≡ divided D others a =
          ap (λ (z : List (List ℕ)). divided_by z (bytes a)) (read 3592 others (omega (arith, others_count, most))) ∙ divided_map D L bytes others a (λ b mem. divides_bytes b a) in
          ap₂ (product_put (suc q) o (length S) points rows pivots place inverse gone point values (length others) (table 3592 others)) lead (products_are v (omega arith))
          ∙ step v h seen (divided_told D L others a)
        where
          out : (v : ℕ) → v < m → ¬ Divided D (leads_of D S) α (D.x v α) → (b : Monomial m) → Among b (extended D (leads_of D S) α v) → D.x v α ≢ b
          out v h none b mem e = elim (extended_of D L (leads_of D S) α v b mem) [
            | inl z ↦ none (b, z, subst (λ (c : Monomial m). D.divides b c ≡ true) (sym e) (divides_refl b.0))
            | inr t ↦ products_differ α t.0 v t.1 h (e ∙ t.2)
          ]

          -- divided or not
          step : (v : ℕ) → v < m → {t : Bool} → divided_by (groups 8 (length others) (table 3592 others)) (bytes (D.x v α)) ≡ t → Decides (Divided D (leads_of D S) α (D.x v α)) t
              → product_put (suc q) o (length S) points rows pivots place inverse gone point values (length others) (table 3592 others) (bytes (D.x v α)) (leads_over (extended D (leads_of D S) α v))
              ≡ leads_over (cond t (extended D (leads_of D S) α v) (inserted D.cmp (D.x v α) (extended D (leads_of D S) α v)))
          step v h seen (so u) = sym (product_passed (suc q) o (length S) points rows pivots place inverse gone point values (length others) (table 3592 others) (bytes (D.x v α)) (leads_over (extended D (leads_of D S) α v)) seen)
          step v h seen (not_so u) =
              product_put_lem (suc q) o (length S) points rows pivots place inverse gone point values (length others) (table 3592 others) (bytes (D.x v α)) (leads_over (extended D (leads_of D S) α v)) seen
              ∙ put_one (D.x v α) (extended D (leads_of D S) α v) (omega (arith, extended_length_le D L (leads_of D S) α v, others_count)) (out v h u)

      -- all three tables
      pub grown_are : grown_by (suc q) m o (length S) (length (leads_of D S)) points (table 512 (standard_of D S)) leads_t rows_t rows pivots point values j ≡ leads_over (leads_of D (P ∷ S))
      grown_are =
          let n : length (standard_of D S) ≡ length S = standard_count q m o few L S d short most P in
          let k : length (leads_of D S) - 1 ≡ length others = omega (arith, others_count) in
          let lead : bytes α ≡ row_at 8 j leads_t = sym (lead_at q m o few L S d short most P j inside) in
          let at : place ≡ place_of (cmp o) (bytes α) (groups 8 (length S) (table 512 (standard_of D S))) =
          sym (ap (λ (i : ℕ). place_of (cmp o) (bytes α) (groups 8 i (table 512 (standard_of D S)))) (sym n) ∙ place_bytes 512 α (standard_of D S) (omega arith)) in
          let i : inverse ≡ inverse_of (suc q) (row_value_at (suc q) point values (bytes α) gone) =
          sym (ap (inverse_of (suc q)) (row_value_filled q m o few (standard_of D S) P few_standard α (row_of D S α) (row_is D L S d α).long)) in
          sym (grown_by_lem (suc q) m o (length S) (length (leads_of D S)) points (table 512 (standard_of D S)) leads_t rows_t rows pivots point values j (bytes α) gone place inverse (table 3592 others)
          (rows_over (row_of D (P ∷ S)) others) lead (sym (row_at_lem q m o few L S d short most P j inside)) at i (sym others_are) (sym kept_are) refl)
          ∙ ap (λ (t : ℕ). products_put (suc q) o (length S) points rows pivots place inverse gone point values t (table 3592 others) (bytes α) m (grown t (table 3592 others) (rows_over (row_of D (P ∷ S)) others))) k
          ∙ products_are m (omega arith) ∙ ap leads_over (sym grows.1)

    pub standard_are : standard_grown o (length S) (table 512 (standard_of D S)) (row_at 8 j leads_t) ≡ table 512 (standard_of D (P ∷ S))
    unfolding standard_grown
    standard_are =
        let n : length (standard_of D S) ≡ length S = standard_count q m o few L S d short most P in
        ap (λ (z : List ℕ). with_row_at 8 (length S) (place_of (cmp o) z (groups 8 (length S) (table 512 (standard_of D S)))) z (table 512 (standard_of D S))) (lead_at q m o few L S d short most P j inside)
        ∙ ap (λ (k : ℕ). with_row_at 8 k (place_of (cmp o) (bytes α) (groups 8 k (table 512 (standard_of D S)))) (bytes α) (table 512 (standard_of D S))) (sym n)
        ∙ ap (λ (k : ℕ). with_row_at 8 (length (standard_of D S)) k (bytes α) (table 512 (standard_of D S))) (place_bytes 512 α (standard_of D S) (omega arith))
        ∙ put_bytes_lem 512 α (standard_of D S) (omega arith) fresh ∙ ap (table 512) (sym grows.0)
