-- The row that a new point takes away: the first whose value there is not 0, found in the tables.
use mathlib.Core.Path.{◌≡◌, refl, sym, ◌∙◌, ap, ap₂}
use mathlib.Core.List.{List, [], map}
use mathlib.Core.Logic.{◌≢◌}
use Prim.Native.Nat.{ℕ, suc, ◌%◌, ◌<◌, ◌≤◌}
use native.Mathlib.Nat.{zero-mod}
use native.Mathlib.Decide.{dec_lt}
use native.Mathlib.Omega.{arith}
use lib.ListN.{length, get_or, take, length-map}
use Rattle.residue.specs.Congruence.{Mod}
use Rattle.residue.specs.Lists.{Among}
use Rattle.residue.specs.Layout.{fill, in_places, row_at}
use Rattle.residue.proofs.vector.Vectors.{map_at}
use Rattle.residue.proofs.Layouts.{take_fill}
use Rattle.residue.proofs.Places.{place_at}
use Rattle.monomial.specs.Monomial.{monomial_at}
use Rattle.monomial.specs.Order.{Order}
use Rattle.specification.specs.Space.{Space}
use Rattle.specification.specs.Polynomial.{Distinct}
use Rattle.specification.specs.BasisOf.{standard_of, leads_of, row_of, rows_of}
use Rattle.specification.specs.Instance.{Monomial, Point, space_of}
use Rattle.specification.proofs.ideal.Laws.{Laws}
use Rattle.specification.proofs.ideal.Counts.{standard_length}
use Rattle.specification.proofs.ideal.Basis.{rows_at, row_is}
use Rattle.growth.specs.Growing.{row_value_at, value_of_row, first_from}
use Rattle.growth.proofs.KeptRows.{row_value, value_of, zero_set}
use Rattle.growth.proofs.Searches.{first_found}
use Rattle.growth.proofs.Corrections.{values_at, row_value_is}

module _ (q m : ℕ) (order : Order) (few : m ≤ 8) (L : Laws (space_of q m order)) (S : List (Point (suc q) m)) (d : Distinct (space_of q m order) S) (short : length S ≤ 64)
    (fits : length (leads_of (space_of q m order) S) ≤ 449) (P : Point (suc q) m) where
  abbrev D : Space
  D = space_of q m order

  abbrev exponents : List (List ℕ)
  exponents = map (λ (a : Monomial m). a.0) (leads_of D S)

  -- the tables
  abbrev pub leads_table : List ℕ
  leads_table = fill 3592 (in_places 8 exponents)

  abbrev pub rows_table : List ℕ
  rows_table = fill 28736 (in_places 64 (rows_of D S))

  pub lead_at : (i : ℕ) → i < length (leads_of D S) → row_at 8 i leads_table ≡ fill 8 (get_or (leads_of D S) i D.one).0
  lead_at i h =
      let e = length-map (leads_of D S) (λ (a : Monomial m). a.0) in
      place_at 8 3592 exponents i [] (omega arith) (omega arith) ∙ ap (fill 8) (map_at (λ (a : Monomial m). a.0) (leads_of D S) D.one [] i h)

  pub row_at_lem : (i : ℕ) → i < length (leads_of D S) → row_at 64 i rows_table ≡ fill 64 (row_of D S (get_or (leads_of D S) i D.one))
  row_at_lem i h =
      let e = length-map (leads_of D S) (row_of D S) in
      place_at 64 28736 (rows_of D S) i [] (omega arith) (omega arith) ∙ ap (fill 64) (rows_at D S i h)

  pub standard_count : length (standard_of D S) ≡ length S
  standard_count = standard_length D L S d

  -- the value of a row of the tables
  abbrev pub tested : ℕ → ℕ
  tested = value_of_row (suc q) (length S) (fill 8 P.0) (values_at q m order few (standard_of D S) P (omega (arith, standard_count))) leads_table rows_table

  value_at_row : (i : ℕ) → i < length (leads_of D S) → tested i ≡ value_of D S P i % suc q
  unfolding value_of_row
  value_at_row i h =
      let a : Monomial m = get_or (leads_of D S) i D.one in
      let vs : List ℕ = map (λ (b : Monomial m). monomial_at P.0 b.0 % suc q) (standard_of D S) in
      let front : take (length S) (fill 64 vs) ≡ vs = take_fill (length S) 64 vs (length-map (standard_of D S) _ ∙ standard_count) short in
      let row : take (length S) (row_at 64 i rows_table) ≡ row_of D S a = ap (take (length S)) (row_at_lem i h) ∙ take_fill (length S) 64 (row_of D S a) ((row_is D L S d a).long ∙ standard_count) short in
      ap₂ (λ (u v : List ℕ). row_value_at (suc q) (fill 8 P.0) u v (take (length S) (row_at 64 i rows_table))) front (lead_at i h)
      ∙ ap (row_value_at (suc q) (fill 8 P.0) vs (fill 8 a.0)) row ∙ row_value_is q m order few (standard_of D S) P (omega (arith, standard_count)) a (row_of D S a)
      ∙ ap (λ (z : List ℕ). row_value D (standard_of D S) a z P % suc q) (sym (rows_at D S i h))

  -- the search finds a row, if the point is new
  module _ (far : (Q : Point (suc q) m) → Among Q S → P ≢ Q) where
    abbrev pub lost : ℕ
    lost = first_from tested 0 (length (leads_of D S))

    zero_before : (i : ℕ) → i < lost → i < length (leads_of D S) → Mod (suc q) (value_of D S P i) 0
    zero_before i h l = record { same = sym (value_at_row i l) ∙ (first_found tested 0 (length (leads_of D S))).2 i (omega arith) h ∙ sym (zero-mod (suc q)) }

    pub lost_one : lost < length (leads_of D S)
    lost_one = go (dec_lt lost (length (leads_of D S)))
      where
        go : Dec (lost < length (leads_of D S)) → lost < length (leads_of D S)
        go (yes h) = h
        go (no h) = absurd (far P (zero_set D L S d P (λ i l. zero_before i (omega arith) l)) refl)

    pub lost_first : (i : ℕ) → i < lost → Mod (suc q) (value_of D S P i) 0
    lost_first i h = zero_before i h (omega (arith, lost_one))

    pub lost_nonzero : ¬ Mod (suc q) (value_of D S P lost) 0
    lost_nonzero z = (first_found tested 0 (length (leads_of D S))).3 (omega (arith, lost_one)) (value_at_row lost lost_one ∙ z.same ∙ zero-mod (suc q))
