-- A turn of drawing up decides what the monomial in hand is, by the working row that elimination leaves of its values, and keeps it.
use mathlib.Core.Path.{◌≡◌, refl, sym, ap, ◌∙◌}
use mathlib.Core.List.{List, [], ◌∷◌, ◌++◌, map, map-append}
use Prim.Native.Nat.{ℕ, suc, ◌+◌, ◌*◌, ◌<◌, ◌≤◌}
use native.Mathlib.Nat.{mod-eq_of_lt, mul-le-mul_left}
use native.Mathlib.Decide.{ℕ_discrete}
use native.Mathlib.Omega.{arith}
use lib.ListN.{length, get_or, set, take, drop, length-set, length-map, length-append}
use lib.Seq.{get_or-take, length-take-le}
use Rattle.residue.specs.Congruence.{Mod}
use Rattle.residue.specs.Inverse.{inverse_of}
use Rattle.residue.specs.Lists.{Among}
use Rattle.residue.specs.Vector.{Below}
use Rattle.elimination.specs.Elimination.{eliminated, multiples_of}
use Rattle.residue.specs.Layout.{fill, in_places, with_place, length_fill}
use Rattle.elimination.specs.Rows.{first_nonzero, pivot_row}
use Rattle.residue.proofs.Congruence.{of, ◌then◌}
use Rattle.residue.proofs.inverse.Inverses.{inverse_mod}
use Rattle.residue.proofs.level.Moduli.{modulus_range}
use Rattle.residue.proofs.vector.Vectors.{below_take, below_set}
use Rattle.residue.proofs.Places.{places_filled}
use Rattle.elimination.proofs.rows.Zeros.{zero_before, not_zero_there}
use Rattle.residue.proofs.Replaced.{table_more, place_length, place_below, place_before, place_here}
use Rattle.elimination.proofs.reducing.PivotRows.{PivotRows, Working, ZeroAt, vanishes, eliminated_works, eliminated_zero}
use Rattle.elimination.proofs.reducing.NextPivot.{next_pivot}
use Rattle.monomial.specs.Order.{Order}
use Rattle.monomial.specs.Rank.{rank_bound}
use Rattle.monomial.proofs.candidate.Exponents.{rank_small}
use Rattle.specification.specs.Space.{Space}
use Rattle.specification.specs.Basis.{Row}
use Rattle.specification.specs.BasisOf.{standard_of, leads_of}
use Rattle.specification.specs.Instance.{Monomial, Point, space_of, point_of}
use Rattle.specification.proofs.Instance.{laws, standard_total}
use Rattle.specification.proofs.ideal.Laws.{Laws}
use Rattle.specification.proofs.drawing.UpTo.{Drawn, is_lead, is_standard, standard_room, leads_room}
use Rattle.construction.proofs.drawing.Positions.{grown}
use Rattle.construction.proofs.drawing.ReducedRows.{loaded}
use Rattle.construction.proofs.drawing.Candidates.{ranked_more}
use Rattle.construction.proofs.drawing.Matrix.{values_of, same_values, more_values, new_values, is_row, not_combined, row_spanned}
use Rattle.construction.proofs.drawing.FoundRows.{longer, places_longer, rows_count, rows_more, rows_longer}
use Rattle.construction.proofs.drawing.TablesHold.{Ground, TablesHold, InHand, Decided, point_at}

-- the exponents of a monomial more in a table
exponents_more : {m : ℕ} (N k : ℕ) (l : List (Monomial m)) (b : Monomial m) (exponents t : List ℕ) → t ≡ fill N (in_places 8 (map (λ a. a.0) l)) → k ≡ length l → 8 * k + 8 ≤ N
    → exponents ≡ fill 8 b.0 → with_place 8 k exponents t ≡ fill N (in_places 8 (map (λ a. a.0) (l ++ (b ∷ []))))
exponents_more N k l b exponents t e c h x =
    table_more 8 N k (map (λ a. a.0) l) exponents t e (c ∙ sym (length-map l (λ a. a.0))) h (rw x (omega (arith, length_fill 8 b.0)))
    ∙ ap (fill N) (ap (λ (z : List ℕ). in_places 8 (map (λ a. a.0) l ++ (z ∷ []))) x ∙ places_filled 8 (map (λ a. a.0) l) b.0 ∙ ap (in_places 8) (sym (map-append (λ a. a.0) l (b ∷ []))))

module _ {q m n : ℕ} {order : Order} {S : List (Point (suc q) m)} {p : ℕ} (G : Ground q m n order S p) where
  abbrev D : Space
  D = space_of q m order

  L : Laws D
  L = laws q m order G.prime

  abbrev none : Point (suc q) m
  none = point_of q m []

  -- the tables have room
  module _ {std lds : List (Monomial m)} {c : Monomial m} (W : Drawn D S std lds c) where
    pub few_standard : length std ≤ n
    few_standard = omega (arith, standard_room D L S G.distinct std lds c W, G.count)

    pub few_leads : length lds ≤ 449
    few_leads = bound (length lds) (length S) G.few (omega (arith, G.count, G.most)) (leads_room D L S G.distinct std lds c W)
      where
        bound : (r k : ℕ) → m ≤ 8 → k ≤ 64 → r + k ≤ 1 + k * m → r ≤ 449
        bound r k a b h = let g : k * m ≤ k * 8 = mul-le-mul_left k a in omega arith

  module _ {std lds : List (Monomial m)} {css : List (List ℕ)} {standard leads coefficients rows pivots values ranks steps : List ℕ}
      (H : TablesHold q m n order S std lds css standard leads coefficients rows pivots values ranks steps) {b : Monomial m} {at exponents : List ℕ} {rank : ℕ} {own : List ℕ}
      (B : InHand q m n order S std lds b at exponents rank own) {work : List ℕ}
      (left : work ≡ eliminated p rows pivots (length std) (fill 128 (take n own))) where
    abbrev found : ℕ
    found = length std

    abbrev φ : ℕ → ℕ
    φ i = D.val b (point_at q m n order S i)

    front_long : length (take n own) ≡ n
    front_long = length-take-le n own (omega (arith, B.own_long, G.most))

    left' : work ≡ eliminated (suc q) rows pivots found (fill 128 (take n own))
    left' = left ∙ ap (λ (z : ℕ). eliminated z rows pivots found (fill 128 (take n own))) G.modulus

    -- the working row, over any matrix that the pivot rows are rows of
    module _ (v : ℕ → ℕ → ℕ) (P : PivotRows q n found v rows pivots) where
      W₀ : Working q n found v φ (fill 128 (take n own))
      W₀ =
          loaded q n found v φ (take n own) (omega (arith, G.most)) front_long (below_take (suc q) n own B.own_below)
          (λ i h. of (get_or-take n own i 0 h) then B.own_at i h)

      works : Working q n found v φ work
      works = rw left' (eliminated_works q n found v rows pivots P φ (fill 128 (take n own)) W₀)

      zeroed : ZeroAt pivots found work
      zeroed = rw left' (eliminated_zero q n found v rows pivots P φ (fill 128 (take n own)) W₀)

    worked : Working q n found (values_of D std S none) φ work
    worked = works (values_of D std S none) H.pivot_rows

    pub work_long : length work ≡ 128
    work_long = worked.long

    pub work_below : Below p work
    work_below = rw G.modulus worked.below

    -- 0 at every point: a lead
    module _ (zero : first_nonzero n work ≡ n) where
      abbrev cs : List ℕ
      cs = take found (drop n work)

      row : Row D S std b cs
      row = is_row D std S none n G.count b work worked (λ i h. zero_before n work i (rw zero h)) (omega (arith, G.most, H.pivot_rows.room))

      lead : Among b (leads_of D S)
      lead = is_lead D L S G.distinct std b B.front B.bordered (row_spanned D L S std b cs B.front.increasing row)

      drawn : Drawn D S std (lds ++ (b ∷ [])) b
      drawn = B.as_lead lead

      pub lead_room : length lds < 449
      lead_room = omega (arith, few_leads drawn, length-append lds (b ∷ []))

      pub lead_decided : Decided q m n order S std (lds ++ (b ∷ [])) at
      lead_decided = record { last = b; drawn = drawn; long = B.long; positions = B.positions }

      pub lead_held : TablesHold q m n order S std (lds ++ (b ∷ [])) (css ++ (cs ∷ [])) standard (with_place 8 (length lds) exponents leads) (with_place 64 (length lds) cs coefficients)
          rows pivots values ranks steps
      lead_held = record {
        standard_table_lem = H.standard_table_lem;
        leads_table_lem = exponents_more 3592 (length lds) lds b exponents leads H.leads_table_lem refl (omega (arith, lead_room)) B.exponents_are;
        coefficients_table_lem =
            table_more 64 28736 (length lds) css cs coefficients H.coefficients_table_lem (sym (rows_count D S std lds css H.rows_are)) (omega (arith, lead_room))
            (omega (arith, row.long, G.most, H.pivot_rows.room));
        rows_are = rows_more D S std lds css b cs H.rows_are row;
        pivot_rows = H.pivot_rows;
        values_long = H.values_long;
        values_below = H.values_below;
        values_at = H.values_at;
        ranks_long = H.ranks_long;
        ranks_below = H.ranks_below;
        ranked = H.ranked;
      }

    -- not 0 at some point: a standard monomial
    module _ (some : first_nonzero n work < n) where
      abbrev pivot : ℕ
      pivot = first_nonzero n work

      not_zero : get_or work pivot 0 ≡ 0 → ⊥
      not_zero = not_zero_there n work some

      new : Among b (standard_of D S)
      new =
          is_standard D L S G.distinct std b B.front
          (not_combined D std S none n G.count b work worked rows pivots H.pivot_rows (zeroed (values_of D std S none) H.pivot_rows) pivot some not_zero)

      drawn_new : Drawn D S (std ++ (b ∷ [])) lds b
      drawn_new = B.as_standard new

      more : length (std ++ (b ∷ [])) ≡ suc found
      more = length-append std (b ∷ []) ∙ omega arith

      pub standard_more : found < n
      standard_more = omega (arith, few_standard drawn_new, more)

      pub standard_decided : Decided q m n order S (std ++ (b ∷ [])) lds at
      standard_decided = record { last = b; drawn = drawn_new; long = B.long; positions = grown D L std B.front.increasing b (λ v. get_or at v 0) B.positions }

      abbrev rows' : ℕ → List ℕ
      rows' z = with_place 1152 found (multiples_of z (pivot_row z (n + found) (inverse_of z (get_or work pivot 0)) work)) rows

      abbrev u : ℕ → ℕ → ℕ
      u = values_of D (std ++ (b ∷ [])) S none

      P' : PivotRows q n found u rows pivots
      P' = same_values q n found (values_of D std S none) u (λ j i h. more_values D std S none b j i h) rows pivots H.pivot_rows

      small : get_or work pivot 0 < suc q
      small = worked.below pivot (omega (arith, worked.long, G.most))

      inverse : Mod (suc q) (get_or work pivot 0 * inverse_of (suc q) (get_or work pivot 0)) 1
      inverse =
          rw (mod-eq_of_lt small) at
          (inverse_mod (suc q) (get_or work pivot 0) G.prime (λ e. not_zero (vanishes work pivot worked.below (omega (arith, worked.long, G.most)) e)))

      pivot_more : PivotRows q n (length (std ++ (b ∷ []))) u (rows' p) (set pivots found pivot)
      pivot_more =
          rw (more, G.modulus)
          (next_pivot q n found u rows pivots P' (modulus_range (suc q) G.prime).0 standard_more φ work (works u P') (zeroed u P') (λ i h. of (new_values D std S none b i))
          pivot some (inverse_of (suc q) (get_or work pivot 0)) inverse)

      fits : 64 * found + 64 ≤ length values
      fits = omega (arith, standard_more, G.most, H.values_long)

      values_new : (t i : ℕ) → t < length (std ++ (b ∷ [])) → i < n
          → Mod (suc q) (get_or (with_place 64 found own values) (64 * t + i) 0) (D.val (get_or (std ++ (b ∷ [])) t D.one) (point_at q m n order S i))
      values_new t i h l = go (ℕ_discrete t found)
        where
          go : Dec (t ≡ found) → Mod (suc q) (get_or (with_place 64 found own values) (64 * t + i) 0) (D.val (get_or (std ++ (b ∷ [])) t D.one) (point_at q m n order S i))
          go (yes e) =
              rw e
              (of (place_here 64 found own values fits B.own_long i (omega (arith, G.most))) then B.own_at i l then of (new_values D std S none b i))
          go (no e) =
              let k : t < found = omega (arith, more) in
              of (place_before 64 found own values fits B.own_long (64 * t + i) (omega (arith, G.most))) then H.values_at t i k l
              then of (more_values D std S none b t i k)

      pub standard_held : TablesHold q m n order S (std ++ (b ∷ [])) lds (longer css) (with_place 8 found exponents standard) leads coefficients (rows' p) (set pivots found pivot)
          (with_place 64 found own values) (set ranks found rank) steps
      standard_held = record {
        standard_table_lem = exponents_more 512 found std b exponents standard H.standard_table_lem refl (omega (arith, standard_more, G.most)) B.exponents_are;
        leads_table_lem = H.leads_table_lem;
        coefficients_table_lem = H.coefficients_table_lem ∙ ap (fill 28736) (sym (places_longer 64 css));
        rows_are = rows_longer D S std b lds css H.rows_are;
        pivot_rows = pivot_more;
        values_long = place_length 64 found own values fits B.own_long ∙ H.values_long;
        values_below = place_below 64 found own values fits B.own_long (suc q) B.own_below H.values_below;
        values_at = values_new;
        ranks_long = length-set ranks found rank ∙ H.ranks_long;
        ranks_below =
            below_set rank_bound found rank ranks
            (rw B.rank_is (rank_small b.0 (rw b.1 G.few) order G.light (omega (arith, standard_total q m order G.prime S G.distinct b new, G.count, G.most))))
            H.ranks_below;
        ranked = ranked_more q m order std ranks steps H.ranked b rank B.rank_is (omega (arith, H.ranks_long, standard_more, G.most));
      }
