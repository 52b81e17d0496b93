-- From the tables of n points and a new point to those of all of them, under settings: what the functions of the addition are handed, and what they leave.
use mathlib.Core.Path.{◌≡◌, refl, sym, ◌∙◌, ap, ap₂, subst}
use mathlib.Core.Bool.{true≢false}
use mathlib.Core.List.{List, [], ◌∷◌, ◌++◌, map, map-map, map-append}
use mathlib.Core.Logic.{inl, inr, ◌≢◌}
use Prim.Native.Nat.{ℕ, zero, suc, ◌+◌, ◌*◌, ◌-◌, ◌%◌, ◌<◌, ◌≤◌}
use native.Mathlib.Nat.{mod-eq_of_lt, mul-le-mul}
use native.Mathlib.Decide.{dec_lt}
use native.Mathlib.Omega.{arith}
use lib.ListN.{length, get_or, take, drop, replicate, length-map, length-append, get_or-eq_default}
use lib.Dec.{T}
use lib.Seq.{length-take-le}
use Rattle.residue.specs.Lists.{Among}
use Rattle.residue.specs.Vector.{Below}
use Rattle.elimination.specs.Elimination.{eliminated, Multiplied}
use Rattle.residue.specs.Layout.{groups, fill, in_places, over, with_place, row_at, length_fill}
use Rattle.residue.proofs.vector.Vectors.{below_take, map_same}
use Rattle.residue.proofs.Tests.{true_of}
use Rattle.residue.proofs.Layouts.{fill_exact, below_fill}
use Rattle.residue.proofs.Places.{places_append, over_zeros, place_more}
use Rattle.monomial.specs.Monomial.{monomial_at}
use Rattle.monomial.specs.Order.{Order}
use Rattle.monomial.proofs.Padding.{value_fill}
use Rattle.specification.specs.declared.settings.Settings.{Settings}
use Rattle.specification.specs.Levels.{is_among}
use Rattle.specification.specs.Space.{Space}
use Rattle.specification.specs.Polynomial.{Distinct}
use Rattle.specification.specs.BasisOf.{standard_of, leads_of, row_of, rows_of, interpolant_of}
use Rattle.specification.specs.Instance.{Monomial, Point, reduced, point_of}
use Rattle.specification.specs.Tables.{order_under, space_under, points_under, standard_under, leads_under, rows_under, row_count, points_in}
use Rattle.specification.specs.Tables.{states_table, standard_table, leads_table, coefficients_table}
use Rattle.specification.proofs.Repeats.{is_among_lem}
use Rattle.specification.specs.Points.{Points, IsPoint}
use Rattle.specification.proofs.agreement.Points.{points_more}
use Rattle.specification.proofs.agreement.Drawings as Drawings
use Rattle.specification.proofs.Instance.{laws, point_of_lem, lead_exponent}
use Rattle.specification.proofs.ideal.Laws.{Laws}
use Rattle.specification.proofs.ideal.Lists.{get_d_among, among_map}
use Rattle.specification.proofs.ideal.Basis.{row_is}
use Rattle.specification.proofs.ideal.Counts.{leads_length, standard_length}
use Rattle.specification.proofs.ideal.Permutation.{basis_snoc}
use Rattle.construction.specs.Drawing.{PointsGiven, Tabled, DrawnUp}
use Rattle.growth.specs.Growing.{value_of_row, first_from, Grown, grown, standard_grown, grown_by, all_points, NewPoint}
use Rattle.construction.proofs.drawing.Given.{given_count, given_points}
use Rattle.construction.proofs.drawing.Grounds.{ground, places_below}
use Rattle.growth.proofs.Corrections.{values_at}
use Rattle.growth.proofs.LostRow.{lost, lost_one}
use Rattle.growth.proofs.NewTables.{table, read, few_standard, short, most, grown_are, standard_are}

-- residues are kept
residues_kept : (q : ℕ) (l : List ℕ) → Below (suc q) l → reduced q l ≡ l
residues_kept q [] b = refl
residues_kept q (x ∷ l) b = ap₂ (λ (y : ℕ) (z : List ℕ). y ∷ z) (mod-eq_of_lt (b 0 (omega arith))) (residues_kept q l (λ i h. b (suc i) (omega arith)))

-- points as lists, and back
module _ (q m : ℕ) where
  lists_again : (X : List (Point (suc q) m)) → map (λ (Q : Point (suc q) m). Q.0) (map (point_of q m) (map (λ (Q : Point (suc q) m). Q.0) X)) ≡ map (λ (Q : Point (suc q) m). Q.0) X
  lists_again [] = refl
  lists_again (Q ∷ X) = ap₂ (λ (a : List ℕ) (l : List (List ℕ)). a ∷ l) (ap (λ (R : Point (suc q) m). R.0) (point_of_lem q m Q)) (lists_again X)

  among_lists : (X : List (Point (suc q) m)) (Q : Point (suc q) m) → Among Q (map (point_of q m) (map (λ (R : Point (suc q) m). R.0) X)) → Among Q.0 (map (λ (R : Point (suc q) m). R.0) X)
  among_lists (R ∷ X) Q (inl e) = inl (ap (λ (Z : Point (suc q) m). Z.0) (e ∙ point_of_lem q m R))
  among_lists (R ∷ X) Q (inr mem) = inr (among_lists X Q mem)
  among_lists [] Q x' = elim x' [ ]

-- every number of a table of small numbers is small, beyond its end as well
table_small : (b w N : ℕ) (K : List (List ℕ)) → 0 < b → ((r : List ℕ) → Among r K → Below b r) → (i : ℕ) → get_or (fill N (in_places w K)) i 0 < b
table_small b w N K z h i = go (dec_lt i (length (fill N (in_places w K))))
  where
    go : Dec (i < length (fill N (in_places w K))) → get_or (fill N (in_places w K)) i 0 < b
    go (yes u) = below_fill b N (in_places w K) z (places_below b w K z h) i u
    go (no u) = let e : length (fill N (in_places w K)) ≤ i = omega (arith, u) in rw (get_or-eq_default (fill N (in_places w K)) 0 e) z

-- equal arguments
same_search : {p p' n n' r r' : ℕ} {point point' vs vs' leads leads' rows rows' : List ℕ} → p ≡ p' → n ≡ n' → r ≡ r' → point ≡ point' → vs ≡ vs' → leads ≡ leads' → rows ≡ rows'
    → first_from (value_of_row p n point vs leads rows) 0 r ≡ first_from (value_of_row p' n' point' vs' leads' rows') 0 r'
same_search a b c d e f g = cc

same_grown : (m : ℕ) (o : Order) (rows pivots : List ℕ) {p p' n n' r r' j j' : ℕ} {points points' standard standard' leads leads' table table' point point' vs vs' : List ℕ} → p ≡ p' → n ≡ n' → r ≡ r' → points ≡ points'
    → standard ≡ standard' → leads ≡ leads' → table ≡ table' → point ≡ point' → vs ≡ vs' → j ≡ j'
    → grown_by p m o n r points standard leads table rows pivots point vs j ≡ grown_by p' m o n' r' points' standard' leads' table' rows pivots point' vs' j'
same_grown m o rows pivots a b c d e f g h i k = cc

same_standard : (o : Order) {n n' j j' : ℕ} {standard standard' leads leads' : List ℕ} → n ≡ n' → standard ≡ standard' → leads ≡ leads' → j ≡ j'
    → standard_grown o n standard (row_at 8 j leads) ≡ standard_grown o n' standard' (row_at 8 j' leads')
same_standard o a b c d = cc

module _ {s : Settings} {n r : ℕ} {points standard leads coefficients rows pivots point : List ℕ} (given : PointsGiven s n points)
    (drawn : DrawnUp s (points_in s n points) r standard leads coefficients rows pivots) (room : n < 64) (new : NewPoint s (points_in s n points) point) where
  abbrev p : ℕ
  p = s.modulus

  abbrev m : ℕ
  m = s.variables

  abbrev o : Order
  o = order_under s

  abbrev q : ℕ
  q = p - 1

  abbrev K : List (List ℕ)
  K = points_in s n points

  abbrev S : List (Point (suc q) m)
  S = points_under s K

  abbrev D : Space
  D = space_under s

  L : Laws D
  L = laws q m o (ground given).prime

  d : Distinct D S
  d = (ground given).distinct

  raised : p ≡ suc q
  raised = (ground given).modulus

  abbrev P : Point (suc q) m
  P = point_of q m (take m point)

  new_point : IsPoint s (take m point)
  new_point = record {
    long = length-take-le m point (omega (arith, ap length new.filled, length_fill 8 (take m point), given.settings.few));
    same = residues_kept q (take m point) (below_take (suc q) m point (subst (λ (z : ℕ). Below z point) raised new.below));
  }

  coordinates : P.0 ≡ take m point
  unfolding point_of
  coordinates = ap (reduced q) (fill_exact m (take m point) new_point.long) ∙ new_point.same

  lists : map (λ (Q : Point (suc q) m). Q.0) S ≡ K
  unfolding points_in
  lists = lists_again q m (map (point_of q m) (groups 8 n points))

  far : (Q : Point (suc q) m) → Among Q S → P ≢ Q
  unfolding points_in
  far Q mem e = true≢false (sym (true_of (is_among (take m point) K) (is_among_lem (take m point) K
      (subst (λ (z : List ℕ). Among z K) (sym (ap (λ (R : Point (suc q) m). R.0) e) ∙ coordinates) (among_lists q m (map (point_of q m) (groups 8 n points)) Q mem)))) ∙ new.new)

  -- bounds
  count : length S ≡ n
  count = (ground given).count

  many : length S < 64
  many = omega (arith, count)

  rows_many : r ≡ length (leads_under s K)
  unfolding row_count
  rows_many = drawn.tabled.row_count

  fits : length (leads_under s K) + m ≤ 450
  fits = bound (length (leads_under s K)) (length S) m many given.settings.some given.settings.few (leads_length D L S d)
    where
      bound : (r n m : ℕ) → n < 64 → 1 ≤ m → m ≤ 8 → r + n ≤ 1 + n * m → r + m ≤ 450
      bound r n zero a b c e = absurd (omega arith)
      bound r n (suc m) a b c e = let u : n ≤ 63 = omega arith in let v : m ≤ m = omega arith in let k : n * m ≤ 63 * m = mul-le-mul u v in omega arith

  few_rows : r + m ≤ 450
  few_rows = rw rows_many fits

  most_rows_lem : r ≤ 449
  most_rows_lem = omega (arith, few_rows, given.settings.some)

  -- the tables
  standard_is : standard ≡ table q m o given.settings.few L 512 (standard_under s K)
  unfolding standard_table
  standard_is = drawn.tabled.standard_table_lem

  leads_are : leads ≡ table q m o given.settings.few L 3592 (leads_under s K)
  unfolding leads_table
  leads_are = drawn.tabled.leads_table_lem

  rows_are : coefficients ≡ fill 28736 (in_places 64 (rows_under s K))
  unfolding coefficients_table
  rows_are = drawn.tabled.coefficients_table_lem

  point_is : point ≡ fill 8 P.0
  point_is = new.filled ∙ ap (fill 8) (sym coordinates)

  -- coefficients are residues, and exponents small
  row_below : (c : List ℕ) → Among c (rows_under s K) → Below p c
  row_below c mem i h = let w = among_map (row_of D S) (leads_under s K) c mem in
      rw raised ((row_is D L S d w.0).residues (get_or c i 0) (subst (λ (z : List ℕ). Among (get_or c i 0) z) w.2 (get_d_among c i 0 h)))

  lead_below : (a : List ℕ) → Among a (map (λ (a : Monomial m). a.0) (leads_under s K)) → Below 255 a
  lead_below a mem i h = let w = among_map (λ (a : Monomial m). a.0) (leads_under s K) a mem in
      rw w.2 (omega (arith, lead_exponent q m o (ground given).prime S d w.0 w.1 i, many))

  -- how many points there are now, and that they have few rows
  every : Points s (all_points s n points point)
  every =
      points_more s K (take m point) (given_points given) new_point (λ w. subst T new.new (is_among_lem (take m point) K w)) (omega (arith, given_count given, room))

  pub all_count : n + 1 ≡ length (all_points s n points point)
  all_count = omega (arith, length-append K (take m point ∷ []), given_count given)

  pub all_few : row_count s (all_points s n points point) ≤ 449
  all_few = Drawings.few_rows s given.settings (all_points s n points point) every

  -- what the functions of the addition ask
  pub record Sound : Type 0 where
    pub few : r + m ≤ 450
    pub most : r ≤ 449
    pub standard_size_lem : length standard ≡ 512
    pub leads_size_lem : length leads ≡ 3592
    pub rows_size : length coefficients ≡ 28736
    pub point_size : length point ≡ 8
    pub residues : Below p coefficients
    pub exponents : (i : ℕ) → get_or leads i 0 < 255
    pub within : (t : ℕ) → t < n → get_or pivots t 0 < n
    pub multiplied : Multiplied p n rows

  pub sound : Sound
  sound = record {
    few = few_rows;
    most = most_rows_lem;
    standard_size_lem = ap length standard_is ∙ length_fill 512 _;
    leads_size_lem = ap length leads_are ∙ length_fill 3592 _;
    rows_size = ap length rows_are ∙ length_fill 28736 _;
    point_size = ap length new.filled ∙ length_fill 8 _;
    residues = λ i h. subst (λ (t : List ℕ). get_or t i 0 < p) (sym rows_are) (table_small p 64 28736 (rows_under s K) (omega (arith, raised)) row_below i);
    exponents = λ i. subst (λ (t : List ℕ). get_or t i 0 < 255) (sym leads_are)
        (table_small 255 8 3592 (map (λ (a : Monomial m). a.0) (leads_under s K)) (omega arith) lead_below i);
    within = subst (λ (k : ℕ). (t : ℕ) → t < k → get_or pivots t 0 < k) (sym (length-map K (point_of q m)) ∙ count) drawn.pivot_rows.inside;
    multiplied = subst (λ (k : ℕ). Multiplied p k rows) (sym (length-map K (point_of q m)) ∙ count) drawn.pivot_rows.multiples;
  }

  -- the values of the standard monomials
  abbrev due : List ℕ
  due = values_at q m o given.settings.few (standard_under s K) P (few_standard q m o given.settings.few L S d many given.settings.some fits P far)

  standard_count : length (standard_under s K) ≡ n
  standard_count = standard_length D L S d ∙ count

  values_are : over (map (λ a. monomial_at point a % p) (groups 8 n standard)) (replicate 64 0) ≡ due
  values_are =
      let f : Monomial m → List ℕ = λ b. fill 8 b.0 in
      let back : groups 8 n standard ≡ map f (standard_under s K) = ap₂ (λ (k : ℕ) (t : List ℕ). groups 8 k t) (sym standard_count) standard_is ∙ read q m o given.settings.few L 512 (standard_under s K) (omega (arith, standard_count)) in
      let value : (b : Monomial m) → monomial_at (fill 8 P.0) (fill 8 b.0) % suc q ≡ monomial_at P.0 b.0 % suc q =
      λ b. ap (λ (z : ℕ). z % suc q) (value_fill P.0 b.0 (P.1.0 ∙ sym b.1) (rw P.1.0 given.settings.few)) in
      let n64 = length-map (standard_under s K) (λ (b : Monomial m). monomial_at P.0 b.0 % suc q) in
      ap (λ (z : List ℕ). over z (replicate 64 0))
      (ap (map (λ a. monomial_at point a % p)) back ∙ map-map (λ a. monomial_at point a % p) f (standard_under s K)
      ∙ ap₂ (λ (z : List ℕ) (k : ℕ). map (λ (b : Monomial m). monomial_at z (fill 8 b.0) % k) (standard_under s K)) point_is raised
      ∙ map_same (λ (b : Monomial m). monomial_at (fill 8 P.0) (fill 8 b.0) % suc q) (λ b. monomial_at P.0 b.0 % suc q) (standard_under s K) (λ b mem. value b))
      ∙ over_zeros (map (λ (b : Monomial m). monomial_at P.0 b.0 % suc q) (standard_under s K)) 64 (omega (arith, standard_count))

  solves_it : (vs : List ℕ) → length vs ≡ length S → Below (suc q) vs
      → eliminated (suc q) rows pivots (length S) (fill 128 vs) ≡ fill 128 (replicate (length S) 0 ++ map (λ c. (suc q - c) % suc q) (interpolant_of D S vs))
  solves_it = subst (λ (z : ℕ). (vs : List ℕ) → length vs ≡ length S → Below z vs
      → eliminated z rows pivots (length S) (fill 128 vs) ≡ fill 128 (replicate (length S) 0 ++ map (λ c. (z - c) % z) (interpolant_of D S vs))) raised
      (subst (λ (k : ℕ). (vs : List ℕ) → length vs ≡ k → Below p vs → eliminated p rows pivots k (fill 128 vs) ≡ fill 128 (replicate k 0 ++ map (λ c. (p - c) % p) (interpolant_of D S vs)))
      (sym (length-map K (point_of q m))) drawn.pivot_rows.solves)

  -- what the functions find and leave
  module _ (vs : List ℕ) (ev : vs ≡ over (map (λ a. monomial_at point a % p) (groups 8 n standard)) (replicate 64 0)) (j : ℕ) (ej : j ≡ first_from (value_of_row p n point vs leads coefficients) 0 r) where
    abbrev wanted : ℕ
    wanted = lost q m o given.settings.few L S d (short q m o given.settings.few L S d many given.settings.some fits P far) (most q m o given.settings.few L S d many given.settings.some fits P far) P far

    found : j ≡ wanted
    found = ej ∙ same_search raised (sym count) rows_many point_is (ev ∙ values_are) leads_are rows_are

    pub inside : j < r
    inside = rw (found, rows_many) (lost_one q m o given.settings.few L S d (short q m o given.settings.few L S d many given.settings.some fits P far) (most q m o given.settings.few L S d many given.settings.some fits P far) P far)

    pub added : (k : ℕ) (ns nl nc : List ℕ) → ns ≡ standard_grown o n standard (row_at 8 j leads) → grown k nl nc ≡ grown_by p m o n r points standard leads coefficients rows pivots point vs j
        → Tabled s (all_points s n points point) k ns nl nc
    unfolding standard_table leads_table coefficients_table row_count
    added k ns nl nc es eg =
        let all : points_under s (K ++ (take m point ∷ [])) ≡ S ++ (P ∷ []) = map-append (point_of q m) K (take m point ∷ []) in
        let b = basis_snoc D L S P d far in
        let l : leads_of D (P ∷ S) ≡ leads_under s (K ++ (take m point ∷ [])) = sym b.1 ∙ ap (leads_of D) (sym all) in
        let g : grown k nl nc ≡ grown (length (leads_of D (P ∷ S))) (table q m o given.settings.few L 3592 (leads_of D (P ∷ S))) (fill 28736 (in_places 64 (rows_of D (P ∷ S)))) =
        eg ∙ same_grown m o rows pivots raised (sym count) rows_many (given.table ∙ ap (λ (z : List (List ℕ)). fill 512 (in_places 8 z)) (sym lists)) standard_is leads_are rows_are point_is (ev ∙ values_are) found
        ∙ grown_are q m o given.settings.few L S d many given.settings.some fits P far rows pivots solves_it in
        record {
          row_count = ap (λ (x : Grown). x.count) g ∙ ap length l;
          standard_table_lem = es ∙ same_standard o (sym count) standard_is leads_are found ∙ standard_are q m o given.settings.few L S d many given.settings.some fits P far
              ∙ ap (λ (z : List (Monomial m)). fill 512 (in_places 8 (map (λ (a : Monomial m). a.0) z))) (sym b.0 ∙ ap (standard_of D) (sym all));
          leads_table_lem = ap (λ (x : Grown). x.leads) g ∙ ap (λ (z : List (Monomial m)). fill 3592 (in_places 8 (map (λ (a : Monomial m). a.0) z))) l;
          coefficients_table_lem = ap (λ (x : Grown). x.coefficients) g ∙ ap (λ (z : List (List ℕ)). fill 28736 (in_places 64 z)) (sym b.2 ∙ ap (rows_of D) (sym all));
        }

-- the table of points with the new one in its place
pub states_more : (s : Settings) (n : ℕ) {points point : List ℕ} → PointsGiven s n points → n < 64 → NewPoint s (points_in s n points) point
    → with_place 8 n point points ≡ states_table (all_points s n points point)
unfolding states_table in_places with_place
states_more s n {points} {point} given room new =
    let K : List (List ℕ) = points_in s n points in
    let P : List ℕ = take s.variables point in
    let count : length K ≡ n = given_count given in
    let long : length point ≡ 8 = ap length new.filled ∙ length_fill 8 P in
    let same : fill 8 point ≡ fill 8 P = fill_exact 8 point long ∙ new.filled in
    place_more 8 512 K point points (over point (take 8 (drop (8 * n) points))) (8 * n) 8 given.table (ap (λ (j : ℕ). 8 * j) (sym count)) refl (omega arith) (omega arith) refl
    ∙ ap (fill 512) (places_append 8 K (point ∷ []) ∙ ap (λ (z : List ℕ). in_places 8 K ++ (z ++ [])) same ∙ sym (places_append 8 K (P ∷ [])))
