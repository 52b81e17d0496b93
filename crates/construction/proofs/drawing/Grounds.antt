-- The points that drawing up is handed, as points under its settings; and its end, when all is found.
use mathlib.Core.Path.{◌≡◌, refl, sym, ap, ap₂, subst, ◌∙◌}
use mathlib.Core.Bool.{true}
use mathlib.Core.List.{List, [], ◌∷◌, ◌++◌, map}
use mathlib.Core.Logic.{inl, inr}
use Prim.Native.Nat.{ℕ, zero, suc, ◌+◌, ◌-◌, ◌*◌, ◌%◌, ◌<◌}
use native.Mathlib.Nat.{not-suc-le-zero}
use native.Mathlib.Omega.{arith}
use lib.ListN.{length, get_or, take, drop, replicate, length-map, get_or-map}
use lib.Seq.{get_or-take, get_or-drop}
use lib.Dec.{ltb→lt}
use Rattle.residue.specs.Congruence.{Mod}
use Rattle.residue.specs.Lists.{Among}
use Rattle.residue.specs.Modulus.{is_modulus}
use Rattle.residue.specs.Vector.{Below}
use Rattle.elimination.specs.Elimination.{eliminated, multiples_of}
use Rattle.residue.specs.Layout.{groups, fill, in_places, length_fill}
use Rattle.residue.proofs.Congruence.{of, flip, reduce, ◌then◌}
use Rattle.residue.proofs.level.Moduli.{modulus_range}
use Rattle.residue.proofs.vector.Vectors.{map_at, below_append}
use Rattle.residue.proofs.Layouts.{fill_at, below_fill}
use Rattle.residue.proofs.Places.{groups_at}
use Rattle.elimination.proofs.reducing.Combinations.{combination}
use Rattle.elimination.proofs.reducing.PivotRows.{PivotRows}
use Rattle.monomial.specs.Order.{order_of}
use Rattle.specification.specs.declared.settings.Settings.{Settings}
use Rattle.specification.specs.Space.{Space}
use Rattle.specification.specs.Basis.{Fits}
use Rattle.specification.specs.BasisOf.{value_at, interpolant_of}
use Rattle.specification.specs.Instance.{Residues, Point, reduced, point_of}
use Rattle.specification.specs.Tables.{space_under, points_under, standard_under, leads_under, row_count, standard_table, leads_table, coefficients_table, points_in}
use Rattle.specification.proofs.Instance.{laws, residues_reduced, point_of_lem}
use Rattle.specification.proofs.ideal.Laws.{Laws}
use Rattle.specification.proofs.ideal.Lists.{get_d_among}
use Rattle.specification.proofs.ideal.Basis.{interpolant_fits, interpolant_values}
use Rattle.specification.proofs.ideal.Counts.{standard_length}
use Rattle.specification.proofs.agreement.Drawings.{distinct_under}
use Rattle.specification.proofs.agreement.Refusals.{light_under}
use Rattle.construction.specs.Drawing.{PointsGiven, DrawnUp}
use Rattle.construction.proofs.drawing.Given.{given_count}
use Rattle.construction.proofs.drawing.ReducedRows.{solves}
use Rattle.construction.proofs.drawing.Matrix.{values_of, terms_places}
use Rattle.construction.proofs.drawing.FoundRows.{rows_only}
use Rattle.construction.proofs.drawing.TablesHold.{Ground, TablesHold, point_at}

-- residues, by their places
residues_below : (p : ℕ) (l : List ℕ) → Residues p l → Below p l
residues_below p [] r i h = absurd (not-suc-le-zero h)
residues_below p (c ∷ l) r zero h = ltb→lt c p r.0
residues_below p (c ∷ l) r (suc i) h = residues_below p l r.1 i (omega arith)

pub places_below : (p w : ℕ) (K : List (List ℕ)) → 0 < p → ((P : List ℕ) → Among P K → Below p P) → Below p (in_places w K)
unfolding in_places
places_below p w [] z h i l = absurd (not-suc-le-zero l)
places_below p w (P ∷ K) z h i l =
    below_append p (fill w P) (in_places w K) (below_fill p w P z (h P (inl refl))) (places_below p w K z (λ Q mem. h Q (inr mem))) i l

-- the lists of points
module _ (q m : ℕ) where
  abbrev lists : List (Point (suc q) m) → List (List ℕ)
  lists X = map (λ P. P.0) X

  list_of : (X : List (Point (suc q) m)) (P : List ℕ) → Among P (lists X) → (Q : Point (suc q) m) × (P ≡ Q.0)
  list_of [] P mem = absurd mem
  list_of (Q ∷ X) P (inl e) = (Q, e)
  list_of (Q ∷ X) P (inr mem) = list_of X P mem

  points_again : (X : List (Point (suc q) m)) → map (point_of q m) (lists X) ≡ X
  points_again [] = refl
  points_again (P ∷ X) = ap₂ (λ (a : Point (suc q) m) (l : List (Point (suc q) m)). a ∷ l) (point_of_lem q m P) (points_again X)

module _ {s : Settings} {n : ℕ} {points : List ℕ} (given : PointsGiven s n points) where
  abbrev p : ℕ
  p = s.modulus

  abbrev m : ℕ
  m = s.variables

  abbrev order : ℕ
  order = s.order

  abbrev q : ℕ
  q = p - 1

  abbrev K : List (List ℕ)
  K = points_in s n points

  abbrev S : List (Point (suc q) m)
  S = points_under s K

  abbrev D : Space
  D = space_under s

  raised : p ≡ suc q
  raised = omega (arith, modulus_range p given.settings.modulus)

  lowered : (l : List ℕ) → Below (suc q) l → Below p l
  lowered l b = subst (λ (z : ℕ). Below z l) (sym raised) b

  prime : is_modulus (suc q) ≡ true
  prime = subst (λ (z : ℕ). is_modulus z ≡ true) raised given.settings.modulus

  L : Laws D
  L = laws q m (order_of order s.weights) prime

  as_many : length K ≡ n
  as_many = given_count given

  point : (P : List ℕ) → Among P K → (Q : Point (suc q) m) × (P ≡ Q.0)
  unfolding points_in
  point P mem = list_of q m (points_under s (groups 8 n points)) P mem

  pub ground : Ground q m n (order_of order s.weights) S p
  ground = record {
    modulus = raised;
    prime = prime;
    few = given.settings.few;
    count = length-map K (point_of q m) ∙ as_many;
    most = given.most;
    light = light_under s given.settings.weights;
    distinct = distinct_under s given.settings K
        (λ P mem. let t = point P mem in record { long = ap length t.1 ∙ t.0.1.0; same = rw t.1 (residues_reduced q t.0.0 t.0.1.1) }) given.once;
  }

  pub points_long : length points ≡ 512
  points_long = ap length given.table ∙ length_fill 512 (in_places 8 K)

  pub points_below : Below p points
  points_below =
      subst (Below p) (sym given.table)
      (below_fill p 512 (in_places 8 K) (omega (arith, raised))
      (places_below p 8 K (omega (arith, raised)) (λ P mem. let t = point P mem in rw t.1 (lowered t.0.0 (residues_below (suc q) t.0.0 t.0.1.1)))))

  same_points : S ≡ map (point_of q m) (groups 8 n points)
  unfolding points_in
  same_points = points_again q m (map (point_of q m) (groups 8 n points))

  pub coordinate : (k : ℕ) → k < m → (i : ℕ) → i < n → Mod (suc q) (get_or points (8 * i + k) 0) (D.coord k (point_at q m n (order_of order s.weights) S i))
  unfolding point_of
  coordinate k h i l =
      let g : List ℕ = take 8 (drop (8 * i) points) in
      let e : get_or S i (point_of q m []) ≡ point_of q m g =
      ap (λ (X : List (Point (suc q) m)). get_or X i (point_of q m [])) same_points ∙ get_or-map (point_of q m) (groups 8 n points) i [] ∙ ap (point_of q m) (groups_at 8 n i points [] l) in
      let f : get_or (reduced q (fill m g)) k 0 ≡ get_or points (8 * i + k) 0 % suc q =
      map_at (λ x. x % suc q) (fill m g) 0 0 k (rw (length_fill m g) h)
      ∙ ap (λ (x : ℕ). x % suc q) (fill_at m g k h ∙ get_or-take 8 (drop (8 * i) points) k 0 (omega (arith, given.settings.few)) ∙ get_or-drop (8 * i) points k 0) in
      flip (of (ap (λ (P : Point (suc q) m). get_or P.0 k 0) e ∙ f) then reduce (suc q) (get_or points (8 * i + k) 0))

  -- all is found
  module _ {css : List (List ℕ)} {standard leads coefficients rows pivots values ranks steps : List ℕ}
      (H : TablesHold q m n (order_of order s.weights) S (standard_under s K) (leads_under s K) css standard leads coefficients rows pivots values ranks steps) where
    full : length (standard_under s K) ≡ n
    full = standard_length D L S ground.distinct ∙ ground.count

    P : PivotRows q n n (values_of D (standard_under s K) S (point_of q m [])) rows pivots
    P = subst (λ (k : ℕ). PivotRows q n k (values_of D (standard_under s K) S (point_of q m [])) rows pivots) full H.pivot_rows

    solved : (vs : List ℕ) → length vs ≡ n → Below p vs
        → eliminated p rows pivots n (fill 128 vs) ≡ fill 128 (replicate n 0 ++ map (λ c. (p - c) % p) (interpolant_of D S vs))
    solved vs l b =
        ap (λ (z : ℕ). eliminated z rows pivots n (fill 128 vs)) raised
        ∙ solves q n n (values_of D (standard_under s K) S (point_of q m [])) rows pivots P (λ i. get_or vs i 0) cs (fits.long ∙ full)
        (λ i h. fits.residues (get_or cs i 0) (get_d_among cs i 0 h)) value vs l (subst (λ (z : ℕ). Below z vs) raised b) (λ i h. of refl)
        ∙ sym (ap (λ (z : ℕ). fill 128 (replicate n 0 ++ map (λ c. (z - c) % z) cs)) raised)
      where
        cs : List ℕ
        cs = interpolant_of D S vs

        fits : Fits D S (standard_under s K) (value_at D S vs) (interpolant_of D S vs)
        fits = interpolant_fits D L S ground.distinct (value_at D S vs)

        value : (i : ℕ) → i < n → Mod (suc q) (combination (values_of D (standard_under s K) S (point_of q m [])) n (λ j. get_or (interpolant_of D S vs) j 0) i) (get_or vs i 0)
        value i h =
            of (ap (λ (k : ℕ). combination (values_of D (standard_under s K) S (point_of q m [])) k (λ j. get_or (interpolant_of D S vs) j 0) i) (sym full)
            ∙ sym (terms_places D (interpolant_of D S vs) (standard_under s K) (get_or S i (point_of q m [])) fits.long))
            then interpolant_values D L S ground.distinct vs i (point_of q m []) (omega (arith, ground.count)) (omega arith)

    pub drawn_up : {r : ℕ} → r ≡ length (leads_under s K) → DrawnUp s K r standard leads coefficients rows pivots
    unfolding row_count standard_table leads_table coefficients_table
    drawn_up e = record {
      tabled = record {
        row_count = e;
        standard_table_lem = H.standard_table_lem;
        leads_table_lem = H.leads_table_lem;
        coefficients_table_lem = H.coefficients_table_lem ∙ ap (λ (z : List (List ℕ)). fill 28736 (in_places 64 z)) (rows_only D S L ground.distinct (leads_under s K) css H.rows_are);
      };
      pivot_rows = record {
        long_rows = P.long_rows;
        long_pivots = P.long_pivots;
        multiples = λ t h. subst (λ (z : ℕ). take 1152 (drop (1152 * t) rows) ≡ multiples_of z (take 128 (drop (1152 * t) rows))) (sym ground.modulus) (P.multiples t (rw as_many at h));
        inside = rw as_many P.pivot;
        solves = rw as_many solved;
      };
    }
