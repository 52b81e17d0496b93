-- The tables of a drawn-up basis read back as its lists, and what is printed of them: it fits the buffer.
use mathlib.Core.Path.{◌≡◌, sym, ◌∙◌, ap, subst}
use mathlib.Core.Bool.{true}
use mathlib.Core.List.{List, [], map, zip, append-nil}
use Prim.Native.Nat.{ℕ, suc, ◌-◌, ◌*◌, ◌<◌, ◌≤◌}
use native.Mathlib.Omega.{arith}
use lib.ListN.{length, get_or, length-map}
use Rattle.residue.specs.Lists.{Among}
use Rattle.residue.specs.Modulus.{is_modulus}
use Rattle.residue.specs.Vector.{Below}
use Rattle.residue.specs.Layout.{fill, in_places}
use Rattle.residue.proofs.level.Moduli.{modulus_range}
use Rattle.residue.proofs.Tests.{by_test}
use Rattle.specification.specs.declared.settings.Settings.{Settings}
use Rattle.specification.specs.Polynomial.{Distinct}
use Rattle.specification.specs.BasisOf.{basis_of, row_of, interpolant_of}
use Rattle.specification.specs.Instance.{Monomial, Point, point_of}
use Rattle.specification.specs.Tables.{order_under, space_under, points_under, standard_under, leads_under, rows_under, row_count, standard_table, leads_table, coefficients_table}
use Rattle.specification.specs.Needed.{pair_in, wiring_of, Names}
use Rattle.specification.proofs.Instance.{standard_exponent, lead_exponent}
use Rattle.specification.proofs.ideal.Lists.{get_d_among, among_map}
use Rattle.specification.proofs.ideal.Basis.{interpolant_fits}
use Rattle.specification.proofs.ideal.Counts.{standard_length}
use Rattle.specification.specs.Points.{Points}
use Rattle.specification.specs.Settings.{Accepted}
use Rattle.specification.proofs.agreement.Drawings.{laws_under, distinct_points, few_rows}
use Rattle.specification.proofs.Wiring.{names_length, names_are}
use Rattle.printing.specs.Text.{lines_of}
use Rattle.writing.specs.Rows.{in_table}
use Rattle.writing.proofs.TableRows.{table_behind}
use Rattle.printing.proofs.lines.LongestPrint.{Short, EachShort, printed_length}

-- rows of m numbers in the places of a table
table_back : (w N n m : ℕ) (L : List (List ℕ)) → length L ≡ n → w * n ≤ N → m ≤ w → ((a : List ℕ) → Among a L → length a ≡ m) → in_table w n m (fill N (in_places w L)) ≡ L
table_back w N n m L l k h e = ap (in_table w n m) (sym (append-nil (fill N (in_places w L)))) ∙ table_behind w N n m L [] l k h e

below_of : (p : ℕ) (l : List ℕ) → ((c : ℕ) → Among c l → c < p) → Below p l
below_of p l h i k = h (get_or l i 0) (get_d_among l i 0 k)

-- numbers of at most 8 variables
names_below : (m : ℕ) (S : List (List ℕ)) (vs : List ℕ) → m ≤ 8 → Below 10 (wiring_of m S vs)
names_below m S vs h = below_of 10 (wiring_of m S vs) (λ c w. let t = (list.members c).0 w in omega (arith, t.1, t.2))
  where
    list : Names m (λ k. pair_in k (zip S vs) ≡ true) (wiring_of m S vs)
    list = names_are S vs (λ k. pair_in k (zip S vs) ≡ true) (λ k. by_test (pair_in k (zip S vs)) (λ e. e) (λ e. e)) m

module _ (s : Settings) (ok : Accepted s) (S : List (List ℕ)) (h : Points s S) where
  abbrev pub standards : List (List ℕ)
  standards = map (λ a. a.0) (standard_under s S)

  abbrev pub leads : List (List ℕ)
  leads = map (λ a. a.0) (leads_under s S)

  d : Distinct (space_under s) (points_under s S)
  d = distinct_points s ok S h

  prime : is_modulus (suc (s.modulus - 1)) ≡ true
  prime =
      let e : s.modulus ≡ suc (s.modulus - 1) = omega (arith, modulus_range s.modulus ok.modulus) in
      subst (λ (p : ℕ). is_modulus p ≡ true) e ok.modulus

  standard_count : length (standard_under s S) ≡ length S
  standard_count = standard_length (space_under s) (laws_under s ok) (points_under s S) d ∙ length-map S _

  lead_count : length leads ≡ row_count s S
  unfolding row_count
  lead_count = length-map (leads_under s S) _

  row_count_lem : length (rows_under s S) ≡ row_count s S
  unfolding row_count
  row_count_lem = length-map (leads_under s S) _

  -- m exponents
  long : (l : List (Monomial s.variables)) (a : List ℕ) → Among a (map (λ b. b.0) l) → length a ≡ s.variables
  long l a w = let t = among_map (λ (b : Monomial s.variables). b.0) l a w in ap (λ (z : List ℕ). length z) t.2 ∙ t.0.1

  -- n residues
  solved_long : (φ : Point (suc (s.modulus - 1)) s.variables → ℕ) → length ((basis_of (space_under s) (points_under s S)).interpolant φ) ≡ length S
  solved_long φ = (interpolant_fits (space_under s) (laws_under s ok) (points_under s S) d φ).long ∙ standard_count

  solved_short : (φ : Point (suc (s.modulus - 1)) s.variables → ℕ) → Short 64 ((basis_of (space_under s) (points_under s S)).interpolant φ)
  solved_short φ = (
    omega (arith, solved_long φ, h.few),
    below_of 100 ((basis_of (space_under s) (points_under s S)).interpolant φ) (λ c w. omega (arith, (interpolant_fits (space_under s) (laws_under s ok) (points_under s S) d φ).residues c w, modulus_range s.modulus ok.modulus)),
  )

  rows_long : (a : List ℕ) → Among a (rows_under s S) → length a ≡ length S
  rows_long a w =
      let t = among_map (row_of (space_under s) (points_under s S)) (leads_under s S) a w in
      ap (λ (z : List ℕ). length z) t.2 ∙ solved_long _

  -- The tables read back.
  pub standard_back : in_table 8 (length S) s.variables (standard_table s S) ≡ standards
  unfolding standard_table
  standard_back = table_back 8 512 (length S) s.variables standards (length-map (standard_under s S) _ ∙ standard_count) (omega (arith, h.few)) ok.few (long (standard_under s S))

  pub leads_back : in_table 8 (row_count s S) s.variables (leads_table s S) ≡ leads
  unfolding leads_table
  leads_back = table_back 8 3592 (row_count s S) s.variables leads lead_count (omega (arith, few_rows s ok S h)) ok.few (long (leads_under s S))

  pub rows_back : in_table 64 (row_count s S) (length S) (coefficients_table s S) ≡ rows_under s S
  unfolding coefficients_table
  rows_back = table_back 64 28736 (row_count s S) (length S) (rows_under s S) row_count_lem (omega (arith, few_rows s ok S h)) h.few rows_long

  -- What is printed fits.
  standards_short : EachShort 8 standards
  standards_short a w =
      let t = among_map (λ (b : Monomial s.variables). b.0) (standard_under s S) a w in (
        omega (arith, long (standard_under s S) a w, ok.few),
        λ i k. subst (λ (z : List ℕ). get_or z i 0 < 100) (sym t.2)
            (omega (
              arith,
              standard_exponent (s.modulus - 1) s.variables (order_under s) prime (points_under s S) d t.0 t.1 i,
              length-map S (point_of (s.modulus - 1) s.variables),
              h.few,
            )),
      )

  leads_short : EachShort 8 leads
  leads_short a w =
      let t = among_map (λ (b : Monomial s.variables). b.0) (leads_under s S) a w in (
        omega (arith, long (leads_under s S) a w, ok.few),
        λ i k. subst (λ (z : List ℕ). get_or z i 0 < 100) (sym t.2)
            (omega (
              arith,
              lead_exponent (s.modulus - 1) s.variables (order_under s) prime (points_under s S) d t.0 t.1 i,
              length-map S (point_of (s.modulus - 1) s.variables),
              h.few,
            )),
      )

  rows_short : EachShort 64 (rows_under s S)
  rows_short a w =
      let t = among_map (row_of (space_under s) (points_under s S)) (leads_under s S) a w in
      subst (Short 64) (sym t.2) (solved_short _)

  pub names_few : (values : List ℕ) → length (wiring_of s.variables S values) ≤ 8
  names_few values = omega (arith, names_length S values s.variables, ok.few)

  pub lines_length : (values : List ℕ) → length (lines_of s S values) ≤ 102048
  unfolding lines_of
  lines_length values =
      printed_length standards leads (rows_under s S) (interpolant_of (space_under s) (points_under s S) values) (wiring_of s.variables S values)
      (omega (arith, length-map (standard_under s S) (λ (b : Monomial s.variables). b.0), standard_count, h.few))
      (omega (arith, lead_count, few_rows s ok S h))
      standards_short leads_short rows_short (solved_short _) (names_few values, names_below s.variables S values ok.few)
