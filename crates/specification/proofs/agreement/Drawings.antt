-- The same points in any order have the same basis, the same remainders and, for values that are equal at each point, the same interpolants.
use mathlib.Core.Path.{◌≡◌, refl, sym, ◌∙◌, ap, subst}
use mathlib.Core.Bool.{true}
use mathlib.Core.List.{List, [], ◌∷◌, zip_with, zip}
use mathlib.Core.Logic.{inl, inr, ◌≢◌}
use Prim.Native.Nat.{ℕ, suc, ◌+◌, ◌-◌, ◌*◌, ◌≤◌}
use native.Mathlib.Nat.{mul-le-mul_left, mul-suc}
use native.Mathlib.Omega.{arith}
use lib.IntN.{ℤ}
use lib.ListN.{length, length-map}
use lib.Dec.{T}
use Rattle.residue.specs.Sizes.{standard_size, leads_size, coefficients_size}
use Rattle.residue.specs.Lists.{Among}
use Rattle.residue.specs.Layout.{length_fill}
use Rattle.residue.specs.Level.{residue_of}
use Rattle.residue.specs.Congruence.{Mod}
use Rattle.residue.proofs.Congruence.{of}
use Rattle.residue.specs.Modulus.{is_modulus}
use Rattle.residue.proofs.level.Moduli.{modulus_range}
use Rattle.residue.proofs.Tests.{cond_so, cond_not}
use Rattle.specification.specs.declared.settings.Settings.{Settings}
use Rattle.specification.specs.Settings.{Accepted}
use Rattle.specification.specs.Levels.{residues, no_repeat, residue_or0}
use Rattle.specification.specs.Polynomial.{Polynomial, Distinct}
use Rattle.specification.specs.BasisOf.{value_at, interpolant_of, remainder_of}
use Rattle.specification.specs.Agreement.{SameValues}
use Rattle.specification.specs.Instance.{Point, point_of}
use Rattle.specification.specs.Tables.{order_under, space_under, points_under, standard_under, leads_under, rows_under, row_count, standard_table, leads_table}
use Rattle.specification.specs.Tables.{coefficients_table}
use Rattle.specification.proofs.Instance.{laws}
use Rattle.specification.proofs.ideal.Laws.{Laws, point_told}
use Rattle.specification.proofs.ideal.Lists.{among_map, map_among}
use Rattle.specification.proofs.ideal.Counts.{standard_length, leads_length}
use Rattle.specification.proofs.ideal.Basis.{interpolant_agree}
use Rattle.specification.proofs.ideal.Permutation.{basis_permuted, interpolant_permuted, remainder_permuted}
use Rattle.specification.specs.Points.{Points, IsPoint}
use Rattle.specification.proofs.agreement.Points.{point_same, once_of}
use Rattle.specification.proofs.agreement.Values.{point_of_lem, value_there}

-- the sizes of the three tables
pub standard_size_lem : (s : Settings) (S : List (List ℕ)) → length (standard_table s S) ≡ standard_size
unfolding standard_table
standard_size_lem s S = length_fill standard_size _

pub leads_size_lem : (s : Settings) (S : List (List ℕ)) → length (leads_table s S) ≡ leads_size
unfolding leads_table
leads_size_lem s S = length_fill leads_size _

pub coefficients_size_lem : (s : Settings) (S : List (List ℕ)) → length (coefficients_table s S) ≡ coefficients_size
unfolding coefficients_table
coefficients_size_lem s S = length_fill coefficients_size _

module _ (s : Settings) (ok : Accepted s) where
  -- the space under these settings obeys the laws
  pub laws_under : Laws (space_under s)
  laws_under = laws (s.modulus - 1) s.variables (order_under s) (subst (λ (p : ℕ). is_modulus p ≡ true) above ok.modulus)
    where
      above : s.modulus ≡ suc (s.modulus - 1)
      above = omega (arith, modulus_range s.modulus ok.modulus)

  -- points under the settings, and their lists
  abbrev pt : List ℕ → Point (suc (s.modulus - 1)) s.variables
  pt = point_of (s.modulus - 1) s.variables

  pub among_under : (K : List (List ℕ)) (P : List ℕ) → Among P K → Among (pt P) (points_under s K)
  among_under K P = map_among pt K P

  pub distinct_under : (K : List (List ℕ)) → ((P : List ℕ) → Among P K → IsPoint s P) → T (no_repeat K) → Distinct (space_under s) (points_under s K)
  distinct_under [] h t = tt
  distinct_under (P ∷ K) h t = (far, distinct_under K (λ Q q. h Q (inr q)) (once_of K P t).1)
    where
      far : (X : Point (suc (s.modulus - 1)) s.variables) → Among X (points_under s K) → pt P ≢ X
      far X q e = let w = among_map pt K X q in
          (once_of K P t).0 w.0 w.1 (sym (point_same s ok.few P (h P (inl refl))) ∙ ap (λ (Z : Point (suc (s.modulus - 1)) s.variables). Z.0) (e ∙ w.2) ∙ point_same s ok.few w.0 (h w.0 (inr w.1)))

  pub distinct_points : (K : List (List ℕ)) → Points s K → Distinct (space_under s) (points_under s K)
  distinct_points K h = distinct_under K h.points h.once

  -- the value handed for a point is the function's value there
  pub value_told : (K : List (List ℕ)) → Distinct (space_under s) (points_under s K) → (v : List ℤ) (P : List ℕ) (y : ℤ) → Among (P, y) (zip K v)
      → value_at (space_under s) (points_under s K) (residues s.modulus v) (pt P) ≡ residue_or0 (residue_of s.modulus y)
  unfolding value_at residues zip zip_with
  value_told (Q ∷ K) d (x ∷ v) P y (inl e) =
      cond_so (point_told (space_under s) laws_under (pt P) (pt Q)) (ap (λ (a : List ℕ × ℤ). pt a.0) e) _ _ ∙ sym (ap (λ (a : List ℕ × ℤ). residue_or0 (residue_of s.modulus a.1)) e)
  value_told (Q ∷ K) d (x ∷ v) P y (inr q) =
      cond_not (point_told (space_under s) laws_under (pt P) (pt Q)) (λ e. d.0 (pt P) (among_under K P (point_of_lem K v P y q)) (sym e)) _ _ ∙ value_told K d.1 v P y q
  value_told [] d v P y x'' = elim x'' [ ]
  value_told (Q ∷ K) d [] P y x4 = elim x4 [ ]

  -- as many standard monomials as points
  pub standard_count : (K : List (List ℕ)) → Distinct (space_under s) (points_under s K) → length (standard_under s K) ≡ length K
  standard_count K d = standard_length (space_under s) laws_under (points_under s K) d ∙ length-map K pt

  -- at most 1 + n(m-1) rows, so at most 449
  pub most_rows_lem : (K : List (List ℕ)) → Points s K → row_count s K ≤ 1 + length K * (s.variables - 1)
  unfolding row_count
  most_rows_lem K h = bound (length (leads_under s K)) (length K) s.variables ok.some
      (subst (λ (n : ℕ). length (leads_under s K) + n ≤ 1 + n * s.variables) (length-map K pt)
      (leads_length (space_under s) laws_under (points_under s K) (distinct_points K h)))
    where
      bound : (r n m : ℕ) → 1 ≤ m → r + n ≤ 1 + n * m → r ≤ 1 + n * (m - 1)
      bound r n (suc m) a c = let d : suc m - 1 ≡ m = omega arith in rw d (omega (arith, mul-suc n m))
      bound r n Prim.Native.Nat.zero a c = elim a [ ]

  pub few_rows : (K : List (List ℕ)) → Points s K → row_count s K ≤ 449
  few_rows K h = bound (row_count s K) (length K) s.variables h.few ok.few (most_rows_lem K h)
    where
      bound : (r n m : ℕ) → n ≤ 64 → m ≤ 8 → r ≤ 1 + n * (m - 1) → r ≤ 449
      bound r n m a b c = let k : n * (m - 1) ≤ n * 7 = mul-le-mul_left n (omega arith) in omega arith

  -- Another arrangement of the same points.
  module _ (L K : List (List ℕ)) (d_l : Distinct (space_under s) (points_under s L)) (d_k : Distinct (space_under s) (points_under s K)) (to : (P : List ℕ) → Among P K → Among P L) (from : (P : List ℕ) → Among P L → Among P K) where
    carried : (A B : List (List ℕ)) → ((P : List ℕ) → Among P A → Among P B) → (X : Point (suc (s.modulus - 1)) s.variables) → Among X (points_under s A) → Among X (points_under s B)
    carried A B f X q = let w = among_map pt A X q in subst (λ (Z : Point (suc (s.modulus - 1)) s.variables). Among Z (points_under s B)) (sym w.2) (among_under B w.0 (f w.0 w.1))

    same_basis : (standard_under s K ≡ standard_under s L) × (leads_under s K ≡ leads_under s L) × (rows_under s K ≡ rows_under s L)
    same_basis = basis_permuted (space_under s) laws_under (points_under s K) (points_under s L) d_k d_l (carried K L to) (carried L K from)

    pub same_rows : row_count s K ≡ row_count s L
    unfolding row_count
    same_rows = ap length same_basis.1

    pub same_length : length K ≡ length L
    same_length = sym (standard_count K d_k) ∙ ap length same_basis.0 ∙ standard_count L d_l

    pub same_remainder : (f : Polynomial (space_under s)) → remainder_of (space_under s) (points_under s K) f ≡ remainder_of (space_under s) (points_under s L) f
    same_remainder = remainder_permuted (space_under s) laws_under (points_under s K) (points_under s L) d_k d_l (carried K L to) (carried L K from)

    -- values that are equal at each point
    pub same_interpolant : (v w : List ℤ) → length v ≡ length K → length w ≡ length L → SameValues s K L v w
        → interpolant_of (space_under s) (points_under s K) (residues s.modulus v) ≡ interpolant_of (space_under s) (points_under s L) (residues s.modulus w)
    same_interpolant v w k l e =
        interpolant_permuted (space_under s) laws_under (points_under s K) (points_under s L) d_k d_l (carried K L to) (carried L K from) φ
        ∙ interpolant_agree (space_under s) laws_under (points_under s L) d_l φ ψ agree
      where
        φ : Point (suc (s.modulus - 1)) s.variables → ℕ
        φ = value_at (space_under s) (points_under s K) (residues s.modulus v)

        ψ : Point (suc (s.modulus - 1)) s.variables → ℕ
        ψ = value_at (space_under s) (points_under s L) (residues s.modulus w)

        agree : (X : Point (suc (s.modulus - 1)) s.variables) → Among X (points_under s L) → Mod (suc (s.modulus - 1)) (φ X) (ψ X)
        agree X q =
            let c = among_map pt L X q in
            let y = value_there K v k c.0 (from c.0 c.1) in
            let z = value_there L w l c.0 c.1 in
            of (ap φ c.2 ∙ value_told K d_k v c.0 y.0 y.1 ∙ ap residue_or0 (e.equal c.0 y.0 z.0 y.1 z.1)
            ∙ sym (ap ψ c.2 ∙ value_told L d_l w c.0 z.0 z.1))

    pub same_standard : standard_table s K ≡ standard_table s L
    unfolding standard_table
    same_standard = rw same_basis.0

    pub same_leads : leads_table s K ≡ leads_table s L
    unfolding leads_table
    same_leads = rw same_basis.1

    pub same_coefficients : coefficients_table s K ≡ coefficients_table s L
    unfolding coefficients_table
    same_coefficients = rw same_basis.2
