-- A sheet names its states (request M-113), by the bytes of its tables. One argument for every order: the three tables of algebra are read back as a basis, and
-- a basis names its points.
use mathlib.Core.Path.{◌≡◌, sym, ◌∙◌, ap, subst}
use mathlib.Core.Logic.{◌↔◌}
use mathlib.Core.List.{List}
use Prim.Native.Nat.{ℕ, suc, ◌-◌}
use Rattle.residue.specs.Lists.{Among}
use Rattle.specification.specs.declared.settings.Settings.{Settings}
use Rattle.specification.specs.Settings.{Accepted}
use Rattle.specification.specs.Polynomial.{Polynomial}
use Rattle.specification.specs.Ideal.{row_polynomials}
use Rattle.specification.specs.Instance.{Monomial, Point, point_of}
use Rattle.specification.specs.Points.{IsPoint}
use Rattle.specification.specs.Tables.{Tables, space_under, points_under, standard_under, leads_under, rows_under, points_in}
use Rattle.specification.specs.TablesRead.{monomials_in, SameAlgebra, SameStates}
use Rattle.specification.specs.SheetNames.{IsSheet, AllZero, rows_lent, RowsZero}
use Rattle.specification.proofs.ideal.Lists.{among_map}
use Rattle.specification.proofs.ideal.Basis.{basis_is}
use Rattle.specification.proofs.ideal.Named.{points_are_zeros}
use Rattle.specification.proofs.agreement.Points.{point_same}
use Rattle.specification.proofs.agreement.Drawings.{laws_under, among_under, distinct_points}
use Rattle.specification.proofs.counted.Held.{points_held}
use Rattle.specification.proofs.CallByCall.{known_basis}
use Rattle.specification.proofs.Sheets.{Sheet, of_holds}
use Rattle.specification.proofs.SheetRead.{standard_in, leads_in, rows_in_lem}

module _ (s : Settings) (ok : Accepted s) where
  abbrev pt : List ℕ → Point (suc (s.modulus - 1)) s.variables
  pt = point_of (s.modulus - 1) s.variables

  -- a point is among others exactly if it is among them under the settings
  among_both : (S : List (List ℕ)) → ((Q : List ℕ) → Among Q S → IsPoint s Q) → (P : List ℕ) → IsPoint s P → Among P S ↔ Among (pt P) (points_under s S)
  among_both S all P h = (among_under s ok S P, from)
    where
      from : Among (pt P) (points_under s S) → Among P S
      from mem =
          let w = among_map pt S (pt P) mem in
          let e : (pt P).0 ≡ (pt w.0).0 = ap (λ (Q : Point (suc (s.modulus - 1)) s.variables). Q.0) w.2 in
          subst (λ (Q : List ℕ). Among Q S) (sym (sym (point_same s ok.few P h) ∙ e ∙ point_same s ok.few w.0 (all w.0 w.1))) w.1

  module _ (n r : ℕ) (t : Tables) (S : List (List ℕ)) (h : Sheet s S n r t) where
    -- the rows by the tables' bytes
    rows_lent_lem : row_polynomials (space_under s) (standard_under s S) (leads_under s S) (rows_under s S) ≡ rows_lent s n r t
    unfolding rows_lent
    rows_lent_lem =
        ap (λ (l : List (Monomial s.variables)). row_polynomials (space_under s) l (leads_under s S) (rows_under s S)) (standard_in s ok n r S t h)
        ∙ ap (λ (l : List (Monomial s.variables)). row_polynomials (space_under s) (monomials_in s.variables n t.standard) l (rows_under s S))
        (leads_in s ok n r S t h)
        ∙ ap (row_polynomials (space_under s) (monomials_in s.variables n t.standard) (monomials_in s.variables r t.leads)) (rows_in_lem s ok n r S t h)

    points_zero : (P : List ℕ) → IsPoint s P → Among P S ↔ RowsZero s n r t P
    unfolding RowsZero
    points_zero P point =
        let a = among_both S h.points.points P point in
        let b = basis_is (space_under s) (laws_under s ok) (points_under s S) (distinct_points s ok S h.points) in
        let z = points_are_zeros (space_under s) (laws_under s ok) (points_under s S) _ _ _ b (pt P) in
        subst (λ (fs : List (Polynomial (space_under s))). Among P S ↔ AllZero (space_under s) fs (pt P)) rows_lent_lem ((λ mem. z.0 (a.0 mem)), λ u. a.1 (z.1 u))

  -- the points of one sheet, by its three tables, are those of another
  within : (n r : ℕ) (t : Tables) (S K : List (List ℕ)) → Sheet s S n r t → Sheet s K n r t → (P : List ℕ) → Among P S → Among P K
  within n r t S K h k P mem = let point = h.points.points P mem in (points_zero n r t K k P point).1 ((points_zero n r t S h P point).0 mem)

-- Lent n, r and tables as a sheet of the states in them.
lent : {s : Settings} {n r : ℕ} {t : Tables} → IsSheet s n r t → Sheet s (points_in s n t.states) n r t
lent {s} {n} {r} {t} h = subst (λ (S : List (List ℕ)). Sheet s S n r t) (points_held s n t)
    (of_holds s h.settings (known_basis s h.settings n r t h.few h.known))

-- Document 02, M-113: 'the states are precisely those at which every row is zero'.
pub sheet_zeros : {s : Settings} {n r : ℕ} {t : Tables} → IsSheet s n r t → (P : List ℕ) → IsPoint s P → Among P (points_in s n t.states) ↔ RowsZero s n r t P
sheet_zeros {s} {n} {r} {t} h = points_zero s h.settings n r t (points_in s n t.states) (lent h)

-- Document 02, M-113: 'under the same settings, two sheets have equal counts of states and rows and equal standard, lead and coefficient tables only when their
-- sets of states are equal, the empty set included'.
pub sheet_names : {s : Settings} {n r n' r' : ℕ} {t t' : Tables} → IsSheet s n r t → IsSheet s n' r' t' → n ≡ n' → r ≡ r' → SameAlgebra t t'
    → SameStates s n t n' t'
sheet_names {s} {n} {r} {n'} {r'} {t} {t'} h h' en er same P =
    (within s h.settings n r t _ _ (lent h) other P, within s h.settings n r t _ _ other (lent h) P)
  where
    -- the other sheet's states by the tables of this
    other : Sheet s (points_in s n' t'.states) n r t
    other = let k = lent h' in record {
      points = k.points;
      count = en ∙ k.count;
      rows = er ∙ k.rows;
      standard = same.standard ∙ k.standard;
      leads = same.leads ∙ k.leads;
      coefficients = same.coefficients ∙ k.coefficients;
    }
