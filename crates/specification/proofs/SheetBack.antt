-- The basis is read back from the tables of its points, and its points are read back as points.
use mathlib.Core.Path.{◌≡◌, refl, sym, ◌∙◌, ap, ap₂}
use mathlib.Core.List.{List, [], ◌∷◌, ◌++◌, map}
use Prim.Native.Nat.{ℕ, suc, ◌*◌, ◌≤◌}
use native.Mathlib.Omega.{arith}
use lib.ListN.{length, length-map}
use Rattle.residue.specs.Layout.{groups, fill, in_places}
use Rattle.specification.specs.declared.settings.Settings.{Settings}
use Rattle.specification.specs.BasisOf.{row_of}
use Rattle.specification.specs.Instance.{Monomial, monomial_of}
use Rattle.specification.specs.Tables.{space_under, points_under, standard_under, leads_under, rows_under, row_count, standard_table, leads_table, coefficients_table}
use Rattle.residue.specs.Sizes.{standard_size, leads_size, coefficients_size}
use Rattle.specification.proofs.Instance.{monomial_path}
use Rattle.specification.proofs.ideal.Lists.{among_map}
use Rattle.specification.proofs.ideal.Basis.{interpolant_fits}
use Rattle.specification.specs.Points.{Points}
use Rattle.specification.specs.Settings.{Accepted}
use Rattle.specification.proofs.agreement.Drawings.{laws_under, distinct_points, standard_count, few_rows}
use Rattle.specification.specs.TablesRead.{exponents_in, monomials_in, rows_in}
use Rattle.specification.proofs.TableBack.{table_back}

-- monomials are their exponents
same_monomials : {m : ℕ} (k l : List (Monomial m)) → map (λ a. a.0) k ≡ map (λ a. a.0) l → k ≡ l
same_monomials [] [] e = refl
same_monomials [] (b ∷ l) e = let z : ◌≡◌ {A = ℕ} 0 (suc (length (map (λ a. a.0) l))) = ap length e in absurd (omega arith)
same_monomials (a ∷ k) [] e = let z : ◌≡◌ {A = ℕ} (suc (length (map (λ b. b.0) k))) 0 = ap length e in absurd (omega arith)
same_monomials {m} (a ∷ k) (b ∷ l) e =
    let h : a.0 ≡ b.0 = cc in
    let t : map (λ c. c.0) k ≡ map (λ c. c.0) l = cc in
    ap₂ (λ (c : Monomial m) (n : List (Monomial m)). c ∷ n) (monomial_path h) (same_monomials k l t)

-- the monomials of a table as lists of exponents
pub exponents_in_lem : (m n : ℕ) (table : List ℕ) → map (λ a. a.0) (monomials_in m n table) ≡ exponents_in m n table
unfolding monomial_of
exponents_in_lem m n table = go (groups 8 n table)
  where
    go : (G : List (List ℕ)) → map (λ a. a.0) (map (monomial_of m) G) ≡ map (fill m) G
    go [] = refl
    go (g ∷ G) = ap (λ (l : List (List ℕ)). fill m g ∷ l) (go G)

module _ (s : Settings) (ok : Accepted s) where
  -- a table of monomials
  monomials_back : (size n : ℕ) (l : List (Monomial s.variables)) (behind : List ℕ) → n ≡ length l → 8 * n ≤ size
      → monomials_in s.variables n (fill size (in_places 8 (map (λ a. a.0) l)) ++ behind) ≡ l
  monomials_back size n l behind e room = same_monomials _ l (exponents_in_lem s.variables n (fill size (in_places 8 (map (λ a. a.0) l)) ++ behind)
      ∙ table_back 8 s.variables ok.few size n (map (λ a. a.0) l) behind (e ∙ sym (length-map l _)) room
      (λ r mem. let w = among_map (λ (a : Monomial s.variables). a.0) l r mem in ap length w.2 ∙ w.0.1))

  -- The three tables of points, whatever is behind them.
  module _ (S : List (List ℕ)) (h : Points s S) (behind : List ℕ) where
    many : length (standard_under s S) ≡ length S
    many = standard_count s ok S (distinct_points s ok S h)

    pub standard_back : (n : ℕ) → n ≡ length S → monomials_in s.variables n (standard_table s S ++ behind) ≡ standard_under s S
    unfolding standard_table
    standard_back n e = monomials_back standard_size n (standard_under s S) behind (e ∙ sym many) (omega (arith, h.few))

    pub leads_back : (r : ℕ) → r ≡ row_count s S → monomials_in s.variables r (leads_table s S ++ behind) ≡ leads_under s S
    unfolding leads_table row_count
    leads_back r e = monomials_back leads_size r (leads_under s S) behind e (omega (arith, few_rows s ok S h))

    pub rows_back : (n r : ℕ) → n ≡ length S → r ≡ row_count s S → rows_in n r (coefficients_table s S ++ behind) ≡ rows_under s S
    unfolding coefficients_table row_count
    rows_back n r e f = table_back 64 n (omega (arith, h.few)) coefficients_size r (rows_under s S) behind (f ∙ sym (length-map (leads_under s S) _)) (omega (arith, few_rows s ok S h))
        (λ cs mem. let w = among_map (row_of (space_under s) (points_under s S)) (leads_under s S) cs mem in
        ap length w.2 ∙ (interpolant_fits (space_under s) (laws_under s ok) (points_under s S) (distinct_points s ok S h) _).long ∙ many ∙ sym e)
