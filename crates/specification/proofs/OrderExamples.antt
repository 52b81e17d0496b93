-- The examples that tell the orders apart. The standard monomials and leads of their points are computed by the examination, which is fast, and are those of
-- the basis (`counted`); the rows that are claimed pass as rows, and there are no others (`basis_only`).
use mathlib.Core.Path.{◌≡◌, refl, sym, ◌∙◌, ap, ap₂}
use mathlib.Core.Bool.{Bool, true, false, ◌&&◌}
use mathlib.Core.List.{List, [], ◌∷◌, map, zip_with}
use mathlib.Core.Logic.{inl, inr}
use Prim.Native.Nat.{ℕ, suc, ◌-◌, ◌%◌, ◌≤◌}
use native.Mathlib.Omega.{arith}
use lib.ListN.{length}
use lib.Dec.{T, eqb, ltb, eqb→eq, ltb→lt}
use Rattle.residue.specs.Lists.{Among, every, all_zero, same_list}
use Rattle.residue.specs.Modulus.{primes, is_one_of, is_modulus}
use Rattle.residue.specs.Inverse.{inverse_below, inverse_of}
use Rattle.residue.specs.Layout.{fill}
use Rattle.residue.proofs.Tests.{and_left, and_right}
use Rattle.residue.proofs.Searches.{each_of}
use Rattle.residue.proofs.bytes.Equality.{same_is}
use Rattle.residue.proofs.Layouts.{fill_exact}
use Rattle.monomial.specs.Order.{order_of, cmp}
use Rattle.specification.specs.declared.settings.Settings.{Settings}
use Rattle.specification.specs.Settings.{Accepted, settings_of}
use Rattle.specification.specs.Levels.{is_among, no_repeat}
use Rattle.specification.specs.Polynomial.{eval, Distinct, terms}
use Rattle.specification.specs.Basis.{Row, Rows, IsBasis}
use Rattle.specification.specs.Extension.{divided}
use Rattle.specification.specs.Cancellations.{less_times, meets, meets_all, first_place, Found, pivot_of, settled, examined, least_due, products_of, next_after}
use Rattle.specification.specs.Cancellations.{examined_from, examined_all}
use Rattle.specification.specs.Instance.{monomial_of, Monomial, Point, reduced, point_of}
use Rattle.specification.specs.Points.{IsPoint}
use Rattle.specification.specs.Tables.{space_under, points_under, standard_under, leads_under, rows_under}
use Rattle.specification.specs.Examples.{Example, Holds, LaidOut, B, lex_standard, lex_leads, lex_rows, grlex_standard, grlex_leads, grlex_rows}
use Rattle.specification.specs.Examples.{grevlex_standard, grevlex_leads, grevlex_rows, order_examples}
use Rattle.specification.proofs.Instance.{monomial_path}
use Rattle.specification.proofs.ideal.Basis.{basis_is, basis_only}
use Rattle.specification.proofs.cancellations.Counted.{Ended, counted}
use Rattle.specification.proofs.agreement.Refusals.{no_weights}
use Rattle.specification.proofs.agreement.Drawings.{laws_under, distinct_under}
use Rattle.specification.proofs.Examples.{each_of as each-example}

module _ (s : Settings) (S : List (List ℕ)) where
  abbrev pts : List (Point (suc (s.modulus - 1)) s.variables)
  pts = points_under s S

  abbrev found : Found (space_under s)
  found = examined_all (space_under s) pts

  -- The tests: m residues each, and none twice.
  are_points : Bool
  are_points = every (λ P. eqb (length P) s.variables && same_list (reduced (s.modulus - 1) P) P) S

  -- Residues, one for each monomial of l, whose combination with a is 0 at each point.
  is_long : List (Monomial s.variables) → List ℕ → Bool
  is_long l cs = eqb (length cs) (length l)

  are_residues : List ℕ → Bool
  are_residues cs = every (λ c. ltb c (suc (s.modulus - 1))) cs

  is_zero : List (Monomial s.variables) → Monomial s.variables → List ℕ → Bool
  is_zero l a cs = every (λ P. eqb (eval (space_under s) ((1, a) ∷ terms (space_under s) cs l) P % suc (s.modulus - 1)) (0 % suc (s.modulus - 1))) pts

  are_rows : List (Monomial s.variables) → List (Monomial s.variables) → List (List ℕ) → Bool
  are_rows l [] [] = true
  are_rows l [] (r ∷ rs) = false
  are_rows l (a ∷ leads) [] = false
  are_rows l (a ∷ leads) (r ∷ rs) = (is_long l r && (are_residues r && is_zero l a r)) && are_rows l leads rs

  points_told : T are_points → (P : List ℕ) → Among P S → IsPoint s P
  unfolding are_points
  points_told t P q =
      let w = each_of _ S t P q in
      let long = and_left (eqb (length P) s.variables) (same_list (reduced (s.modulus - 1) P) P) w in
      record {
        long = eqb→eq (length P) s.variables long;
        same = same_is (reduced (s.modulus - 1) P) P (and_right (eqb (length P) s.variables) (same_list (reduced (s.modulus - 1) P) P) w);
      }

  row_told : (l : List (Monomial s.variables)) (a : Monomial s.variables) (r : List ℕ) → T (is_long l r && (are_residues r && is_zero l a r))
      → Row (space_under s) pts l a r
  unfolding is_long are_residues is_zero
  row_told l a r t =
      let u = and_right (is_long l r) (are_residues r && is_zero l a r) t in record {
        long = eqb→eq (length r) (length l) (and_left (is_long l r) (are_residues r && is_zero l a r) t);
        residues = λ c q. ltb→lt c _ (each_of _ r (and_left (are_residues r) (is_zero l a r) u) c q);
        vanishes = λ P q. record { same = eqb→eq _ _ (each_of _ pts (and_right (are_residues r) (is_zero l a r) u) P q) };
      }

  rows_told : (l leads : List (Monomial s.variables)) (rows : List (List ℕ)) → T (are_rows l leads rows) → Rows (space_under s) pts l leads rows
  unfolding are_rows
  rows_told l [] [] t = tt
  rows_told l [] (r ∷ rs) t = absurd t
  rows_told l (a ∷ leads) [] t = absurd t
  rows_told l (a ∷ leads) (r ∷ rs) t = let f = is_long l r && (are_residues r && is_zero l a r) in
      (row_told l a r (and_left f (are_rows l leads rs) t), rows_told l leads rs (and_right f (are_rows l leads rs) t))

  -- monomials are their exponents
  abbrev monomials : List (List ℕ) → List (Monomial s.variables)
  monomials l = map (monomial_of s.variables) l

  exponents : (l : List (Monomial s.variables)) → l ≡ monomials (map (λ a. a.0) l)
  unfolding monomial_of
  exponents [] = refl
  exponents (a ∷ l) = ap₂ (λ (b : Monomial s.variables) (k : List (Monomial s.variables)). b ∷ k)
      (monomial_path (sym (fill_exact s.variables a.0 a.1))) (exponents l)

  laid_out : Accepted s → T are_points → T (no_repeat S) → (standard leads rows : List (List ℕ)) → map (λ a. a.0) found.standard ≡ standard
      → map (λ a. a.0) found.leads ≡ leads → T (are_rows (monomials standard) (monomials leads) rows) → LaidOut s S standard leads rows
  laid_out ok t u standard leads rows a b c = record {
    standard_are = ap (map (λ a. a.0)) (sym end.standard_are) ∙ a;
    leads_are = ap (map (λ a. a.0)) (sym end.leads_are) ∙ b;
    rows_are = sym (basis_only (space_under s) (laws_under s ok) pts distinct (standard_under s S) (leads_under s S) rows is).2;
  }
    where
      distinct : Distinct (space_under s) pts
      distinct = distinct_under s ok S (points_told t) u

      end : Ended (space_under s) (laws_under s ok) pts distinct found
      end = counted (space_under s) (laws_under s ok) pts distinct

      computed : IsBasis (space_under s) pts (standard_under s S) (leads_under s S) (rows_under s S)
      computed = basis_is (space_under s) (laws_under s ok) pts distinct

      is : IsBasis (space_under s) pts (standard_under s S) (leads_under s S) rows
      is = record {
        standard_increasing = computed.standard_increasing;
        standard_members = computed.standard_members;
        leads_increasing = computed.leads_increasing;
        leads_members = computed.leads_members;
        rows_are = rw (sym end.standard_are ∙ exponents found.standard ∙ ap monomials a, sym end.leads_are ∙ exponents found.leads ∙ ap monomials b)
            (rows_told (monomials standard) (monomials leads) rows c);
      }

-- The points B under one order.
module _ (order : ℕ) (h : order ≤ 2) where
  abbrev s₃ : Settings
  s₃ = settings_of 3 3 order

  taken : Accepted s₃
  unfolding primes is_one_of is_modulus
  taken = record { modulus = refl; some = omega arith; few = omega arith; order = omega (arith, h); weights = no_weights 3 3 order h }

  under : (standard leads rows : List (List ℕ)) → map (λ a. a.0) (found s₃ B).standard ≡ standard → map (λ a. a.0) (found s₃ B).leads ≡ leads
      → T (are_rows s₃ B (monomials s₃ B standard) (monomials s₃ B leads) rows)
      → (o : ℕ) → Among o (order ∷ []) → LaidOut (settings_of 3 3 o) B standard leads rows
  unfolding are_points no_repeat is_among same_list
  under standard leads rows a b c o (inl e) = rw e (laid_out s₃ B taken tt tt standard leads rows a b c)
  under standard leads rows a b c o (inr q) = absurd q

lex_found : let f = found (settings_of 3 3 0) B in (map (λ a. a.0) f.standard ≡ lex_standard) × (map (λ a. a.0) f.leads ≡ lex_leads)
unfolding less_times meets meets_all all_zero first_place pivot_of settled examined least_due products_of next_after examined_from examined_all divided primes is_one_of
    is_modulus inverse_below inverse_of order_of cmp fill point_of zip_with same_list
lex_found = (refl, refl)

lex_rows_lem : T (are_rows (settings_of 3 3 0) B (monomials (settings_of 3 3 0) B lex_standard) (monomials (settings_of 3 3 0) B lex_leads) lex_rows)
unfolding is_long are_residues is_zero are_rows monomial_of fill point_of
lex_rows_lem = tt

grlex_found : let f = found (settings_of 3 3 1) B in (map (λ a. a.0) f.standard ≡ grlex_standard) × (map (λ a. a.0) f.leads ≡ grlex_leads)
unfolding less_times meets meets_all all_zero first_place pivot_of settled examined least_due products_of next_after examined_from examined_all divided primes is_one_of
    is_modulus inverse_below inverse_of order_of cmp fill point_of zip_with same_list
grlex_found = (refl, refl)

grlex_rows_lem : T (are_rows (settings_of 3 3 1) B (monomials (settings_of 3 3 1) B grlex_standard) (monomials (settings_of 3 3 1) B grlex_leads) grlex_rows)
unfolding is_long are_residues is_zero are_rows monomial_of fill point_of
grlex_rows_lem = tt

grevlex_found : let f = found (settings_of 3 3 2) B in (map (λ a. a.0) f.standard ≡ grevlex_standard) × (map (λ a. a.0) f.leads ≡ grevlex_leads)
unfolding less_times meets meets_all all_zero first_place pivot_of settled examined least_due products_of next_after examined_from examined_all divided primes is_one_of
    is_modulus inverse_below inverse_of order_of cmp fill point_of zip_with same_list
grevlex_found = (refl, refl)

grevlex_rows_lem : T (are_rows (settings_of 3 3 2) B (monomials (settings_of 3 3 2) B grevlex_standard) (monomials (settings_of 3 3 2) B grevlex_leads) grevlex_rows)
unfolding is_long are_residues is_zero are_rows monomial_of fill point_of
grevlex_rows_lem = tt

pub every_order_example : (e : Example) → Among e order_examples → Holds e
unfolding order_examples Holds
every_order_example = each-example order_examples (
  under 0 (omega arith) _ _ _ lex_found.0 lex_found.1 lex_rows_lem,
  (
    under 1 (omega arith) _ _ _ grlex_found.0 grlex_found.1 grlex_rows_lem,
    (under 2 (omega arith) _ _ _ grevlex_found.0 grevlex_found.1 grevlex_rows_lem, tt),
  ),
)
