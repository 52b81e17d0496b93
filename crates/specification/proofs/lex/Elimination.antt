-- M-110 under lex: the basis of the points without their first coordinates is that part of the old one in which x1 does not occur.
use mathlib.Core.Path.{◌≡◌, refl, sym, ◌∙◌, ap, subst}
use mathlib.Core.Logic.{inl, inr}
use mathlib.Core.Bool.{Bool, true, not, cond, ◌||◌}
use mathlib.Core.List.{List, [], ◌∷◌, map}
use Prim.Native.Nat.{ℕ, suc}
use lib.ListN.{drop}
use Rattle.residue.specs.Lists.{Among}
use Rattle.residue.specs.Modulus.{is_modulus}
use Rattle.monomial.specs.Order.{lex}
use Rattle.specification.specs.Polynomial.{Leading, Distinct}
use Rattle.specification.specs.Basis.{IsBasis}
use Rattle.specification.specs.BasisOf.{standard_of, leads_of, row_of, rows_of}
use Rattle.specification.specs.Instance.{Monomial, Point}
use Rattle.specification.specs.Needed.{occurs}
use Rattle.specification.proofs.Instance.{laws}
use Rattle.specification.proofs.ideal.Laws.{Laws}
use Rattle.residue.proofs.Tests.{Decides, so, not_so}
use Rattle.specification.proofs.ideal.Basis.{basis_is, basis_only}
use Rattle.specification.specs.LeaveOut.{is_free, free_of, free_row, in_row, free_leads, free_rows}
use Rattle.specification.proofs.lex.Monomials.{with0, rest, Free, free_told, free_is, D, D', shadow}
use Rattle.specification.proofs.lex.Polynomials.{standard_free, minimal_free}
use Rattle.specification.proofs.lex.Kept.{exponents, kept, kept_in, kept_of, kept_lists, kept_increasing}
use Rattle.specification.proofs.lex.Rows.{row_free, kept_rows, rows_down}

module _ (q m : ℕ) (p : is_modulus (suc q) ≡ true) (S : List (Point (suc q) (suc m))) (d : Distinct (D q m) S) (S' : List (Point (suc q) m)) (d' : Distinct (D' q m) S')
    (down : (P : Point (suc q) (suc m)) → Among P S → Among (shadow q m P) S')
    (up : (R : Point (suc q) m) → Among R S' → (P : Point (suc q) (suc m)) × Among P S × (R ≡ shadow q m P)) where
  abbrev L : Laws (D q m)
  L = laws q (suc m) lex p

  abbrev l : List (Monomial (suc m))
  l = standard_of (D q m) S

  abbrev B : IsBasis (D q m) S (standard_of (D q m) S) (leads_of (D q m) S) (rows_of (D q m) S)
  B = basis_is (D q m) L S d

  leading : (b : Monomial (suc m)) → Among b (leads_of (D q m) S) → Leading (D q m) S b
  leading b mem = ((B.leads_members b).0 mem).0

  -- by definition
  pub lex_basis : IsBasis (D' q m) S' (kept (standard_of (D q m) S)) (kept (leads_of (D q m) S)) (kept_rows q m S (leads_of (D q m) S))
  lex_basis = record {
    standard_increasing = kept_increasing q m l B.standard_increasing;
    standard_members = λ a. ((λ mem. (standard_free q m L S S' down up a).0 ((B.standard_members (with0 a)).0 (kept_of l a mem))), λ s. kept_in l a ((B.standard_members (with0 a)).1 ((standard_free q m L S S' down up a).1 s)));
    leads_increasing = kept_increasing q m (leads_of (D q m) S) B.leads_increasing;
    leads_members = λ a. ((λ mem. (minimal_free q m L S S' down up a).0 ((B.leads_members (with0 a)).0 (kept_of (leads_of (D q m) S) a mem))), λ s. kept_in (leads_of (D q m) S) a ((B.leads_members (with0 a)).1 ((minimal_free q m L S S' down up a).1 s)));
    rows_are = rows_down q m L S d S' down up (leads_of (D q m) S) leading;
  }

  computed : (kept (standard_of (D q m) S) ≡ standard_of (D' q m) S') × (kept (leads_of (D q m) S) ≡ leads_of (D' q m) S') × (kept_rows q m S (leads_of (D q m) S) ≡ rows_of (D' q m) S')
  computed = basis_only (D' q m) (laws q m lex p) S' d' (kept (standard_of (D q m) S)) (kept (leads_of (D q m) S)) (kept_rows q m S (leads_of (D q m) S)) lex_basis

  -- x1 occurs in a row exactly if it occurs in its lead
  pub occurs_lead : (b : Monomial (suc m)) → Leading (D q m) S b → in_row (exponents l) b.0 (row_of (D q m) S b) ≡ not (is_free b.0)
  unfolding in_row occurs is_free
  occurs_lead b h = go (free_told b)
    where
      go : {t : Bool} → Decides (Free b) t → (not t || occurs 0 (row_of (D q m) S b) (exponents l)) ≡ not t
      go (so z) = ap (λ (a : Monomial (suc m)). occurs 0 (row_of (D q m) S a) (exponents l)) (free_is b z) ∙ row_free q m L S d S' down up (rest b) (subst (Leading (D q m) S) (free_is b z) h)
      go (not_so n) = refl

  free_leads_lem : (leads : List (Monomial (suc m))) → ((b : Monomial (suc m)) → Among b leads → Leading (D q m) S b)
      → exponents (kept leads) ≡ free_leads (exponents l) (exponents leads) (map (row_of (D q m) S) leads)
  unfolding free_leads kept
  free_leads_lem [] h = refl
  free_leads_lem (b ∷ leads) h = go (free_told b) (free_leads_lem leads (λ c mem. h c (inr mem)))
      ∙ sym (ap (λ (t : Bool). cond t (free_leads (exponents l) (exponents leads) (map (row_of (D q m) S) leads)) (drop 1 b.0 ∷ free_leads (exponents l) (exponents leads) (map (row_of (D q m) S) leads))) (occurs_lead b (h b (inl refl))))
    where
      go : {t : Bool} → Decides (Free b) t → exponents (kept leads) ≡ free_leads (exponents l) (exponents leads) (map (row_of (D q m) S) leads)
          → exponents (cond t (rest b ∷ kept leads) (kept leads))
          ≡ cond (not t) (free_leads (exponents l) (exponents leads) (map (row_of (D q m) S) leads)) (drop 1 b.0 ∷ free_leads (exponents l) (exponents leads) (map (row_of (D q m) S) leads))
      go (so z) e = ap (λ (k : List (List ℕ)). drop 1 b.0 ∷ k) e
      go (not_so n) e = e

  free_rows_lem : (leads : List (Monomial (suc m))) → ((b : Monomial (suc m)) → Among b leads → Leading (D q m) S b)
      → kept_rows q m S leads ≡ free_rows (exponents l) (exponents leads) (map (row_of (D q m) S) leads)
  unfolding free_rows kept_rows
  free_rows_lem [] h = refl
  free_rows_lem (b ∷ leads) h = go (free_told b) (free_rows_lem leads (λ c mem. h c (inr mem)))
      ∙ sym (ap (λ (t : Bool). cond t (free_rows (exponents l) (exponents leads) (map (row_of (D q m) S) leads)) (free_row (exponents l) (row_of (D q m) S b) ∷ free_rows (exponents l) (exponents leads) (map (row_of (D q m) S) leads))) (occurs_lead b (h b (inl refl))))
    where
      go : {t : Bool} → Decides (Free b) t → kept_rows q m S leads ≡ free_rows (exponents l) (exponents leads) (map (row_of (D q m) S) leads)
          → cond t (free_row (exponents l) (row_of (D q m) S b) ∷ kept_rows q m S leads) (kept_rows q m S leads)
          ≡ cond (not t) (free_rows (exponents l) (exponents leads) (map (row_of (D q m) S) leads)) (free_row (exponents l) (row_of (D q m) S b) ∷ free_rows (exponents l) (exponents leads) (map (row_of (D q m) S) leads))
      go (so z) e = ap (λ (k : List (List ℕ)). free_row (exponents l) (row_of (D q m) S b) ∷ k) e
      go (not_so n) e = e

  -- Document 02, M-110: 'the new rows and standard monomials are exactly the old ones in which x1 does not occur, in their old order'.
  pub new_standard : exponents (standard_of (D' q m) S') ≡ free_of (exponents (standard_of (D q m) S))
  new_standard = ap exponents (sym computed.0) ∙ kept_lists (standard_of (D q m) S)

  pub new_leads : exponents (leads_of (D' q m) S') ≡ free_leads (exponents (standard_of (D q m) S)) (exponents (leads_of (D q m) S)) (rows_of (D q m) S)
  new_leads = ap exponents (sym computed.1) ∙ free_leads_lem (leads_of (D q m) S) leading

  pub new_rows : rows_of (D' q m) S' ≡ free_rows (exponents (standard_of (D q m) S)) (exponents (leads_of (D q m) S)) (rows_of (D q m) S)
  new_rows = sym computed.2 ∙ free_rows_lem (leads_of (D q m) S) leading
