-- The rows whose lead is without x1: x1 does not occur in them, and they are the rows of the points without their first coordinates.
use mathlib.Core.Path.{◌≡◌, refl, sym, ◌∙◌, ap, ap₂, subst}
use mathlib.Core.Logic.{inl, inr}
use mathlib.Core.Bool.{Bool, false, cond}
use mathlib.Core.List.{List, [], ◌∷◌}
use Prim.Native.Nat.{ℕ, suc, ◌+◌, ◌*◌}
use Rattle.residue.specs.Congruence.{Mod}
use Rattle.residue.specs.Lists.{Among}
use Rattle.residue.proofs.Congruence.{of, ◌then◌}
use Rattle.specification.specs.Polynomial.{Polynomial, eval, coefficient, Leading, Distinct, terms}
use Rattle.specification.specs.Basis.{Row, Rows}
use Rattle.specification.specs.BasisOf.{standard_of, row_of}
use Rattle.specification.specs.Instance.{Monomial, Point}
use Rattle.specification.specs.Needed.{occurs}
use Rattle.specification.proofs.ideal.Laws.{Laws}
use Rattle.residue.proofs.Tests.{Decides, so, not_so}
use Rattle.specification.proofs.ideal.Basis.{standard_iff, row_is, row_only, row_smaller}
use Rattle.specification.specs.LeaveOut.{is_free, free_row}
use Rattle.specification.proofs.lex.Monomials.{with0, rest, Free, free_told, free_is, D, D', shadow, above, value_with0}
use Rattle.specification.proofs.lex.Polynomials.{free_part, vanishes_down}
use Rattle.specification.proofs.lex.Kept.{exponents, rest_with0, kept, free_row_length, free_row_members, free_terms}
use Rattle.specification.proofs.lex.Zeroed.{zeroed, zeroed_length, zeroed_small, zeroed_free, zeroed_value}

module _ (q m : ℕ) where
  -- the terms without x1 of a lead with a combination
  free_poly : (a : Monomial m) (f : Polynomial (D q m)) → free_part q m ((1, with0 a) ∷ f) ≡ (1, a) ∷ free_part q m f
  unfolding free_part is_free
  free_poly a f = ap (λ (b : Monomial m). (1, b) ∷ free_part q m f) (rest_with0 a)

  -- the rows of the leads without x1
  unfoldable pub kept_rows : List (Point (suc q) (suc m)) → List (Monomial (suc m)) → List (List ℕ)
  kept_rows S [] = []
  kept_rows S (b ∷ leads) = cond (is_free b.0) (free_row (exponents (standard_of (D q m) S)) (row_of (D q m) S b) ∷ kept_rows S leads) (kept_rows S leads)

  module _ (L : Laws (D q m)) (S : List (Point (suc q) (suc m))) (d : Distinct (D q m) S) (S' : List (Point (suc q) m))
      (down : (P : Point (suc q) (suc m)) → Among P S → Among (shadow q m P) S')
      (up : (R : Point (suc q) m) → Among R S' → (P : Point (suc q) (suc m)) × Among P S × (R ≡ shadow q m P)) where
    abbrev l : List (Monomial (suc m))
    l = standard_of (D q m) S

    module _ (a : Monomial m) (out : Leading (D q m) S (with0 a)) where
      abbrev cs : List ℕ
      cs = row_of (D q m) S (with0 a)

      old : Row (D q m) S l (with0 a) cs
      old = row_is (D q m) L S d (with0 a)

      -- its monomials are smaller than the lead, so without x1
      off : (b : Monomial (suc m)) → ¬ Free b → Mod (suc q) (coefficient (D q m) ((1, with0 a) ∷ terms (D q m) cs l) b) 0
      off b n = (row_smaller (D q m) L S d (with0 a) (λ mem. (standard_iff (D q m) L S d (with0 a)).0 mem out)).1 b (above q m a b n)

      pub row_down : Row (D' q m) S' (kept l) a (free_row (exponents l) cs)
      row_down = record {
        long = free_row_length l cs old.long;
        residues = λ c mem. old.residues c (free_row_members l cs c mem);
        vanishes = subst (λ (f : Polynomial (D' q m)). (P : Point (suc q) m) → Among P S' → Mod (suc q) (eval (D' q m) f P) 0)
            (free_poly a (terms (D q m) cs l) ∙ ap (λ (f : Polynomial (D' q m)). (1, a) ∷ f) (free_terms q m cs l))
            (vanishes_down q m L S S' down up ((1, with0 a) ∷ terms (D q m) cs l) off old.vanishes);
      }

      -- with 0 for every monomial with x1 it is a row too, so it is that row
      cut : Row (D q m) S l (with0 a) (zeroed (exponents l) cs)
      cut = record {
        long = zeroed_length l cs old.long;
        residues = zeroed_small q l cs old.residues;
        vanishes = λ P mem. of (ap₂ (λ (u v : ℕ). 1 * u + v) (value_with0 q m P a) (zeroed_value q l cs P)) then row_down.vanishes (shadow q m P) (down P mem);
      }

      pub row_free : occurs 0 cs (exponents l) ≡ false
      row_free = ap (λ (z : List ℕ). occurs 0 z (exponents l)) (sym (row_only (D q m) L S d (with0 a) (zeroed (exponents l) cs) cut)) ∙ zeroed_free l cs

    pub rows_down : (leads : List (Monomial (suc m))) → ((b : Monomial (suc m)) → Among b leads → Leading (D q m) S b) → Rows (D' q m) S' (kept l) (kept leads) (kept_rows S leads)
    unfolding kept kept_rows
    rows_down [] h = tt
    rows_down (b ∷ leads) h = go (free_told b) (rows_down leads (λ c mem. h c (inr mem)))
      where
        go : {t : Bool} → Decides (Free b) t → Rows (D' q m) S' (kept l) (kept leads) (kept_rows S leads)
            → Rows (D' q m) S' (kept l) (cond t (rest b ∷ kept leads) (kept leads)) (cond t (free_row (exponents l) (row_of (D q m) S b) ∷ kept_rows S leads) (kept_rows S leads))
        go (so z) r = (
          subst (λ (c : Monomial (suc m)). Row (D' q m) S' (kept l) (rest b) (free_row (exponents l) (row_of (D q m) S c))) (sym (free_is b z))
              (row_down (rest b) (subst (Leading (D q m) S) (free_is b z) (h b (inl refl)))),
          r,
        )
        go (not_so n) r = r
