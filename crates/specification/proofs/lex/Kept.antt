-- The monomials without x1 of a list, and their coefficients.
use mathlib.Core.Path.{◌≡◌, refl, sym, ◌∙◌, ap, subst}
use mathlib.Core.Logic.{inl, inr}
use mathlib.Core.Bool.{Bool, cond}
use mathlib.Core.List.{List, [], ◌∷◌, map}
use Prim.Native.Nat.{ℕ, suc}
use native.Mathlib.Nat.{suc_inj}
use native.Mathlib.Omega.{arith}
use lib.ListN.{length, drop}
use Rattle.residue.specs.Lists.{Among}
use Rattle.monomial.specs.Increasing.{Precedes, Increasing}
use Rattle.monomial.proofs.Orders.Increasing.{below_member, member_below}
use Rattle.specification.specs.Polynomial.{terms}
use Rattle.specification.specs.Instance.{Monomial}
use Rattle.specification.proofs.Instance.{monomial_path}
use Rattle.residue.proofs.Tests.{Decides, so, not_so}
use Rattle.specification.specs.LeaveOut.{is_free, free_of, free_row}
use Rattle.specification.proofs.lex.Monomials.{with0, rest, Free, free_told, free_is, with0_inj, D, D', with0_less}
use Rattle.specification.proofs.lex.Polynomials.{free_part}

abbrev pub exponents : {m : ℕ} → List (Monomial m) → List (List ℕ)
exponents l = map (λ a. a.0) l

pub rest_with0 : {m : ℕ} (a : Monomial m) → rest (with0 a) ≡ a
rest_with0 a = monomial_path refl

-- the monomials without x1, x1 taken away
unfoldable pub kept : {m : ℕ} → List (Monomial (suc m)) → List (Monomial m)
kept [] = []
kept (a ∷ l) = cond (is_free a.0) (rest a ∷ kept l) (kept l)

module _ {m : ℕ} where
  pub kept_in : (l : List (Monomial (suc m))) (a : Monomial m) → Among (with0 a) l → Among a (kept l)
  unfolding kept
  kept_in (b ∷ l) a mem = go (free_told b) mem (λ z. kept_in l a z)
    where
      go : {t : Bool} → Decides (Free b) t → Among (with0 a) (b ∷ l) → (Among (with0 a) l → Among a (kept l)) → Among a (cond t (rest b ∷ kept l) (kept l))
      go (so h) (inl e) f = inl (with0_inj (e ∙ free_is b h))
      go (so h) (inr z) f = inr (f z)
      go (not_so n) (inl e) f = absurd (n (subst (λ (c : Monomial (suc m)). Free c) e refl))
      go (not_so n) (inr z) f = f z
  kept_in [] a mem = elim mem [ ]

  pub kept_of : (l : List (Monomial (suc m))) (a : Monomial m) → Among a (kept l) → Among (with0 a) l
  unfolding kept
  kept_of [] a mem = mem
  kept_of (b ∷ l) a mem = go (free_told b) mem (λ z. kept_of l a z)
    where
      go : {t : Bool} → Decides (Free b) t → Among a (cond t (rest b ∷ kept l) (kept l)) → (Among a (kept l) → Among (with0 a) l) → Among (with0 a) (b ∷ l)
      go (so h) (inl e) f = inl (ap with0 e ∙ sym (free_is b h))
      go (so h) (inr z) f = inr (f z)
      go (not_so n) z f = inr (f z)

  -- as lists of exponents
  pub kept_lists : (l : List (Monomial (suc m))) → exponents (kept l) ≡ free_of (exponents l)
  unfolding kept free_of
  kept_lists [] = refl
  kept_lists (b ∷ l) = go (free_told b) (kept_lists l)
    where
      go : {t : Bool} → Decides (Free b) t → exponents (kept l) ≡ free_of (exponents l)
          → exponents (cond t (rest b ∷ kept l) (kept l)) ≡ cond t (drop 1 b.0 ∷ free_of (exponents l)) (free_of (exponents l))
      go (so h) e = ap (λ (z : List (List ℕ)). drop 1 b.0 ∷ z) e
      go (not_so n) e = e

  pub free_row_length : (l : List (Monomial (suc m))) (cs : List ℕ) → length cs ≡ length l → length (free_row (exponents l) cs) ≡ length (kept l)
  unfolding kept free_row
  free_row_length [] cs e = refl
  free_row_length (b ∷ l) [] e = absurd (omega arith)
  free_row_length (b ∷ l) (c ∷ cs) e = go (free_told b) (free_row_length l cs (suc_inj e))
    where
      go : {t : Bool} → Decides (Free b) t → length (free_row (exponents l) cs) ≡ length (kept l)
          → length (cond t (c ∷ free_row (exponents l) cs) (free_row (exponents l) cs)) ≡ length (cond t (rest b ∷ kept l) (kept l))
      go (so h) u = ap suc u
      go (not_so n) u = u

  pub free_row_members : (l : List (Monomial (suc m))) (cs : List ℕ) (c : ℕ) → Among c (free_row (exponents l) cs) → Among c cs
  unfolding free_row
  free_row_members [] cs c mem = absurd mem
  free_row_members (b ∷ l) [] c mem = mem
  free_row_members (b ∷ l) (d ∷ cs) c mem = go (free_told b) mem (λ z. free_row_members l cs c z)
    where
      go : {t : Bool} → Decides (Free b) t → Among c (cond t (d ∷ free_row (exponents l) cs) (free_row (exponents l) cs)) → (Among c (free_row (exponents l) cs) → Among c cs) → Among c (d ∷ cs)
      go (so h) (inl e) f = inl e
      go (so h) (inr z) f = inr (f z)
      go (not_so n) z f = inr (f z)

module _ (q m : ℕ) where
  pub kept_increasing : (l : List (Monomial (suc m))) → Increasing (D q m).cmp l → Increasing (D' q m).cmp (kept l)
  unfolding kept
  kept_increasing [] i = tt
  kept_increasing (b ∷ l) i = go (free_told b) (kept_increasing l i.1)
    where
      go : {t : Bool} → Decides (Free b) t → Increasing (D' q m).cmp (kept l) → Increasing (D' q m).cmp (cond t (rest b ∷ kept l) (kept l))
      go (so h) j = (
        member_below (D' q m).cmp (rest b) (kept l) (λ c mem. with0_less q m (rest b) c
            (below_member (D q m).cmp (with0 (rest b)) l (subst (λ (a : Monomial (suc m)). Precedes (D q m).cmp a l) (free_is b h) i.0) (with0 c) (kept_of l c mem))),
        j,
      )
      go (not_so n) j = j

  -- the terms without x1 of a combination
  pub free_terms : (cs : List ℕ) (l : List (Monomial (suc m))) → free_part q m (terms (D q m) cs l) ≡ terms (D' q m) (free_row (exponents l) cs) (kept l)
  unfolding kept free_row free_part
  free_terms [] [] = refl
  free_terms [] (b ∷ l) = refl
  free_terms (c ∷ cs) [] = refl
  free_terms (c ∷ cs) (b ∷ l) = go (free_told b) (free_terms cs l)
    where
      go : {t : Bool} → Decides (Free b) t → free_part q m (terms (D q m) cs l) ≡ terms (D' q m) (free_row (exponents l) cs) (kept l)
          → cond t ((c, rest b) ∷ free_part q m (terms (D q m) cs l)) (free_part q m (terms (D q m) cs l))
          ≡ terms (D' q m) (cond t (c ∷ free_row (exponents l) cs) (free_row (exponents l) cs)) (cond t (rest b ∷ kept l) (kept l))
      go (so h) e = ap (λ (z : List (ℕ × Monomial m)). (c, rest b) ∷ z) e
      go (not_so n) e = e
