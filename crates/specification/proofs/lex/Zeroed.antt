-- The coefficients of a combination with 0 for every monomial with x1: what x1 does not occur in, with the value of the terms without x1.
use mathlib.Core.Path.{◌≡◌, refl, ◌∙◌, ap, ap₂}
use mathlib.Core.Logic.{inl, inr}
use mathlib.Core.Bool.{Bool, true, false, not, cond, ◌&&◌, ◌||◌}
use mathlib.Core.List.{List, [], ◌∷◌}
use Prim.Native.Nat.{ℕ, suc, ◌+◌, ◌*◌, ◌<◌}
use native.Mathlib.Nat.{suc_inj}
use native.Mathlib.Omega.{arith}
use lib.ListN.{length}
use lib.Dec.{eqb}
use Rattle.residue.specs.Lists.{Among}
use Rattle.specification.specs.Polynomial.{eval, terms}
use Rattle.specification.specs.Instance.{Monomial, Point}
use Rattle.specification.specs.Needed.{occurs}
use Rattle.residue.proofs.Tests.{Decides, so, not_so}
use Rattle.specification.specs.LeaveOut.{is_free, free_row}
use Rattle.specification.proofs.lex.Monomials.{rest, Free, free_told, free_is, D, D', shadow, value_with0}
use Rattle.specification.proofs.lex.Kept.{exponents, kept}

-- the coefficients with 0 for every monomial with x1
unfoldable pub zeroed : List (List ℕ) → List ℕ → List ℕ
zeroed [] cs = []
zeroed (a ∷ l) [] = []
zeroed (a ∷ l) (c ∷ cs) = cond (is_free a) c 0 ∷ zeroed l cs

module _ {m : ℕ} where
  pub zeroed_length : (l : List (Monomial (suc m))) (cs : List ℕ) → length cs ≡ length l → length (zeroed (exponents l) cs) ≡ length l
  unfolding zeroed
  zeroed_length [] cs e = refl
  zeroed_length (b ∷ l) [] e = absurd (omega arith)
  zeroed_length (b ∷ l) (c ∷ cs) e = ap suc (zeroed_length l cs (suc_inj e))

  pub zeroed_small : (p : ℕ) (l : List (Monomial (suc m))) (cs : List ℕ) → ((c : ℕ) → Among c cs → c < suc p) → (c : ℕ) → Among c (zeroed (exponents l) cs) → c < suc p
  unfolding zeroed
  zeroed_small p [] cs h c mem = absurd mem
  zeroed_small p (b ∷ l) [] h c mem = absurd mem
  zeroed_small p (b ∷ l) (d ∷ cs) h c (inl e) = go (free_told b) e
    where
      go : {t : Bool} → Decides (Free b) t → c ≡ cond t d 0 → c < suc p
      go (so z) u = h c (inl u)
      go (not_so n) u = omega arith
  zeroed_small p (b ∷ l) (d ∷ cs) h c (inr mem) = zeroed_small p l cs (λ x z. h x (inr z)) c mem

  -- x1 does not occur in it
  pub zeroed_free : (l : List (Monomial (suc m))) (cs : List ℕ) → occurs 0 (zeroed (exponents l) cs) (exponents l) ≡ false
  unfolding zeroed occurs is_free
  zeroed_free [] cs = refl
  zeroed_free (b ∷ l) [] = refl
  zeroed_free (b ∷ l) (c ∷ cs) = rw (zeroed_free l cs) (go (free_told b))
    where
      go : {t : Bool} → Decides (Free b) t → ((not (eqb (cond t c 0) 0) && not t) || false) ≡ false
      go (so h) = dead (not (eqb c 0))
        where
          dead : (x : Bool) → ((x && false) || false) ≡ false
          dead true = refl
          dead false = refl
      go (not_so n) = refl

  pub zeroed_value : (q : ℕ) (l : List (Monomial (suc m))) (cs : List ℕ) (P : Point (suc q) (suc m))
      → eval (D q m) (terms (D q m) (zeroed (exponents l) cs) l) P ≡ eval (D' q m) (terms (D' q m) (free_row (exponents l) cs) (kept l)) (shadow q m P)
  unfolding zeroed free_row kept
  zeroed_value q [] [] P = refl
  zeroed_value q [] (c ∷ cs) P = refl
  zeroed_value q (b ∷ l) [] P = refl
  zeroed_value q (b ∷ l) (c ∷ cs) P = go (free_told b) (zeroed_value q l cs P)
    where
      go : {t : Bool} → Decides (Free b) t → eval (D q m) (terms (D q m) (zeroed (exponents l) cs) l) P ≡ eval (D' q m) (terms (D' q m) (free_row (exponents l) cs) (kept l)) (shadow q m P)
          → cond t c 0 * (D q m).val b P + eval (D q m) (terms (D q m) (zeroed (exponents l) cs) l) P
          ≡ eval (D' q m) (terms (D' q m) (cond t (c ∷ free_row (exponents l) cs) (free_row (exponents l) cs)) (cond t (rest b ∷ kept l) (kept l))) (shadow q m P)
      go (so h) e = ap₂ (λ (u v : ℕ). c * u + v) (ap (λ (a : Monomial (suc m)). (D q m).val a P) (free_is b h) ∙ value_with0 q m P (rest b)) e
      go (not_so n) e = omega (arith, e)
