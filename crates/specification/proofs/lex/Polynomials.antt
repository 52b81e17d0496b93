-- Elimination under lex: a polynomial whose greatest monomial is without x1 is without x1, so the leading monomials without x1 are those of the points
-- without their first coordinate.
use mathlib.Core.Path.{◌≡◌, refl, sym, ◌∙◌, ap, ap₂, subst}
use mathlib.Core.Logic.{◌↔◌}
use mathlib.Core.Bool.{Bool, cond}
use mathlib.Core.List.{List, [], ◌∷◌}
use Prim.Native.Nat.{ℕ, suc, ◌+◌, ◌*◌}
use native.Mathlib.Omega.{arith}
use Rattle.residue.specs.Congruence.{Mod}
use Rattle.residue.specs.Lists.{Among}
use Rattle.residue.proofs.Congruence.{rfl, of, flip, ◌then◌, ◌plus◌, zero_left}
use Rattle.specification.specs.Space.{Less, Divides}
use Rattle.specification.specs.Polynomial.{Polynomial, hit, eval, coefficient, Vanishes, Leading, Standard, Minimal}
use Rattle.specification.specs.Instance.{Monomial, Point}
use Rattle.specification.proofs.ideal.Laws.{Laws, hit_other}
use Rattle.residue.proofs.Tests.{Decides, so, not_so}
use Rattle.specification.proofs.ideal.Polynomials.{pair, support}
use Rattle.specification.specs.LeaveOut.{is_free}
use Rattle.specification.proofs.lex.Monomials.{with0, rest, Free, free_told, free_is, with0_inj, D, D', shadow, above, less_with0, with0_less, divisor_free, value_with0, hit_with0}

module _ (q m : ℕ) where
  infix 35 ◌≈◌
  abbrev ◌≈◌ : ℕ → ℕ → Type 0
  a ≈ b = Mod (suc q) a b

  -- a polynomial in the other variables, and the terms without x1 of a polynomial
  unfoldable pub embed : Polynomial (D' q m) → Polynomial (D q m)
  embed [] = []
  embed ((c, b) ∷ f) = (c, with0 b) ∷ embed f

  unfoldable pub free_part : Polynomial (D q m) → Polynomial (D' q m)
  free_part [] = []
  free_part ((c, b) ∷ f) = cond (is_free b.0) ((c, rest b) ∷ free_part f) (free_part f)

  eval_embed : (f : Polynomial (D' q m)) (P : Point (suc q) (suc m)) → eval (D q m) (embed f) P ≡ eval (D' q m) f (shadow q m P)
  unfolding embed
  eval_embed [] P = refl
  eval_embed ((c, b) ∷ f) P = ap₂ (λ (u v : ℕ). c * u + v) (value_with0 q m P b) (eval_embed f P)

  coefficient_embed : (f : Polynomial (D' q m)) (a : Monomial m) → coefficient (D q m) (embed f) (with0 a) ≡ coefficient (D' q m) f a
  unfolding embed
  coefficient_embed [] a = refl
  coefficient_embed ((c, b) ∷ f) a = ap₂ (λ (u v : ℕ). c * u + v) (hit_with0 q m a b) (coefficient_embed f a)

  -- the values of the monomials with x1
  above_part : Point (suc q) (suc m) → Monomial (suc m) → ℕ
  above_part P b = cond (is_free b.0) 0 ((D q m).val b P)

  eval_free : (f : Polynomial (D q m)) (P : Point (suc q) (suc m)) → eval (D q m) f P ≡ eval (D' q m) (free_part f) (shadow q m P) + pair (D q m) f (above_part P)
  unfolding free_part above_part
  eval_free [] P = refl
  eval_free ((c, b) ∷ f) P = go (free_told b) (eval_free f P)
    where
      go : {t : Bool} → Decides (Free b) t → eval (D q m) f P ≡ eval (D' q m) (free_part f) (shadow q m P) + pair (D q m) f (above_part P)
          → c * (D q m).val b P + eval (D q m) f P ≡ eval (D' q m) (cond t ((c, rest b) ∷ free_part f) (free_part f)) (shadow q m P) + (c * cond t 0 ((D q m).val b P) + pair (D q m) f (above_part P))
      go (so h) e = let v : (D q m).val b P ≡ (D' q m).val (rest b) (shadow q m P) = ap (λ (a : Monomial (suc m)). (D q m).val a P) (free_is b h) ∙ value_with0 q m P (rest b) in rw v (omega arith)
      go (not_so n) e = omega arith

  module _ (L : Laws (D q m)) where
    embed_off : (f : Polynomial (D' q m)) (b : Monomial (suc m)) → ¬ Free b → coefficient (D q m) (embed f) b ≡ 0
    unfolding embed
    embed_off [] b n = refl
    embed_off ((c, a) ∷ f) b n = rw (hit_other (D q m) L {a = b} {b = with0 a} (λ e. n (subst (λ (d : Monomial (suc m)). Free d) (sym e) refl)), embed_off f b n) (omega arith)

    coefficient_free : (f : Polynomial (D q m)) (a : Monomial m) → coefficient (D' q m) (free_part f) a ≡ coefficient (D q m) f (with0 a)
    unfolding free_part
    coefficient_free [] a = refl
    coefficient_free ((c, b) ∷ f) a = go (free_told b) (coefficient_free f a)
      where
        go : {t : Bool} → Decides (Free b) t → coefficient (D' q m) (free_part f) a ≡ coefficient (D q m) f (with0 a)
            → coefficient (D' q m) (cond t ((c, rest b) ∷ free_part f) (free_part f)) a ≡ c * hit (D q m) (with0 a) b + coefficient (D q m) f (with0 a)
        go (so h) e = ap₂ (λ (u v : ℕ). c * u + v) (sym (ap (hit (D q m) (with0 a)) (free_is b h) ∙ hit_with0 q m a (rest b))) e
        go (not_so n) e = rw (hit_other (D q m) L {a = with0 a} {b = b} (λ u. n (subst (λ (d : Monomial (suc m)). Free d) u refl))) (omega arith)

    -- Where no monomial with x1 has a coefficient, the other terms have all of the value.
    pub eval_same : (f : Polynomial (D q m)) → ((b : Monomial (suc m)) → ¬ Free b → coefficient (D q m) f b ≈ 0) → (P : Point (suc q) (suc m))
        → eval (D q m) f P ≈ eval (D' q m) (free_part f) (shadow q m P)
    unfolding above_part
    eval_same f off P = of (eval_free f P) then rfl plus support (D q m) L f (above_part P) (λ b. go b (free_told b)) then of (omega arith)
      where
        go : {t : Bool} (b : Monomial (suc m)) → Decides (Free b) t → coefficient (D q m) f b * cond t 0 ((D q m).val b P) ≈ 0
        go b (so h) = of (omega arith)
        go b (not_so n) = zero_left (off b n) ((D q m).val b P)

    -- S' holds the points of S without their first coordinates.
    module _ (S : List (Point (suc q) (suc m))) (S' : List (Point (suc q) m)) (down : (P : Point (suc q) (suc m)) → Among P S → Among (shadow q m P) S')
        (up : (R : Point (suc q) m) → Among R S' → (P : Point (suc q) (suc m)) × Among P S × (R ≡ shadow q m P)) where
      -- a polynomial without x1 vanishes at both or at none
      pub vanishes_down : (f : Polynomial (D q m)) → ((b : Monomial (suc m)) → ¬ Free b → coefficient (D q m) f b ≈ 0) → Vanishes (D q m) f S → Vanishes (D' q m) (free_part f) S'
      vanishes_down f off v R mem = let w = up R mem in
          subst (λ (Q : Point (suc q) m). eval (D' q m) (free_part f) Q ≈ 0) (sym w.2) (flip (eval_same f off w.0) then v w.0 w.1)

      pub leading_down : (a : Monomial m) → Leading (D q m) S (with0 a) → Leading (D' q m) S' a
      leading_down a (f, v, g) = (
        free_part f,
        vanishes_down f (λ b n. g.1 b (above q m a b n)) v,
        ((λ z. g.0 (of (sym (coefficient_free f a)) then z)), λ b h. of (coefficient_free f b) then g.1 (with0 b) (less_with0 q m a b h)),
      )

      pub leading_up : (a : Monomial m) → Leading (D' q m) S' a → Leading (D q m) S (with0 a)
      leading_up a (f, v, g) = (
        embed f,
        (λ P mem. of (eval_embed f P) then v (shadow q m P) (down P mem)),
        ((λ z. g.0 (of (sym (coefficient_embed f a)) then z)), λ b h. go b h (free_told b)),
      )
        where
          go : {t : Bool} (b : Monomial (suc m)) → Less (D q m) (with0 a) b → Decides (Free b) t → coefficient (D q m) (embed f) b ≈ 0
          go b h (so z) = of (ap (coefficient (D q m) (embed f)) (free_is b z) ∙ coefficient_embed f (rest b)) then g.1 (rest b) (with0_less q m a (rest b) (subst (Less (D q m) (with0 a)) (free_is b z) h))
          go b h (not_so n) = of (embed_off f b n)

      pub standard_free : (a : Monomial m) → Standard (D q m) S (with0 a) ↔ Standard (D' q m) S' a
      standard_free a = ((λ s l. s (leading_up a l)), λ s l. s (leading_down a l))

      pub minimal_free : (a : Monomial m) → Minimal (D q m) S (with0 a) ↔ Minimal (D' q m) S' a
      minimal_free a = (to, from)
        where
          to : Minimal (D q m) S (with0 a) → Minimal (D' q m) S' a
          to h = (leading_down a h.0, λ b d ne. (standard_free b).0 (h.1 (with0 b) d (λ e. ne (with0_inj e))))

          from : Minimal (D' q m) S' a → Minimal (D q m) S (with0 a)
          from h = (
            leading_up a h.0,
            λ b d ne. let e = free_is b (divisor_free q m b a d) in
                subst (Standard (D q m) S) (sym e) ((standard_free (rest b)).1 (h.1 (rest b) (subst (λ (c : Monomial (suc m)). Divides (D q m) c (with0 a)) e d) (λ u. ne (e ∙ ap with0 u)))),
          )
