-- The ideal that polynomials generate: it has their multiples and sums, and vanishes where they do.
use mathlib.Core.Path.{◌≡◌, refl, sym, ◌∙◌, ap}
use mathlib.Core.List.{List, [], ◌∷◌, ◌++◌}
use mathlib.Core.Logic.{inl, inr}
use Prim.Native.Nat.{ℕ, suc, ◌+◌, ◌*◌}
use native.Mathlib.Omega.{arith}
use Rattle.residue.specs.Congruence.{Mod}
use Rattle.residue.specs.Lists.{Among}
use Rattle.residue.proofs.Congruence.{rfl, of, flip, ◌then◌, ◌plus◌, zero_left, lin}
use Rattle.residue.proofs.Sums.{sum_append}
use Rattle.specification.specs.Space.{Space}
use Rattle.specification.specs.Polynomial.{Polynomial, hit, coefficient, Vanishes}
use Rattle.specification.specs.Ideal.{Variable, multiple, Factor, multiplied, combination, Generated}
use Rattle.specification.proofs.ideal.Laws.{Laws}
use Rattle.specification.proofs.ideal.Polynomials.{pair, support}
use Rattle.specification.proofs.ideal.Multiples.{multiple_pair, multiple_vanishes}

module _ (D : Space) where
  open D use {q, Mono, Pt, val}

  infix 35 ◌≈◌
  abbrev ◌≈◌ : ℕ → ℕ → Type 0
  a ≈ b = Mod (suc q) a b

  pub pair_append : (f g : Polynomial D) (φ : Mono → ℕ) → pair D (f ++ g) φ ≡ pair D f φ + pair D g φ
  pair_append f g φ = sum_append (λ (t : ℕ × Mono). t.0 * φ t.1) f g

  -- sums of factors, one after the other
  added : List (Factor D) → List (Factor D) → List (Factor D)
  added [] gs = gs
  added (h ∷ hs) [] = h ∷ hs
  added (h ∷ hs) (g ∷ gs) = (h ++ g) ∷ added hs gs

  product_sum : (h g : Factor D) (f : Polynomial D) (φ : Mono → ℕ) → pair D (multiplied D (h ++ g) f) φ ≡ pair D (multiplied D h f) φ + pair D (multiplied D g f) φ
  product_sum [] g f φ = omega arith
  product_sum (t ∷ h) g f φ = omega (
    arith,
    pair_append (multiple D t.0 t.1 f) (multiplied D (h ++ g) f) φ,
    pair_append (multiple D t.0 t.1 f) (multiplied D h f) φ,
    product_sum h g f φ,
  )

  combination_sum : (hs gs : List (Factor D)) (fs : List (Polynomial D)) (φ : Mono → ℕ)
      → pair D (combination D (added hs gs) fs) φ ≡ pair D (combination D hs fs) φ + pair D (combination D gs fs) φ
  unfolding added
  combination_sum [] gs fs φ = omega arith
  combination_sum (h ∷ hs) [] fs φ = omega arith
  combination_sum (h ∷ hs) (g ∷ gs) [] φ = refl
  combination_sum (h ∷ hs) (g ∷ gs) (f ∷ fs) φ = omega (
    arith,
    pair_append (multiplied D (h ++ g) f) (combination D (added hs gs) fs) φ,
    pair_append (multiplied D h f) (combination D hs fs) φ,
    pair_append (multiplied D g f) (combination D gs fs) φ,
    product_sum h g f φ,
    combination_sum hs gs fs φ,
  )

  pub generated_sum : (fs : List (Polynomial D)) (f g : Polynomial D) → Generated D fs f → Generated D fs g → Generated D fs (f ++ g)
  generated_sum fs f g (hs, u) (gs, v) = (added hs gs, λ a. of (pair_append f g (hit D a)) then u a plus v a then of (sym (combination_sum hs gs fs (hit D a))))

  pub generated_multiple : (c : ℕ) (vs : List (Variable D)) (fs : List (Polynomial D)) (f : Polynomial D) → Among f fs → Generated D fs (multiple D c vs f)
  generated_multiple c vs (g ∷ fs) f (inl e) = (((c, vs) ∷ []) ∷ [], λ a. of (ap (λ (h : Polynomial D). coefficient D (multiple D c vs h) a) e ∙ alone a))
    where
      alone : (a : Mono) → coefficient D (multiple D c vs g) a ≡ coefficient D (combination D (((c, vs) ∷ []) ∷ []) (g ∷ fs)) a
      alone a = omega (arith, pair_append (multiple D c vs g ++ []) [] (hit D a), pair_append (multiple D c vs g) [] (hit D a))
  generated_multiple c vs (g ∷ fs) f (inr mem) = let t = generated_multiple c vs fs f mem in ([] ∷ t.0, t.1)
  generated_multiple c vs [] f x' = elim x' [ ]

  pub generated_same : (fs : List (Polynomial D)) (f g : Polynomial D) → ((a : Mono) → coefficient D g a ≈ coefficient D f a) → Generated D fs f → Generated D fs g
  generated_same fs f g e (hs, u) = (hs, λ a. e a then u a)

  module _ (L : Laws D) where
    -- polynomials of the same coefficients have the same values
    same_values : (f g : Polynomial D) → ((a : Mono) → coefficient D f a ≈ coefficient D g a) → (φ : Mono → ℕ) → pair D f φ ≈ pair D g φ
    same_values f g e φ = lin (flip (of (split φ)) then support D L (f ++ multiple D q [] g) φ (λ a. zero_left (of (split (hit D a)) then lin (e a) 0 (coefficient D g a) (omega arith)) (φ a))) (pair D g φ) 0 (omega arith)
      where
        split : (ψ : Mono → ℕ) → pair D (f ++ multiple D q [] g) ψ ≡ pair D f ψ + q * pair D g ψ
        split ψ = pair_append f (multiple D q [] g) ψ ∙ ap (λ (z : ℕ). pair D f ψ + z) (multiple_pair D q [] g ψ)

    module _ (S : List Pt) where
      pub sum_vanishes : (f g : Polynomial D) → Vanishes D f S → Vanishes D g S → Vanishes D (f ++ g) S
      sum_vanishes f g u v P mem = of (pair_append f g (λ a. val a P)) then u P mem plus v P mem

      product_vanishes : (h : Factor D) (f : Polynomial D) → Vanishes D f S → Vanishes D (multiplied D h f) S
      product_vanishes [] f v = λ P mem. rfl
      product_vanishes (t ∷ h) f v = sum_vanishes (multiple D t.0 t.1 f) (multiplied D h f) (multiple_vanishes D L t.0 t.1 f S v) (product_vanishes h f v)

      combination_vanishes : (hs : List (Factor D)) (fs : List (Polynomial D)) → ((f : Polynomial D) → Among f fs → Vanishes D f S) → Vanishes D (combination D hs fs) S
      combination_vanishes [] fs v = λ P mem. rfl
      combination_vanishes (h ∷ hs) [] v = λ P mem. rfl
      combination_vanishes (h ∷ hs) (f ∷ fs) v =
          sum_vanishes (multiplied D h f) (combination D hs fs) (product_vanishes h f (v f (inl refl))) (combination_vanishes hs fs (λ g z. v g (inr z)))

      pub generated_vanishes : (fs : List (Polynomial D)) (f : Polynomial D) → ((g : Polynomial D) → Among g fs → Vanishes D g S) → Generated D fs f → Vanishes D f S
      generated_vanishes fs f v (hs, e) P mem = same_values f (combination D hs fs) e (λ a. val a P) then combination_vanishes hs fs v P mem
