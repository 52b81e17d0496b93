-- The zero set: a point at which every row vanishes is one of the points.
use mathlib.Core.Path.{◌≡◌, refl, sym, subst}
use mathlib.Core.List.{List, [], ◌∷◌}
use mathlib.Core.Logic.{inl, inr, ◌≢◌}
use Prim.Native.Nat.{ℕ, suc, ◌+◌, ◌*◌, ◌<◌}
use native.Mathlib.Omega.{arith}
use Rattle.residue.specs.Congruence.{Mod}
use Rattle.residue.specs.Lists.{Among}
use Rattle.residue.proofs.Congruence.{of, flip, ◌then◌, scale, zero_left, zero_right, lin, ring}
use Rattle.residue.proofs.Sums.{each, sum_cong, sum_zero}
use Rattle.residue.proofs.Tests.{dec_of}
use Rattle.specification.specs.Space.{Space}
use Rattle.specification.specs.Polynomial.{Polynomial, eval, Vanishes}
use Rattle.specification.proofs.ideal.Laws.{Laws, point_told}
use Rattle.specification.proofs.ideal.Newton.{cancel}
use Rattle.specification.proofs.ideal.Staircase.{Staircase, Holds, expand, transfer, normal_form}

module _ (D : Space) (L : Laws D) where
  open D use {q, m, Mono, Pt, one, x, val, coord}
  open L use {one_not_zero, val_one, val_x, differ}

  infix 35 ◌≈◌
  abbrev ◌≈◌ : ℕ → ℕ → Type 0
  a ≈ b = Mod (suc q) a b

  -- (x k + c) f
  binomial : ℕ → ℕ → Polynomial D → Polynomial D
  binomial k c [] = []
  binomial k c ((d, a) ∷ f) = (d, x k a) ∷ (c * d, a) ∷ binomial k c f

  eval_binomial : (k c : ℕ) (f : Polynomial D) (P : Pt) → k < m → eval D (binomial k c f) P ≡ (coord k P + c) * eval D f P
  unfolding binomial
  eval_binomial k c [] P hk = omega arith
  eval_binomial k c ((d, a) ∷ f) P hk = let e : eval D (binomial k c f) P ≡ (coord k P + c) * eval D f P = eval_binomial k c f P hk in rw (val_x k a P hk) (omega arith)

  -- a polynomial that is zero at the points of S and not at P
  separator : (P : Pt) (S : List Pt) → ((Q : Pt) → Among Q S → P ≢ Q) → (f : Polynomial D) × Vanishes D f S × (¬ (eval D f P ≈ 0))
  separator P [] h = ((1, one) ∷ [], (λ Q mem. absurd mem), λ z. one_not_zero (of (rw (val_one P)) then z))
  separator P (Q ∷ S) h = go (separator P S (λ R mem. h R (inr mem))) (differ P Q (h Q (inl refl)))
    where
      go : (f : Polynomial D) × Vanishes D f S × (¬ (eval D f P ≈ 0)) → (k : ℕ) × (k < m) × ¬ (coord k P ≈ coord k Q) → (f : Polynomial D) × Vanishes D f (Q ∷ S) × (¬ (eval D f P ≈ 0))
      go (f, v, ne) (k, hk, far) = (
        binomial k c f,
        each S (of (eval_binomial k c f Q hk) then ring 0 (coord k Q * eval D f Q) (omega arith)) (λ R mem. of (eval_binomial k c f R hk) then zero_right (coord k R + c) (v R mem)),
        λ z. far (lin (cancel D L (coord k P + c) (eval D f P) ne (of (sym (eval_binomial k c f P hk)) then z)) (coord k Q) 0 (omega arith)),
      )
        where
          c : ℕ
          c = q * coord k Q

  pub vanish_all : (S : List Pt) (l leads : List Mono) (N : (Pt → ℕ) → Mono → ℕ) (T : Staircase D S l leads N) (Q : Pt) → ((a : Mono) → Among a leads → Holds D l N Q a)
      → (f : Polynomial D) → Vanishes D f S → eval D f Q ≈ 0
  vanish_all S l leads N T Q h f v =
      sum_cong f (λ s _. scale s.0 (normal_form D L S l leads N T Q s.1 (λ b mem _. h b mem))) then flip (expand D (λ (s : ℕ × Mono). s.0) (λ s. N (val s.1)) f l Q)
      then sum_zero l (λ t mem. zero_left (transfer D L S l N T.base T.increasing f v t mem) (val t Q))

  point? : (P : Pt) (S : List Pt) → Dec (Among P S)
  point? P [] = no (λ mem. mem)
  point? P (R ∷ S) = pick (dec_of (point_told D L P R)) (point? P S)
    where
      pick : Dec (P ≡ R) → Dec (Among P S) → Dec (Among P (R ∷ S))
      pick (yes e) d = yes (inl e)
      pick (no e) (yes mem) = yes (inr mem)
      pick (no e) (no mem) = no (λ z. elim z [ inl u ↦ e u | inr u ↦ mem u ])

  -- Where every polynomial vanishes that vanishes at the points of S, there is one of them.
  pub closed : (S : List Pt) (P : Pt) → ((f : Polynomial D) → Vanishes D f S → eval D f P ≈ 0) → Among P S
  closed S P h = go (point? P S)
    where
      go : Dec (Among P S) → Among P S
      go (yes mem) = mem
      go (no mem) = let s = separator P S (λ R z e. mem (subst (λ (w : Pt). Among w S) (sym e) z)) in absurd (s.2 (h s.0 s.1))

  -- The rows vanish together at the points alone.
  pub zeros : (S : List Pt) (l leads : List Mono) (N : (Pt → ℕ) → Mono → ℕ) (T : Staircase D S l leads N) (Q : Pt) → ((a : Mono) → Among a leads → Holds D l N Q a) → Among Q S
  zeros S l leads N T Q h = closed S Q (vanish_all S l leads N T Q h)
