-- Interpolation: monomials whose combinations take any values at the points, in one way only, and Newton's step to one point more.
use mathlib.Core.Path.{◌≡◌, refl, sym, ap}
use mathlib.Core.List.{List, ◌∷◌}
use mathlib.Core.Logic.{◌⊎◌, inl, inr}
use Prim.Native.Nat.{ℕ, suc, ◌+◌, ◌*◌}
use native.Mathlib.Omega.{arith}
use Rattle.residue.specs.Congruence.{Mod}
use Rattle.residue.specs.Lists.{Among, sum_over}
use Rattle.residue.proofs.Congruence.{rfl, of, flip, ◌then◌, ◌plus◌, ◌times◌, scale, zero_left, lin}
use Rattle.residue.proofs.Sums.{each, sum_cong, sum_zero, sum_lin}
use Rattle.specification.specs.Space.{Space}
use Rattle.specification.proofs.ideal.Laws.{Laws}
use Rattle.specification.proofs.ideal.Polynomials.{comb}

module _ (D : Space) where
  open D use {q, Mono, Pt, val}

  infix 35 ◌≈◌
  abbrev ◌≈◌ : ℕ → ℕ → Type 0
  a ≈ b = Mod (suc q) a b

  -- the value at Q of a combination of l
  abbrev pub at : (Mono → ℕ) → List Mono → Pt → ℕ
  at c l Q = comb D c l (λ a. val a Q)

  -- N gives the interpolant of every function, as coefficients on the monomials of l, and there is no other
  pub record Base (S : List Pt) (l : List Mono) (N : (Pt → ℕ) → Mono → ℕ) : Type 0 where
    pub interp : (φ : Pt → ℕ) (P : Pt) → Among P S → at (N φ) l P ≈ φ P
    pub indep : (c : Mono → ℕ) → ((P : Pt) → Among P S → at c l P ≈ 0) → (a : Mono) → Among a l → c a ≈ 0

  pub at_lin : (c d : Mono → ℕ) (k : ℕ) (l : List Mono) (Q : Pt) → at (λ a. c a + k * d a) l Q ≈ at c l Q + k * at d l Q
  at_lin c d k l Q = sum_cong l (λ a _. of (shape (c a) (d a) (val a Q))) then of (sum_lin (λ a. c a * val a Q) (λ a. d a * val a Q) k l)
    where
      shape : (u v w : ℕ) → (u + k * v) * w ≡ u * w + k * (v * w)
      shape u v w = omega arith

  pub at_cong : (c d : Mono → ℕ) (l : List Mono) (Q : Pt) → ((a : Mono) → Among a l → c a ≈ d a) → at c l Q ≈ at d l Q
  at_cong c d l Q h = sum_cong l (λ a m. h a m times rfl)

  module _ (S : List Pt) (l : List Mono) (N : (Pt → ℕ) → Mono → ℕ) (B : Base S l N) where
    open B use {interp, indep}

    -- the interpolant is unique
    pub interp_unique : (φ : Pt → ℕ) (c : Mono → ℕ) → ((P : Pt) → Among P S → at c l P ≈ φ P) → (a : Mono) → Among a l → c a ≈ N φ a
    interp_unique φ c h a m =
        lin (indep (λ b. c b + q * N φ b) (λ P mem. at_lin c (N φ) q l P then lin (h P mem plus scale q (interp φ P mem)) 0 (φ P) (omega arith)) a m) (N φ a) 0 (omega arith)

  module _ (l : List Mono) (N : (Pt → ℕ) → Mono → ℕ) (P : Pt) where
    -- the value at P of φ less its interpolant
    abbrev pub error : (Pt → ℕ) → ℕ
    error φ = φ P + q * at (N φ) l P

    -- N' corrects N at P by the multiple δ of α less its remainder
    pub record Corrects (α : Mono) (δ : (Pt → ℕ) → ℕ) (N' : (Pt → ℕ) → Mono → ℕ) : Type 0 where
      pub right : (φ : Pt → ℕ) → δ φ * error (val α) ≈ error φ
      pub new : (φ : Pt → ℕ) → N' φ α ≈ δ φ
      pub old : (φ : Pt → ℕ) (b : Mono) → Among b l → N' φ b ≈ N φ b + q * δ φ * N (val α) b

  module _ (L : Laws D) where
    open L use {inv_law}

    -- there are no divisors of zero
    pub cancel : (c g : ℕ) → ¬ (g ≈ 0) → c * g ≈ 0 → c ≈ 0
    cancel c g ne h = lin (zero_left h (D.inv g) plus flip (scale c (inv_law g ne))) 0 0 (omega arith)

    -- One point P more, and one monomial α more whose remainder is not zero at P.
    module _ (l : List Mono) (N : (Pt → ℕ) → Mono → ℕ) (P : Pt) (α : Mono) (S : List Pt) (B : Base S l N) (ne : ¬ (error l N P (val α) ≈ 0))
        (l' : List Mono) (only : (b : Mono) → Among b l' → (b ≡ α) ⊎ Among b l) (sums : (f : Mono → ℕ) → sum_over f l' ≡ f α + sum_over f l) where
      corrected_at : {δ : (Pt → ℕ) → ℕ} {N' : (Pt → ℕ) → Mono → ℕ} → Corrects l N P α δ N' → (φ : Pt → ℕ) (Q : Pt)
          → at (N' φ) l' Q ≈ δ φ * val α Q + (at (N φ) l Q + q * δ φ * at (N (val α)) l Q)
      corrected_at {δ} {N'} C φ Q = of (sums (λ b. N' φ b * val b Q))
          then (C.new φ times rfl) plus (at_cong (N' φ) (λ b. N φ b + q * δ φ * N (val α) b) l Q (C.old φ) then at_lin (N φ) (N (val α)) (q * δ φ) l Q)

      at_old : (f v A C d : ℕ) → A ≈ f → C ≈ v → d * v + (A + q * d * C) ≈ f
      at_old f v A C d h k = lin (h plus scale (q * d) k) 0 (d * v) (omega arith)

      at_new : (f v A C d : ℕ) → d * (v + q * C) ≈ f + q * A → d * v + (A + q * d * C) ≈ f
      at_new f v A C d h = lin h 0 A (omega arith)

      next_indep : (c : Mono → ℕ) → ((Q : Pt) → Among Q (P ∷ S) → at c l' Q ≈ 0) → (a : Mono) → Among a l' → c a ≈ 0
      next_indep c h a m = go (only a m)
        where
          ν : Mono → ℕ
          ν = N (val α)

          split : (Q : Pt) → Among Q (P ∷ S) → c α * val α Q + at c l Q ≈ 0
          split Q mem = of (sym (sums (λ b. c b * val b Q))) then h Q mem

          old : (b : Mono) → Among b l → c b + c α * ν b ≈ 0
          old = B.indep (λ b. c b + c α * ν b) (λ Q mem. at_lin c ν (c α) l Q then lin (split Q (inr mem) plus scale (c α) (B.interp (val α) Q mem)) 0 0 (omega arith))

          here : at c l P + c α * at ν l P ≈ 0
          here = flip (at_lin c ν (c α) l P) then sum_zero l (λ b mem. zero_left (old b mem) (val b P))

          none : c α ≈ 0
          none = cancel (c α) (error l N P (val α)) ne (lin (split P (inl refl) plus scale q here) (at c l P) 0 (omega arith))

          go : (a ≡ α) ⊎ Among a l → c a ≈ 0
          go (inl e) = of (ap c e) then none
          go (inr mem) = lin (old a mem plus scale q (zero_left none (ν a))) (c α * ν a) 0 (omega arith)

      pub next_base : {δ : (Pt → ℕ) → ℕ} {N' : (Pt → ℕ) → Mono → ℕ} → Corrects l N P α δ N' → Base (P ∷ S) l' N'
      next_base {δ} C = record {
        interp = λ φ. each S (corrected_at C φ P then at_new (φ P) (val α P) (at (N φ) l P) (at (N (val α)) l P) (δ φ) (C.right φ))
            (λ Q m. corrected_at C φ Q then at_old (φ Q) (val α Q) (at (N φ) l Q) (at (N (val α)) l Q) (δ φ) (B.interp φ Q m) (B.interp (val α) Q m));
        indep = next_indep;
      }
