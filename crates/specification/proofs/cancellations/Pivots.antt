-- The pivots found, as functions on the points: each is 1 at its own point and 0 at those of the earlier ones, so that what is left of a function that meets them
-- is 0 at all their points; and a combination of the monomials found that is 0 there is 0 everywhere.
use mathlib.Core.Path.{◌≡◌, refl, ap, subst, ◌∙◌}
use mathlib.Core.Bool.{cond}
use mathlib.Core.List.{List, [], ◌∷◌, ◌++◌}
use mathlib.Core.Logic.{inl, inr}
use Prim.Native.Nat.{ℕ, suc, ◌+◌, ◌*◌}
use native.Mathlib.Omega.{arith}
use Rattle.residue.specs.Congruence.{Mod}
use Rattle.residue.specs.Lists.{Among}
use Rattle.residue.proofs.Congruence.{of, flip, scale, zero_right, lin, ◌then◌, ◌plus◌}
use Rattle.residue.proofs.Sums.{sum_zero, sum_append}
use Rattle.specification.specs.Space.{Space, same}
use Rattle.specification.proofs.ideal.Laws.{Laws, same_told}
use Rattle.residue.proofs.Tests.{cond_so, cond_not}
use Rattle.specification.proofs.ideal.Lists.{snoc_of}
use Rattle.specification.proofs.ideal.Newton.{at, at_lin, at_cong}
use Rattle.specification.proofs.drawing.Span.{Spanned}
use Rattle.specification.proofs.cancellations.Meetings.{Sense, lost, left}

module _ (D : Space) where
  open D use {q, Mono, Pt, val}

  infix 35 ◌≈◌
  abbrev ◌≈◌ : ℕ → ℕ → Type 0
  a ≈ b = Mod (suc q) a b

  -- each is 1 at its own point, and the later ones are 0 there
  abbrev pub Triangular : List (Sense Pt) → Type 0
  Triangular [] = Unit {0}
  Triangular (σ ∷ r) = (σ.value σ.point ≈ 1) × (((τ : Sense Pt) → Among τ r → τ.value σ.point ≈ 0) × Triangular r)

  -- what is 0 at a point where they are all 0 stays 0 there
  left_keeps : (r : List (Sense Pt)) (φ : Pt → ℕ) (P : Pt) → ((τ : Sense Pt) → Among τ r → τ.value P ≈ 0) → φ P ≈ 0 → left q r φ P ≈ 0
  left_keeps [] φ P h k = k
  left_keeps (σ ∷ r) φ P h k =
      left_keeps r (lost q σ φ) P (λ τ mem. h τ (inr mem)) (lin (k plus zero_right q (zero_right (φ σ.point) (h σ (inl refl)))) 0 0 (omega arith))

  pub left_zero : (r : List (Sense Pt)) (φ : Pt → ℕ) → Triangular r → (τ : Sense Pt) → Among τ r → left q r φ τ.point ≈ 0
  left_zero (σ ∷ r) φ t τ (inl e) =
      rw e (left_keeps r (lost q σ φ) σ.point t.1.0 (lin (scale q (scale (φ σ.point) t.0)) 0 (φ σ.point) (omega arith)))
  left_zero (σ ∷ r) φ t τ (inr mem) = left_zero r (lost q σ φ) t.1.1 τ mem
  left_zero [] φ t τ x'' = elim x'' [ ]

  pub triangular_snoc : (r : List (Sense Pt)) (σ : Sense Pt) → Triangular r → σ.value σ.point ≈ 1 → ((τ : Sense Pt) → Among τ r → σ.value τ.point ≈ 0)
      → Triangular (r ++ (σ ∷ []))
  triangular_snoc [] σ t o h = (o, ((λ τ mem. absurd mem), tt))
  triangular_snoc (ρ ∷ r) σ t o h = (
    t.0,
    (
      (λ τ mem. elim (snoc_of r σ τ mem) [ inl z ↦ t.1.0 τ z | inr e ↦ rw e (h ρ (inl refl)) ]),
      triangular_snoc r σ t.1.1 o (λ τ mem. h τ (inr mem)),
    ),
  )

  -- combinations of l, and of l with b
  pub at_none : (l : List Mono) (P : Pt) → at D (λ a. 0) l P ≈ 0
  at_none l P = sum_zero {f = λ a. 0 * val a P} l (λ a _. of (omega arith))

  pub at_snoc : (c : Mono → ℕ) (l : List Mono) (b : Mono) (P : Pt) → at D c (l ++ (b ∷ [])) P ≡ at D c l P + c b * val b P
  at_snoc c l b P = sum_append (λ a. c a * val a P) l (b ∷ []) ∙ shape (at D c l P) (c b * val b P)
    where
      shape : (u v : ℕ) → u + (v + 0) ≡ u + v
      shape u v = omega arith

  module _ (S : List Pt) (l : List Mono) where
    -- what is left differs from the function by a combination of l, if the pivots are such
    pub left_near : (r : List (Sense Pt)) (φ : Pt → ℕ) → ((σ : Sense Pt) → Among σ r → Spanned D S l σ.value)
        → (c : Mono → ℕ) × ((P : Pt) → Among P S → left q r φ P ≈ φ P + at D c l P)
    left_near [] φ h = ((λ a. 0), λ P mem. lin (flip (at_none l P)) 0 0 (omega arith))
    left_near (σ ∷ r) φ h =
        let s = h σ (inl refl) in
        let t = left_near r (lost q σ φ) (λ τ mem. h τ (inr mem)) in (
          (λ a. t.0 a + q * φ σ.point * s.0 a),
          λ P mem.
              t.1 P mem
              then lin (flip (at_lin D t.0 s.0 (q * φ σ.point) l P) plus flip (scale (q * φ σ.point) (s.1 P mem))) 0 0 (omega arith),
        )

    module _ (L : Laws D) (b : Mono) (new : ¬ Among b l) where
      -- coefficients on l, and k on b
      with_b : (c : Mono → ℕ) (k : ℕ) → (e : Mono → ℕ) × ((P : Pt) → at D e (l ++ (b ∷ [])) P ≈ at D c l P + k * val b P)
      with_b c k = (
        (λ a. cond (same D a b) k (c a)),
        λ P.
            of (at_snoc (λ a. cond (same D a b) k (c a)) l b P)
            then at_cong D (λ a. cond (same D a b) k (c a)) c l P (λ a mem. of (cond_not (same_told D L a b) (λ e. new (subst (λ (z : Mono). Among z l) e mem)) k (c a)))
            plus of (ap (λ (z : ℕ). z * val b P) (cond_so (same_told D L b b) refl k (c b))),
      )

      pub spanned_more : (φ : Pt → ℕ) → Spanned D S l φ → Spanned D S (l ++ (b ∷ [])) φ
      spanned_more φ (c, h) = let e = with_b c 0 in (e.0, λ P mem. e.1 P then lin (h P mem) 0 0 (omega arith))

      -- k times what is left of b's values
      pub spanned_left : (k : ℕ) (w : Pt → ℕ) → (c : Mono → ℕ) × ((P : Pt) → Among P S → w P ≈ val b P + at D c l P) → Spanned D S (l ++ (b ∷ [])) (λ P. k * w P)
      spanned_left k w (c, h) =
          let e = with_b (λ a. 0 + k * c a) k in
          (e.0, λ P mem. e.1 P then lin (at_lin D (λ a. 0) c k l P plus at_none l P plus flip (scale k (h P mem))) 0 0 (omega arith))
