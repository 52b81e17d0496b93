-- Multiples of polynomials: their values, their coefficients and their greatest monomials; so every multiple of a leading monomial is a leading one.
use mathlib.Core.Path.{◌≡◌, refl, sym, ◌∙◌, ap, subst}
use mathlib.Core.List.{List, [], ◌∷◌, map}
use mathlib.Core.Logic.{inl, inr}
use mathlib.Core.WellFounded.Acc
use Prim.Native.Nat.{ℕ, suc, ◌+◌, ◌*◌, ◌<◌, Ordering}
use native.Mathlib.Omega.{arith}
use Rattle.residue.specs.Congruence.{Mod}
use Rattle.residue.proofs.Congruence.{of, flip, ◌then◌, scale, zero_left, zero_right, lin}
use Rattle.residue.proofs.Sums.{sum_cong, sum_scale}
use Rattle.specification.specs.Space.{Space, Less, Divides}
use Rattle.specification.specs.Polynomial.{Polynomial, hit, coefficient, Vanishes, Greatest, Leading}
use Rattle.specification.specs.Ideal.{Variable, multiple}
use Rattle.specification.proofs.ideal.Laws.{Laws, Compares, lt, eq, gt, compared, same?, irrefl, less_ne, hit_same, hit_other, trans}
use Rattle.specification.proofs.ideal.Polynomials.{pair, support}

module _ (D : Space) where
  open D use {Mono, Pt, x, val, coord}

  -- the product of variables times a monomial, and its value
  abbrev pub times : List (Variable D) → Mono → Mono
  times [] a = a
  times (v ∷ vs) a = x v.0 (times vs a)

  abbrev weight : List (Variable D) → Pt → ℕ
  weight [] P = 1
  weight (v ∷ vs) P = coord v.0 P * weight vs P

  -- a multiple, whatever the monomials stand for
  pub multiple_pair : (c : ℕ) (vs : List (Variable D)) (f : Polynomial D) (φ : Mono → ℕ) → pair D (multiple D c vs f) φ ≡ c * pair D f (λ a. φ (times vs a))
  multiple_pair c [] f φ = go f
    where
      go : (g : Polynomial D) → pair D (map (λ t. (c * t.0, t.1)) g) φ ≡ c * pair D g φ
      go [] = omega arith
      go (t ∷ g) = let h : pair D (map (λ t. (c * t.0, t.1)) g) φ ≡ c * pair D g φ = go g in omega arith
  multiple_pair c (v ∷ vs) f φ = go (multiple D c vs f) ∙ multiple_pair c vs f (λ a. φ (x v.0 a))
    where
      go : (g : Polynomial D) → pair D (map (λ t. (t.0, x v.0 t.1)) g) φ ≡ pair D g (λ a. φ (x v.0 a))
      go [] = refl
      go (t ∷ g) = ap (λ (z : ℕ). t.0 * φ (x v.0 t.1) + z) (go g)

module _ (D : Space) (L : Laws D) where
  open D use {q, Mono, Pt, one, x, val}
  open L use {wf, x_mono, x_up, val_x, dvd_x, one_dvd, step, between}

  infix 35 ◌≈◌
  abbrev ◌≈◌ : ℕ → ℕ → Type 0
  a ≈ b = Mod (suc q) a b

  val_times : (vs : List (Variable D)) (a : Mono) (P : Pt) → val (times D vs a) P ≡ weight D vs P * val a P
  val_times [] a P = omega arith
  val_times (v ∷ vs) a P = val_x v.0 (times D vs a) P v.1 ∙ ap (λ (z : ℕ). D.coord v.0 P * z) (val_times vs a P) ∙ omega arith

  pub multiple_vanishes : (c : ℕ) (vs : List (Variable D)) (f : Polynomial D) (S : List Pt) → Vanishes D f S → Vanishes D (multiple D c vs f) S
  multiple_vanishes c vs f S v P mem = of (multiple_pair D c vs f (λ a. val a P))
      then zero_right c (sum_cong f (λ t _. of (ap (λ (z : ℕ). t.0 * z) (val_times vs t.1 P) ∙ shape t.0 (weight D vs P) (val t.1 P)))
      then of (sum_scale (λ (t : ℕ × Mono). t.0 * val t.1 P) (weight D vs P) f) then zero_right (weight D vs P) (v P mem))
    where
      shape : (u v w : ℕ) → u * (v * w) ≡ v * (u * w)
      shape u v w = omega arith

  -- multiplication keeps and reflects the order
  pub times_mono : (vs : List (Variable D)) {a b : Mono} → Less D a b → Less D (times D vs a) (times D vs b)
  times_mono [] h = h
  times_mono (v ∷ vs) h = x_mono v.1 (times_mono vs h)

  times_less : (vs : List (Variable D)) {a b : Mono} → Less D (times D vs a) (times D vs b) → Less D a b
  times_less vs {a} {b} h = go (compared D L a b)
    where
      go : {o : Ordering} → Compares D a b o → Less D a b
      go (lt k) = k
      go (eq e) = absurd (less_ne D L h (ap (times D vs) e))
      go (gt k) = absurd (irrefl D L (trans D L h (times_mono vs k)))

  times_same : (vs : List (Variable D)) (a b : Mono) → hit D (times D vs a) (times D vs b) ≡ hit D a b
  times_same vs a b = go (compared D L a b)
    where
      go : {o : Ordering} → Compares D a b o → hit D (times D vs a) (times D vs b) ≡ hit D a b
      go (lt k) = hit_other D L (less_ne D L (times_mono vs k)) ∙ sym (hit_other D L (less_ne D L k))
      go (eq e) = hit_same D L (ap (times D vs) e) ∙ sym (hit_same D L e)
      go (gt k) = hit_other D L (λ e. less_ne D L (times_mono vs k) (sym e)) ∙ sym (hit_other D L (λ e. less_ne D L k (sym e)))

  -- the coefficients of a multiple: at the multiple of a monomial, and above that of the greatest one
  pub multiple_at : (c : ℕ) (vs : List (Variable D)) (f : Polynomial D) (a : Mono) → coefficient D (multiple D c vs f) (times D vs a) ≈ c * coefficient D f a
  multiple_at c vs f a = of (multiple_pair D c vs f (hit D (times D vs a))) then scale c (sum_cong f (λ t _. of (ap (λ (z : ℕ). t.0 * z) (times_same vs a t.1))))

  pub multiple_above : (c : ℕ) (vs : List (Variable D)) (f : Polynomial D) (a : Mono) → Greatest D f a → (b : Mono) → Less D (times D vs a) b → coefficient D (multiple D c vs f) b ≈ 0
  multiple_above c vs f a g b h = of (multiple_pair D c vs f (hit D b)) then zero_right c (support D L f (λ d. hit D b (times D vs d)) (λ d. go d (same? D L b (times D vs d))))
    where
      go : (d : Mono) → Dec (b ≡ times D vs d) → coefficient D f d * hit D b (times D vs d) ≈ 0
      go d (yes e) = zero_left (g.1 d (times_less vs (subst (Less D (times D vs a)) e h))) (hit D b (times D vs d))
      go d (no e) = rw (hit_other D L e) (of (omega arith))

  -- what a monomial divides is a product of variables times it
  pub cofactor : (a b : Mono) → Divides D a b → (vs : List (Variable D)) × (b ≡ times D vs a)
  cofactor a b = Acc.ndrec {C = λ b. Divides D a b → (vs : List (Variable D)) × (b ≡ times D vs a)} (λ b _ rec d. go b rec d (same? D L a b)) (wf b)
    where
      go : (b : Mono) → ((c : Mono) → Less D c b → Divides D a c → (vs : List (Variable D)) × (c ≡ times D vs a)) → Divides D a b → Dec (a ≡ b) → (vs : List (Variable D)) × (b ≡ times D vs a)
      go b rec d (yes e) = ([], sym e)
      go b rec d (no e) = let s = step d e in let t = rec s.1 (subst (Less D s.1) (sym s.3) (x_up s.2)) s.4 in
          ((s.0, s.2) ∷ t.0, s.3 ∙ ap (x s.0) t.1)

  pub divides_self : (a : Mono) → Divides D a a
  divides_self a = go (same? D L one a)
    where
      product : (k : ℕ) (c : Mono) → k < D.m → Divides D (x k c) (x k c)
      product k c hk = let s = step (dvd_x {k = k} {a = c} hk) (less_ne D L (x_up hk)) in
          elim (between hk (dvd_x {k = s.0} {a = c} s.2) s.5) [ inl e ↦ absurd (less_ne D L (x_up s.2) (sym e)) | inr e ↦ subst (λ (z : Mono). Divides D z (x k c)) e s.5 ]

      go : Dec (one ≡ a) → Divides D a a
      go (yes e) = subst (λ (z : Mono). Divides D z z) e one_dvd
      go (no e) = let s = step one_dvd e in subst (λ (z : Mono). Divides D z z) (sym s.3) (product s.0 s.1 s.2)

  pub leading_multiple : (S : List Pt) (a b : Mono) → Leading D S a → Divides D a b → Leading D S b
  leading_multiple S a b (f, v, g) d = let t = cofactor a b d in
      subst (Leading D S) (sym t.1) (multiple D 1 t.0 f, multiple_vanishes 1 t.0 f S v, ((λ z. g.0 (lin (flip (multiple_at 1 t.0 f a) then z) 0 0 (omega arith))), multiple_above 1 t.0 f a g))
