-- Polynomials as lists of terms: functionals on them, their terms collected, and the independence of the standard monomials.
use mathlib.Core.Path.{◌≡◌, refl, sym, ◌∙◌, ap, subst}
use mathlib.Core.List.{List, [], ◌∷◌, map}
use mathlib.Core.Logic.{◌⊎◌, inl, inr, ◌≢◌}
use mathlib.Core.Bool.{Bool, cond}
use Prim.Native.Nat.{ℕ, suc, ◌+◌, ◌*◌}
use native.Mathlib.Omega.{arith}
use Rattle.residue.specs.Congruence.{Mod}
use Rattle.residue.specs.Lists.{Among, sum_over}
use Rattle.residue.proofs.Congruence.{rfl, of, flip, ◌then◌, ◌plus◌, scale, zero_left, lin}
use Rattle.residue.proofs.Sums.{each, sum_cong, sum_zero, sum_lin, sum_scale, sum_add}
use Rattle.residue.proofs.Tests.{Decides, so, not_so, dec_of}
use Rattle.monomial.specs.Increasing.{Increasing}
use Rattle.monomial.proofs.Orders.Increasing.{below_member}
use Rattle.specification.specs.Space.{Space, Less, same}
use Rattle.specification.specs.Polynomial.{Polynomial, hit, coefficient, Standard, terms}
use Rattle.specification.proofs.ideal.Laws.{Laws, zero_told, same_told, same?, irrefl, less_ne, hit_same, hit_other, hit_sym, trans}

module _ (D : Space) where
  open D use {Mono}

  -- a polynomial with φ for the value of each monomial
  abbrev pub pair : Polynomial D → (Mono → ℕ) → ℕ
  pair f φ = sum_over (λ t. t.0 * φ t.1) f

  -- a combination of the monomials of a list, its coefficients a function
  abbrev pub comb : (Mono → ℕ) → List Mono → (Mono → ℕ) → ℕ
  comb c l φ = sum_over (λ a. c a * φ a) l

  pub pair_terms : (c : Mono → ℕ) (l : List Mono) (φ : Mono → ℕ) → pair (terms D (map c l) l) φ ≡ comb c l φ
  pair_terms c [] φ = refl
  pair_terms c (a ∷ l) φ = ap (λ (z : ℕ). c a * φ a + z) (pair_terms c l φ)

  -- the monomials of a polynomial are of l
  abbrev pub Over : List Mono → Polynomial D → Type 0
  Over l f = (t : ℕ × Mono) → Among t f → Among t.1 l

  pub terms_over : (cs : List ℕ) (l r : List Mono) → ((a : Mono) → Among a l → Among a r) → Over r (terms D cs l)
  terms_over [] l r h t mem = absurd mem
  terms_over (c ∷ cs) [] r h t mem = absurd mem
  terms_over (c ∷ cs) (a ∷ l) r h t (inl e) = subst (λ (z : Mono). Among z r) (sym (ap (λ (z : ℕ × Mono). z.1) e)) (h a (inl refl))
  terms_over (c ∷ cs) (a ∷ l) r h t (inr mem) = terms_over cs l r (λ b m. h b (inr m)) t mem

module _ (D : Space) (L : Laws D) where
  open D use {q, Mono, Pt, val, cmp}

  infix 35 ◌≈◌
  abbrev ◌≈◌ : ℕ → ℕ → Type 0
  a ≈ b = Mod (suc q) a b

  -- φ, and 0 at a
  mask : Mono → (Mono → ℕ) → Mono → ℕ
  mask a φ b = cond (same D a b) 0 (φ b)

  mask_split : (a : Mono) (φ : Mono → ℕ) (b : Mono) → φ b ≡ hit D a b * φ a + mask a φ b
  unfolding mask
  mask_split a φ b = go (same_told D L a b)
    where
      go : {t : Bool} → Decides (a ≡ b) t → φ b ≡ hit D a b * φ a + cond t 0 (φ b)
      go (so e) = let k : φ a ≡ φ b = ap φ e in rw (hit_same D L e) (omega arith)
      go (not_so e) = rw (hit_other D L e) (omega arith)

  -- The functional φ is zero on f if at each monomial φ or the coefficient is.
  pub support : (f : Polynomial D) (φ : Mono → ℕ) → ((a : Mono) → coefficient D f a * φ a ≈ 0) → pair D f φ ≈ 0
  unfolding mask
  support [] φ h = rfl
  support ((c, a) ∷ f) φ h = flip split then head plus support f (mask a φ) tail
    where
      rest : pair D f φ ≈ coefficient D f a * φ a + pair D f (mask a φ)
      rest = sum_cong f (λ t _. of (ap (λ (z : ℕ). t.0 * z) (mask_split a φ t.1) ∙ shape t.0 (hit D a t.1) (φ a) (mask a φ t.1)))
          then of (sum_add (λ (t : ℕ × Mono). φ a * (t.0 * hit D a t.1)) (λ t. t.0 * mask a φ t.1) f)
          then of (sum_scale (λ (t : ℕ × Mono). t.0 * hit D a t.1) (φ a) f ∙ comm (φ a) (coefficient D f a)) plus rfl
        where
          shape : (u v w z : ℕ) → u * (v * w + z) ≡ w * (u * v) + u * z
          shape u v w z = omega arith

          comm : (u v : ℕ) → u * v ≡ v * u
          comm u v = omega arith

      split : (c * hit D a a + coefficient D f a) * φ a + pair D f (mask a φ) ≈ c * φ a + pair D f φ
      split = let e : hit D a a ≡ 1 = hit_same D L refl in rw e (lin (flip rest) 0 0 (omega arith))

      head : (c * hit D a a + coefficient D f a) * φ a ≈ 0
      head = h a

      tail : (b : Mono) → coefficient D f b * mask a φ b ≈ 0
      tail b = go (same_told D L a b)
        where
          go : {t : Bool} → Decides (a ≡ b) t → coefficient D f b * cond t 0 (φ b) ≈ 0
          go (so e) = of (omega arith)
          go (not_so e) = let z : hit D b a ≡ 0 = hit_other D L (λ u. e (sym u)) in lin (h b) 0 0 (rw z (omega arith))

  pub comb_miss : (c : Mono → ℕ) (l : List Mono) (a : Mono) → ((b : Mono) → Among b l → a ≢ b) → comb D c l (hit D a) ≈ 0
  comb_miss c l a h = sum_zero l (λ b m. rw (hit_other D L (h b m)) (of (omega arith)))

  pub comb_hit : (c : Mono → ℕ) (l : List Mono) (a : Mono) → Increasing cmp l → Among a l → comb D c l (hit D a) ≈ c a
  comb_hit c (b ∷ l) a i (inl e) = rw (hit_same D L e) (lin (comb_miss c l a (λ d m u. less_ne D L (below_member cmp b l i.0 d m) (sym e ∙ u)) plus of (ap c (sym e))) 0 0 (omega arith))
  comb_hit c (b ∷ l) a i (inr m) = rw (hit_other D L (λ u. less_ne D L (below_member cmp b l i.0 a m) (sym u))) (lin (comb_hit c l a i.1 m) 0 0 (omega arith))
  comb_hit c [] a i x'' = elim x'' [ ]

  -- a polynomial's terms collected
  pub collect : (l : List Mono) → Increasing cmp l → (f : Polynomial D) → Over D l f → (φ : Mono → ℕ) → comb D (coefficient D f) l φ ≈ pair D f φ
  collect l i [] o φ = sum_zero l (λ a _. of (omega arith))
  collect l i ((c, b) ∷ f) o φ = sum_cong l (λ a _. of (shape (coefficient D f a) (hit D a b) (φ a)) then of (ap (λ (z : ℕ). coefficient D f a * φ a + c * (φ a * z)) (hit_sym D L a b)))
      then of (sum_lin (λ a. coefficient D f a * φ a) (λ a. φ a * hit D b a) c l)
      then lin (collect l i f (λ t mem. o t (inr mem)) φ plus scale c (comb_hit φ l b i (o (c, b) (inl refl)))) 0 0 (omega arith)
    where
      shape : (u h w : ℕ) → (c * h + u) * w ≡ u * w + c * (w * h)
      shape u h w = omega arith

  abbrev pub AllZero : (Mono → ℕ) → List Mono → Type 0
  AllZero c l = (a : Mono) → Among a l → c a ≈ 0

  -- a greatest monomial with a coefficient that is not zero
  abbrev pub Top : (Mono → ℕ) → List Mono → Type 0
  Top c l = (a : Mono) × Among a l × (¬ (c a ≈ 0)) × ((b : Mono) → Among b l → Less D a b → c b ≈ 0)

  pub top : (c : Mono → ℕ) (l : List Mono) → Increasing cmp l → AllZero c l ⊎ Top c l
  top c [] i = inl (λ a m. absurd m)
  top c (a ∷ l) i = go (top c l i.1) (dec_of (zero_told q (c a)))
    where
      go : AllZero c l ⊎ Top c l → Dec (c a ≈ 0) → AllZero c (a ∷ l) ⊎ Top c (a ∷ l)
      go (inr t) d = inr (t.0, inr t.1, t.2, each l (λ h. absurd (irrefl D L (trans D L h (below_member cmp a l i.0 t.0 t.1)))) t.3)
      go (inl z) (yes e) = inl (each l e z)
      go (inl z) (no e) = inr (a, inl refl, e, each l (λ h. absurd (irrefl D L h)) (λ b m _. z b m))

  -- A combination of standard monomials that vanishes has no coefficient: else its greatest monomial would be a leading one.
  pub independent : (S : List Pt) (l : List Mono) → Increasing cmp l → ((a : Mono) → Among a l → Standard D S a)
      → (c : Mono → ℕ) → ((P : Pt) → Among P S → comb D c l (λ a. val a P) ≈ 0) → AllZero c l
  independent S l i s c h = go (top c l i)
    where
      go : AllZero c l ⊎ Top c l → AllZero c l
      go (inl z) = z
      go (inr t) = absurd (s t.0 t.1 (
        terms D (map c l) l,
        (λ P m. of (pair_terms D c l (λ a. val a P)) then h P m),
        (
          (λ z. t.2 (flip (comb_hit c l t.0 i t.1) then of (sym (pair_terms D c l (hit D t.0))) then z)),
          λ b u. of (pair_terms D c l (hit D b)) then sum_zero l (λ d m. miss b u d m (same? D L b d)),
        ),
      ))
        where
          miss : (b : Mono) → Less D t.0 b → (d : Mono) → Among d l → Dec (b ≡ d) → c d * hit D b d ≈ 0
          miss b u d m (yes e) = zero_left (t.3 d m (rw e at u)) (hit D b d)
          miss b u d m (no e) = rw (hit_other D L e) (of (omega arith))
