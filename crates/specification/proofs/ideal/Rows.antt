-- The polynomials of the rows of a basis as declared: each is monic, its greatest monomial is its lead, and its other monomials are standard.
use mathlib.Core.Path.{◌≡◌, refl, sym, ◌∙◌, ap, subst}
use mathlib.Core.List.{List, [], ◌∷◌}
use mathlib.Core.Logic.{◌⊎◌, inl, inr}
use Prim.Native.Nat.{ℕ, suc, ◌*◌, Ordering}
use native.Mathlib.Omega.{arith}
use Rattle.residue.specs.Congruence.{Mod}
use Rattle.residue.specs.Lists.{Among}
use Rattle.monomial.specs.Increasing.{Increasing, inserted}
use Rattle.monomial.proofs.Orders.Increasing.{inserted_increasing, inserted_adds}
use Rattle.residue.proofs.Congruence.{of, flip, ◌then◌, lin}
use Rattle.residue.proofs.Sums.{sum_zero}
use Rattle.specification.specs.Space.{Space, Less, Divides}
use Rattle.specification.specs.Polynomial.{Polynomial, hit, coefficient, Vanishes, Greatest, terms}
use Rattle.specification.specs.Basis.{Row, Rows, IsBasis}
use Rattle.specification.specs.Ideal.{row_polynomials}
use Rattle.specification.proofs.ideal.Laws.{Laws, Compares, lt, eq, gt, compared, same?, hit_same, hit_other}
use Rattle.specification.proofs.ideal.Polynomials.{Over, AllZero, Top, top}
use Rattle.specification.proofs.ideal.Staircase.{member?}
use Rattle.specification.proofs.ideal.Unique.{row_unique}
use Rattle.specification.proofs.ideal.Sound.{coefficient_off}

module _ (D : Space) (L : Laws D) where
  open D use {q, Mono, Pt, cmp}
  open L use {order, one_not_zero}

  infix 35 ◌≈◌
  abbrev ◌≈◌ : ℕ → ℕ → Type 0
  a ≈ b = Mod (suc q) a b

  -- the monomials of a polynomial, increasing
  abbrev monomials : Polynomial D → List Mono
  monomials [] = []
  monomials (t ∷ f) = inserted cmp t.1 (monomials f)

  monomials_increasing : (f : Polynomial D) → Increasing cmp (monomials f)
  monomials_increasing [] = tt
  monomials_increasing (t ∷ f) = inserted_increasing cmp order t.1 (monomials f) (monomials_increasing f)

  monomials_over : (f : Polynomial D) → Over D (monomials f) f
  monomials_over (u ∷ f) t (inl e) = inserted_adds cmp order u.1 (monomials f) t.1 (inl (ap (λ (z : ℕ × Mono). z.1) e))
  monomials_over (u ∷ f) t (inr mem) = inserted_adds cmp order u.1 (monomials f) t.1 (inr (monomials_over f t mem))
  monomials_over [] t x' = elim x' [ ]

  -- A polynomial has no coefficient, or it has a greatest monomial.
  pub greatest : (f : Polynomial D) → ((a : Mono) → coefficient D f a ≈ 0) ⊎ ((a : Mono) × Greatest D f a)
  greatest f = go (top D L (coefficient D f) (monomials f) (monomials_increasing f))
    where
      inside : (P : Mono → Type 0) → ((a : Mono) → Among a (monomials f) → P a → coefficient D f a ≈ 0) → (a : Mono) → P a → coefficient D f a ≈ 0
      inside P h a p = pick (member? D L a (monomials f))
        where
          pick : Dec (Among a (monomials f)) → coefficient D f a ≈ 0
          pick (yes mem) = h a mem p
          pick (no out) = sum_zero f (λ t mem. rw (hit_other D L {a = a} {b = t.1} (λ e. out (subst (λ (z : Mono). Among z (monomials f)) (sym e) (monomials_over f t mem)))) (of (omega arith)))

      go : AllZero D L (coefficient D f) (monomials f) ⊎ Top D L (coefficient D f) (monomials f) → ((a : Mono) → coefficient D f a ≈ 0) ⊎ ((a : Mono) × Greatest D f a)
      go (inl z) = inl (λ a. inside (λ b. Unit {0}) (λ b mem _. z b mem) a tt)
      go (inr t) = inr (t.0, (t.2, inside (Less D t.0) t.3))

  pub greatest_only : (f : Polynomial D) (a c : Mono) → Greatest D f a → Greatest D f c → a ≡ c
  greatest_only f a c g h = go (compared D L a c)
    where
      go : {o : Ordering} → Compares D a c o → a ≡ c
      go (lt k) = absurd (h.0 (g.1 c k))
      go (eq e) = e
      go (gt k) = absurd (g.0 (h.1 a k))

  module _ (S : List Pt) (standard leads : List Mono) (rows : List (List ℕ)) (b : IsBasis D S standard leads rows) where
    -- g is the polynomial of the row of the lead a
    pub record RowOf (g : Polynomial D) (a : Mono) : Type 0 where
      pub lead : Among a leads
      pub coefficients : List ℕ
      pub row : Row D S standard a coefficients
      pub is : g ≡ (1, a) ∷ terms D coefficients standard

    -- each polynomial of the rows is one of a lead, and each lead has one
    pub has_lead : (g : Polynomial D) → Among g (row_polynomials D standard leads rows) → (a : Mono) × RowOf g a
    has_lead g mem = go leads rows b.rows_are (λ a z. z) mem
      where
        go : (l : List Mono) (rs : List (List ℕ)) → Rows D S standard l rs → ((a : Mono) → Among a l → Among a leads) → Among g (row_polynomials D standard l rs) → (a : Mono) × RowOf g a
        go (a ∷ l) (cs ∷ rs) r up (inl e) = (a, record { lead = up a (inl refl); coefficients = cs; row = r.0; is = e })
        go (a ∷ l) (cs ∷ rs) r up (inr z) = go l rs r.1 (λ c w. up c (inr w)) z
        go [] rs r up x3 = elim x3 [ ]
        go (a ∷ l) [] r up _ = elim r [ ]

    pub has_row : (a : Mono) → Among a leads → (g : Polynomial D) × Among g (row_polynomials D standard leads rows) × RowOf g a
    has_row a lead = go leads rows b.rows_are lead
      where
        go : (l : List Mono) (rs : List (List ℕ)) → Rows D S standard l rs → Among a l → (g : Polynomial D) × Among g (row_polynomials D standard l rs) × RowOf g a
        go (c ∷ l) [] r mem = absurd r
        go (c ∷ l) (cs ∷ rs) r (inl e) = ((1, c) ∷ terms D cs standard, inl refl, rw e (record { lead = rw (← e) lead; coefficients = cs; row = r.0; is = refl }))
        go (c ∷ l) (cs ∷ rs) r (inr mem) = let t = go l rs r.1 mem in (t.0, inr t.1, t.2)
        go [] rs r mem = elim mem [ ]

    -- no lead divides another
    pub leads_minimal : (a c : Mono) → Among a leads → Among c leads → Divides D a c → a ≡ c
    leads_minimal a c ha hc d = go (same? D L a c)
      where
        go : Dec (a ≡ c) → a ≡ c
        go (yes e) = e
        go (no e) = absurd (((b.leads_members c).0 hc).1 a d e ((b.leads_members a).0 ha).0)

    module _ (g : Polynomial D) (a : Mono) (r : RowOf g a) where
      pub row_vanishes : Vanishes D g S
      row_vanishes = subst (λ (f : Polynomial D). Vanishes D f S) (sym r.is) r.row.vanishes

      -- the coefficient of a monomial that is not standard: 1 at the lead, else 0
      outside : (c : Mono) → ¬ Among c standard → coefficient D g c ≈ 1 * hit D c a
      outside c out = subst (λ (f : Polynomial D). coefficient D f c ≈ 1 * hit D c a) (sym r.is)
          (lin (coefficient_off D L standard r.coefficients c (λ d mem e. out (subst (λ (z : Mono). Among z standard) (sym e) mem))) 0 0 (omega arith))

      pub row_monic : coefficient D g a ≈ 1
      row_monic = outside a (λ mem. (b.standard_members a).0 mem ((b.leads_members a).0 r.lead).0) then of (ap (λ (z : ℕ). 1 * z) (hit_same D L refl))

      pub row_monomials : (c : Mono) → ¬ (coefficient D g c ≈ 0) → (c ≡ a) ⊎ Among c standard
      row_monomials c ne = go (same? D L c a) (member? D L c standard)
        where
          go : Dec (c ≡ a) → Dec (Among c standard) → (c ≡ a) ⊎ Among c standard
          go (yes e) d = inl e
          go (no e) (yes mem) = inr mem
          go (no e) (no out) = absurd (ne (outside c out then of (ap (λ (z : ℕ). 1 * z) (hit_other D L e))))

      -- else the greatest monomial would be standard, and a leading one
      pub row_greatest : Greatest D g a
      row_greatest = go (greatest g)
        where
          pick : (c : Mono) → Greatest D g c → (c ≡ a) ⊎ Among c standard → Greatest D g a
          pick c h (inl e) = subst (Greatest D g) e h
          pick c h (inr mem) = absurd ((b.standard_members c).0 mem (g, row_vanishes, h))

          go : ((c : Mono) → coefficient D g c ≈ 0) ⊎ ((c : Mono) × Greatest D g c) → Greatest D g a
          go (inl z) = absurd (one_not_zero (flip row_monic then z a))
          go (inr t) = pick t.0 t.1 (row_monomials t.0 t.1.0)

    -- rows of one lead are one row
    pub same_row : (g h : Polynomial D) (a c : Mono) → a ≡ c → RowOf g a → RowOf h c → g ≡ h
    same_row g h a c e r t = r.is ∙ ap (λ (z : Mono). (1, z) ∷ terms D r.coefficients standard) e
        ∙ ap (λ (z : List ℕ). (1, c) ∷ terms D z standard) (row_unique D L S standard b.standard_increasing (λ d mem. (b.standard_members d).0 mem) c r.coefficients t.coefficients
        (subst (λ (z : Mono). Row D S standard z r.coefficients) e r.row) t.row) ∙ sym t.is
