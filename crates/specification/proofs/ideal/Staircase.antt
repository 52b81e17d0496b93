-- A base that goes with the order, and the leads round it. Its monomials are the standard ones and its leads the minimal leading ones; and every monomial
-- is a combination of them wherever the rows vanish (normal forms).
use mathlib.Core.Path.{◌≡◌, refl, sym, ◌∙◌, ap, subst}
use mathlib.Core.List.{List, [], ◌∷◌, map}
use mathlib.Core.Logic.{◌⊎◌, inl, inr, ◌≢◌, ◌↔◌}
use mathlib.Core.WellFounded.Acc
use Prim.Native.Nat.{ℕ, suc, ◌+◌, ◌*◌, ◌<◌, Ordering}
use native.Mathlib.Omega.{arith}
use Rattle.residue.specs.Congruence.{Mod}
use Rattle.residue.specs.Lists.{Among, sum_over}
use Rattle.monomial.specs.Increasing.{Increasing}
use Rattle.residue.proofs.Congruence.{of, flip, ◌then◌, ◌plus◌, scale, zero_left, zero_right, lin}
use Rattle.residue.proofs.Sums.{sum_cong, sum_zero, sum_lin, sum_scale, sum_swap}
use Rattle.specification.specs.Space.{Space, Less, Divides}
use Rattle.specification.specs.Polynomial.{Polynomial, hit, coefficient, Vanishes, Greatest, Leading, Standard, Minimal, terms}
use Rattle.specification.proofs.ideal.Laws.{Laws, Compares, lt, eq, gt, compared, same?, irrefl, less_ne, hit_same, hit_other, trans}
use Rattle.specification.proofs.ideal.Polynomials.{pair, comb, pair_terms, comb_hit, comb_miss, support}
use Rattle.specification.proofs.ideal.Newton.{at, Base, at_cong, interp_unique}

module _ (D : Space) where
  open D use {q, m, Mono, Pt, x, val, coord, cmp}

  infix 35 ◌≈◌
  abbrev ◌≈◌ : ℕ → ℕ → Type 0
  a ≈ b = Mod (suc q) a b

  module _ (l : List Mono) (N : (Pt → ℕ) → Mono → ℕ) where
    -- the row of a is zero at Q
    abbrev pub Holds : Pt → Mono → Type 0
    Holds Q a = val a Q ≈ at D (N (val a)) l Q

    -- and so are those of all leads that are not above a
    abbrev pub HoldTo : List Mono → Pt → Mono → Type 0
    HoldTo leads Q a = (h : Mono) → Among h leads → ¬ Less D a h → Holds Q h

    -- a less its remainder
    unfoldable pub row_poly : Mono → Polynomial D
    row_poly a = (1, a) ∷ terms D (map (λ t. q * N (val a) t) l) l

    pub row_at_lem : (a : Mono) (φ : Mono → ℕ) → pair D (row_poly a) φ ≈ φ a + q * comb D (N (val a)) l φ
    unfolding row_poly
    row_at_lem a φ = of (ap (λ (z : ℕ). 1 * φ a + z) (pair_terms D (λ t. q * N (val a) t) l φ)) then of (omega arith)
        plus (sum_cong l (λ t _. of (shape (N (val a) t) (φ t))) then of (sum_scale (λ t. N (val a) t * φ t) q l))
      where
        shape : (u v : ℕ) → q * u * v ≡ q * (u * v)
        shape u v = omega arith

  -- a base whose remainders go down in the order, closed under divisors, and the leads: the least monomials outside
  pub record Staircase (S : List Pt) (l leads : List Mono) (N : (Pt → ℕ) → Mono → ℕ) : Type 0 where
    pub base : Base D S l N
    pub increasing : Increasing cmp l
    -- the remainder of a has no monomial above a
    pub below : (a b : Mono) → Among b l → Less D a b → N (val a) b ≈ 0
    pub down : (a b : Mono) → Divides D a b → Among b l → Among a l
    pub leads_increasing : Increasing cmp leads
    pub outside : (a : Mono) → Among a leads → ¬ Among a l
    pub minimal : (a : Mono) → Among a leads → (b : Mono) → Divides D b a → b ≢ a → Among b l
    pub cover : (a : Mono) → ¬ Among a l → (b : Mono) × Among b leads × Divides D b a

  pair_lin : (f : Polynomial D) (φ ψ : Mono → ℕ) (k : ℕ) → pair D f (λ a. φ a + k * ψ a) ≈ pair D f φ + k * pair D f ψ
  pair_lin f φ ψ k = sum_cong f (λ t _. of (shape t.0 (φ t.1) (ψ t.1))) then of (sum_lin (λ (t : ℕ × Mono). t.0 * φ t.1) (λ t. t.0 * ψ t.1) k f)
    where
      shape : (u v w : ℕ) → u * (v + k * w) ≡ u * v + k * (u * w)
      shape u v w = omega arith

  -- a sum of values, each replaced by that of a combination of l
  pub expand : {A : Type 0} (w : A → ℕ) (c : A → Mono → ℕ) (r : List A) (l : List Mono) (Q : Pt) → at D (λ t. sum_over (λ s. w s * c s t) r) l Q ≈ sum_over (λ s. w s * at D (c s) l Q) r
  expand w c r l Q = sum_cong l (λ t _. of (comm (sum_over (λ s. w s * c s t) r) (val t Q) ∙ sym (sum_scale (λ s. w s * c s t) (val t Q) r)))
      then of (sum_swap (λ t s. val t Q * (w s * c s t)) l r)
      then sum_cong r (λ s _. sum_cong l (λ t _. of (shape (val t Q) (w s) (c s t))) then of (sum_scale (λ t. c s t * val t Q) (w s) l))
    where
      comm : (u v : ℕ) → u * v ≡ v * u
      comm u v = omega arith

      shape : (u v w : ℕ) → u * (v * w) ≡ v * (w * u)
      shape u v w = omega arith

  module _ (L : Laws D) where
    open L use {one_not_zero, wf, x_mono, x_up, val_x, step}

    pub member? : (a : Mono) (l : List Mono) → Dec (Among a l)
    member? a [] = no (λ m. m)
    member? a (b ∷ l) = go (same? D L a b) (member? a l)
      where
        go : Dec (a ≡ b) → Dec (Among a l) → Dec (Among a (b ∷ l))
        go (yes e) d = yes (inl e)
        go (no e) (yes m) = yes (inr m)
        go (no e) (no m) = no (λ u. elim u [ inl v ↦ e v | inr v ↦ m v ])

    module _ (S : List Pt) (l : List Mono) (N : (Pt → ℕ) → Mono → ℕ) (B : Base D S l N) (i : Increasing cmp l) where
      -- on a vanishing polynomial every coefficient of the remainder is zero
      pub transfer : (f : Polynomial D) → Vanishes D f S → (t : Mono) → Among t l → pair D f (λ a. N (val a) t) ≈ 0
      transfer f v = B.indep (λ t. pair D f (λ a. N (val a) t)) (λ P mem. expand (λ (s : ℕ × Mono). s.0) (λ s. N (val s.1)) f l P
          then sum_cong f (λ s _. scale s.0 (B.interp (val s.1) P mem)) then v P mem)

      pub hit_at : (a : Mono) → Among a l → (Q : Pt) → at D (hit D a) l Q ≈ val a Q
      hit_at a m Q = sum_cong l (λ t _. of (comm (hit D a t) (val t Q))) then comb_hit D L (λ t. val t Q) l a i m
        where
          comm : (u v : ℕ) → u * v ≡ v * u
          comm u v = omega arith

      -- a monomial of l is its own remainder
      own : (a b : Mono) → Among a l → Among b l → N (val a) b ≈ hit D a b
      own a b m mem = flip (interp_unique D S l N B (val a) (hit D a) (λ P _. hit_at a m P) b mem)

    module _ (S : List Pt) (l leads : List Mono) (N : (Pt → ℕ) → Mono → ℕ) (T : Staircase S l leads N) where
      open T use {base, increasing, below, down, outside, minimal, cover}

      inside_standard : (a : Mono) → Among a l → Standard D S a
      inside_standard a mem (f, v, g) = g.0 (lin (flip all plus transfer S l N base increasing f v a mem) 0 (coefficient D f a) (omega arith))
        where
          zero : {o : Ordering} (b : Mono) → Compares D a b o → coefficient D f b * (N (val b) a + q * hit D a b) ≈ 0
          zero b (lt h) = zero_left (g.1 b h) (N (val b) a + q * hit D a b)
          zero b (eq e) = let h : hit D b a ≡ 1 = hit_same D L (sym e) in
              zero_right (coefficient D f b) (rw (hit_same D L e) (lin (own S l N base increasing b a (rw e at mem) mem) 0 1 (omega arith)))
          zero b (gt h) = zero_right (coefficient D f b) (rw (hit_other D L {a = a} {b = b} (λ e. less_ne D L h (sym e))) (lin (below b a mem h) 0 0 (omega arith)))

          all : pair D f (λ b. N (val b) a) + q * coefficient D f a ≈ 0
          all = flip (pair_lin f (λ b. N (val b) a) (hit D a) q) then support D L f (λ b. N (val b) a + q * hit D a b) (λ b. zero b (compared D L a b))

      row_vanishes : (a : Mono) → Vanishes D (row_poly l N a) S
      row_vanishes a P mem = row_at_lem l N a (λ b. val b P) then lin (scale q (base.interp (val a) P mem)) 0 (val a P) (omega arith)

      pub row_greatest : (a : Mono) → ¬ Among a l → Greatest D (row_poly l N a) a
      row_greatest a out = ((λ h. one_not_zero (flip at_a then h)), above)
        where
          at_a : coefficient D (row_poly l N a) a ≈ 1
          at_a = row_at_lem l N a (hit D a) then rw (hit_same D L {a = a} {b = a} refl) (lin (scale q (comb_miss D L (N (val a)) l a (λ b mem e. out (subst (λ (z : Mono). Among z l) (sym e) mem)))) 0 0 (omega arith))

          above : (b : Mono) → Less D a b → coefficient D (row_poly l N a) b ≈ 0
          above b h = row_at_lem l N a (hit D b) then rw (hit_other D L {a = b} {b = a} (λ e. irrefl D L (rw e at h))) (lin (scale q (sum_zero l (λ t mem. miss t mem (same? D L b t)))) 0 0 (omega arith))
            where
              miss : (t : Mono) → Among t l → Dec (b ≡ t) → N (val a) t * hit D b t ≈ 0
              miss t mem (yes e) = zero_left (below a t mem (rw e at h)) (hit D b t)
              miss t mem (no e) = rw (hit_other D L e) (of (omega arith))

      outside_leading : (a : Mono) → ¬ Among a l → Leading D S a
      outside_leading a out = (row_poly l N a, row_vanishes a, row_greatest a out)

      pub inside_iff : (a : Mono) → Among a l ↔ Standard D S a
      inside_iff a = (inside_standard a, λ s. go s (member? a l))
        where
          go : Standard D S a → Dec (Among a l) → Among a l
          go s (yes mem) = mem
          go s (no out) = absurd (s (outside_leading a out))

      pub leads_iff : (a : Mono) → Among a leads ↔ Minimal D S a
      leads_iff a = ((λ mem. (outside_leading a (outside a mem), λ b d e. inside_standard b (minimal a mem b d e))), λ h. go h (cover a (λ mem. inside_standard a mem h.0)))
        where
          go : Minimal D S a → (b : Mono) × Among b leads × Divides D b a → Among a leads
          go h (b, mem, d) = pick (same? D L b a)
            where
              pick : Dec (b ≡ a) → Among a leads
              pick (yes e) = subst (λ (z : Mono). Among z leads) e mem
              pick (no e) = absurd (h.1 b d e (outside_leading b (outside b mem)))

      -- the remainder of x k a, from those of a and of each x k t
      chain : ℕ → Mono → Mono → ℕ
      chain k a u = comb D (N (val a)) l (λ t. N (val (x k t)) u)

      chain_at : (k : ℕ) → k < m → (a : Mono) (Q : Pt) → Holds l N Q a → ((t : Mono) → Among t l → (N (val a) t ≈ 0) ⊎ Holds l N Q (x k t)) → at D (chain k a) l Q ≈ val (x k a) Q
      unfolding chain
      chain_at k hk a Q g h = expand (N (val a)) (λ t. N (val (x k t))) l l Q
          then sum_cong l (λ t mem. one_term t (h t mem))
          then of (sum_scale (λ t. N (val a) t * val t Q) (coord k Q) l) then scale (coord k Q) (flip g) then of (sym (val_x k a Q hk))
        where
          shape : (u v w : ℕ) → u * (v * w) ≡ v * (u * w)
          shape u v w = omega arith

          one_term : (t : Mono) → (N (val a) t ≈ 0) ⊎ (val (x k t) Q ≈ at D (N (val (x k t))) l Q) → N (val a) t * at D (N (val (x k t))) l Q ≈ coord k Q * (N (val a) t * val t Q)
          one_term t (inl z) = zero_left z (at D (N (val (x k t))) l Q) then flip (zero_right (coord k Q) (zero_left z (val t Q)))
          one_term t (inr e) = scale (N (val a) t) (flip e then of (val_x k t Q hk)) then of (shape (N (val a) t) (coord k Q) (val t Q))

      module _ (Q : Pt) where
        normal_step : (a : Mono) → ((c : Mono) → Less D c a → HoldTo l N leads Q c → Holds l N Q c) → HoldTo l N leads Q a → Holds l N Q a
        normal_step a rec ok = go (member? a l)
          where
            good : (c : Mono) → Less D c a → Holds l N Q c
            good c h = rec c h (λ e mem up. ok e mem (λ z. up (trans D L h z)))

            product : (k : ℕ) (c : Mono) → k < m → a ≡ x k c → ¬ Among c l → Holds l N Q a
            product k c hk e out = subst (Holds l N Q) (sym e) (flip (chain_at k hk c Q (good c (rw e (x_up hk))) (λ t mem. part t mem (compared D L t c)))
                then at_cong D (chain k c) (N (val (x k c))) l Q (interp_unique D S l N base (val (x k c)) (chain k c) (λ P mem.
                chain_at k hk c P (flip (base.interp (val c) P mem)) (λ t _. inr (flip (base.interp (val (x k t)) P mem))))))
              where
                part : {o : Ordering} (t : Mono) → Among t l → Compares D t c o → (N (val c) t ≈ 0) ⊎ Holds l N Q (x k t)
                part t mem (lt h) = inr (good (x k t) (rw e (x_mono hk h)))
                part t mem (eq u) = absurd (out (subst (λ (z : Mono). Among z l) u mem))
                part t mem (gt h) = inl (below c t mem h)

            multiple : (b : Mono) → Among b leads → Divides D b a → Dec (b ≡ a) → Holds l N Q a
            multiple b mem d (yes e) = subst (Holds l N Q) e (ok b mem (λ h. less_ne D L h (sym e)))
            multiple b mem d (no e) = let s = step d e in product s.0 s.1 s.2 s.3 (λ z. outside b mem (down b s.1 s.4 z))

            go : Dec (Among a l) → Holds l N Q a
            go (yes mem) = flip (at_cong D (N (val a)) (hit D a) l Q (λ b z. own S l N base increasing a b mem z) then hit_at S l N base increasing a mem Q)
            go (no out) = let c = cover a out in multiple c.0 c.1 c.2 (same? D L c.0 a)

        -- Normal forms: a is its remainder at every point Q where the rows vanish whose leads are not above a.
        pub normal_form : (a : Mono) → HoldTo l N leads Q a → Holds l N Q a
        normal_form a = Acc.ndrec {C = λ b. HoldTo l N leads Q b → Holds l N Q b} (λ b _ rec. normal_step b rec) (wf a)
