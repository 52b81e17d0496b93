-- One point more (docs/SCOPE.md, 'The sheet': adding follows Lemma 2): the first lead whose row is not zero there becomes standard, and the leads and interpolants follow.
use mathlib.Core.Path.{◌≡◌, refl, sym, ◌∙◌, subst}
use mathlib.Core.List.{List, ◌∷◌}
use mathlib.Core.Logic.{◌⊎◌, inl, inr, ◌≢◌}
use Prim.Native.Nat.{ℕ, suc, ◌+◌, ◌*◌, ◌<◌, Ordering}
use native.Mathlib.Omega.{arith}
use lib.ListN.{length}
use Rattle.residue.specs.Congruence.{Mod}
use Rattle.residue.specs.Lists.{Among}
use Rattle.residue.proofs.Congruence.{◌then◌, ◌plus◌, scale, zero_left, zero_right, lin}
use Rattle.residue.proofs.Tests.{dec_of}
use Rattle.monomial.specs.Increasing.{inserted}
use Rattle.monomial.proofs.Orders.Increasing.{inserted_only, inserted_increasing, inserted_adds}
use Rattle.specification.specs.Space.{Space, Less, Divides}
use Rattle.specification.specs.Extension.{without, extended}
use Rattle.specification.proofs.ideal.Laws.{Laws, Compares, lt, eq, gt, compared, same?, less_ne, trans}
use Rattle.specification.proofs.ideal.Newton.{at, error, Corrects, cancel, next_base}
use Rattle.specification.proofs.ideal.Staircase.{Staircase, Holds, normal_form, member?}
use Rattle.specification.proofs.ideal.ZeroSet.{zeros}
use Rattle.specification.proofs.ideal.Increasing.{inserted_sum, without_in, without_of, without_length, divided_told}
use Rattle.specification.proofs.ideal.Leads.{Divided, New, extended_increasing, extended_of, extended_length_le, extended_old, extended_new}

module _ (D : Space) where
  open D use {q, m, Mono, Pt, x, val, cmp}

  infix 35 ◌≈◌
  abbrev ◌≈◌ : ℕ → ℕ → Type 0
  a ≈ b = Mod (suc q) a b

  -- α is the first lead whose row is not zero at P
  pub record First (l leads : List Mono) (N : (Pt → ℕ) → Mono → ℕ) (P : Pt) (α : Mono) : Type 0 where
    pub lead : Among α leads
    pub not_zero : ¬ (error D l N P (val α) ≈ 0)
    pub zero_below : (b : Mono) → Among b leads → Less D b α → error D l N P (val b) ≈ 0

  -- a row is zero at P where there is no error
  pub error_holds : (l : List Mono) (N : (Pt → ℕ) → Mono → ℕ) (P : Pt) (a : Mono) → error D l N P (val a) ≈ 0 → Holds D l N P a
  error_holds l N P a h = lin h (at D (N (val a)) l P) 0 (omega arith)

  module _ (L : Laws D) (S : List Pt) (l leads : List Mono) (N : (Pt → ℕ) → Mono → ℕ) (T : Staircase D S l leads N) (P : Pt) where
    open L use {order, x_up, dvd_trans, dvd_x, step, between}

    -- at a new point some row is not zero
    pub some_error : ((Q : Pt) → Among Q S → P ≢ Q) → ¬ ((a : Mono) → Among a leads → error D l N P (val a) ≈ 0)
    some_error far all = far P (zeros D L S l leads N T P (λ a mem. error_holds l N P a (all a mem))) refl

    module _ (α : Mono) (F : First l leads N P α) where
      open F use {lead, not_zero, zero_below}

      pub first_outside : ¬ Among α l
      first_outside = T.outside α lead

      pub first_new : (b : Mono) → Among b l → α ≢ b
      first_new b mem e = first_outside (subst (λ (z : Mono). Among z l) (sym e) mem)

      -- below α the remainders hold at P
      small : (a : Mono) → Less D a α → error D l N P (val a) ≈ 0
      small a h = lin (normal_form D L S l leads N T P a (λ b mem up. error_holds l N P b (zero_below b mem (under b up (compared D L b a))))) 0 (at D (N (val a)) l P) (omega arith)
        where
          under : {o : Ordering} (b : Mono) → ¬ Less D a b → Compares D b a o → Less D b α
          under b up (lt u) = trans D L u h
          under b up (eq e) = rw e h
          under b up (gt u) = absurd (up u)

      below : {δ : (Pt → ℕ) → ℕ} {N' : (Pt → ℕ) → Mono → ℕ} → Corrects D l N P α δ N' → (a b : Mono) → Among b (inserted cmp α l) → Less D a b → N' (val a) b ≈ 0
      below {δ} {N'} C a b mem h = go (inserted_only cmp α l b mem)
        where
          no_correction : Less D a α → δ (val a) ≈ 0
          no_correction u = cancel D L (δ (val a)) (error D l N P (val α)) not_zero (C.right (val a) then small a u)

          product : {o : Ordering} → Compares D a α o → Among b l → δ (val a) * N (val α) b ≈ 0
          product (lt u) z = zero_left (no_correction u) (N (val α) b)
          product (eq e) z = zero_right (δ (val a)) (T.below α b z (rw (← e) h))
          product (gt u) z = zero_right (δ (val a)) (T.below α b z (trans D L u h))

          go : (b ≡ α) ⊎ Among b l → N' (val a) b ≈ 0
          go (inl e) = rw e (C.new (val a) then no_correction (rw e at h))
          go (inr z) = C.old (val a) b z then lin (T.below a b z h plus scale q (product (compared D L a α) z)) 0 0 (omega arith)

      down : (a b : Mono) → Divides D a b → Among b (inserted cmp α l) → Among a (inserted cmp α l)
      down a b d mem = inserted_adds cmp order α l a (go (inserted_only cmp α l b mem) (same? D L a α))
        where
          go : (b ≡ α) ⊎ Among b l → Dec (a ≡ α) → (a ≡ α) ⊎ Among a l
          go (inl e) (yes u) = inl u
          go (inl e) (no u) = inr (T.minimal α lead a (rw e at d) u)
          go (inr z) _ = inr (T.down a b d z)

      lead_outside : (a : Mono) → Among a (extended D leads α m) → ¬ Among a (inserted cmp α l)
      lead_outside a mem z = go (extended_of D L leads α m a mem) (inserted_only cmp α l a z)
        where
          go : Among a (without D α leads) ⊎ New D leads α m a → (a ≡ α) ⊎ Among a l → ⊥
          go (inl r) (inl e) = (without_of D L α leads a r).1 (sym e)
          go (inl r) (inr u) = T.outside a (without_of D L α leads a r).0 u
          go (inr (k, hk, ea, nd)) (inl e) = less_ne D L {a = α} {b = x k α} (x_up hk) (sym e ∙ ea)
          go (inr (k, hk, ea, nd)) (inr u) = first_outside (T.down α a (rw ea (dvd_x hk)) u)

      minimal : (a : Mono) → Among a (extended D leads α m) → (b : Mono) → Divides D b a → b ≢ a → Among b (inserted cmp α l)
      minimal a mem b d e = inserted_adds cmp order α l b (go (extended_of D L leads α m a mem))
        where
          go : Among a (without D α leads) ⊎ New D leads α m a → (b ≡ α) ⊎ Among b l
          go (inl r) = inr (T.minimal a (without_of D L α leads a r).0 b d e)
          go (inr (k, hk, ea, nd)) = known (member? D L b l)
            where
              other : (c : Mono) → Among c leads → Divides D c b → Dec (α ≡ c) → (b ≡ α) ⊎ Among b l
              other c r dc (yes u) = elim (between {k = k} {a = α} {b = b} hk (rw u dc) (rw (← ea) d)) [ inl w ↦ inl w | inr w ↦ absurd (e (w ∙ sym ea)) ]
              other c r dc (no u) = absurd (nd (c, without_in D L α leads c r u, dvd_trans dc (rw (← ea) d)))

              known : Dec (Among b l) → (b ≡ α) ⊎ Among b l
              known (yes u) = inr u
              known (no u) = let c = T.cover b u in other c.0 c.1 c.2 (same? D L α c.0)

      cover : (a : Mono) → ¬ Among a (inserted cmp α l) → (b : Mono) × Among b (extended D leads α m) × Divides D b a
      cover a out = let c = T.cover a (λ mem. out (inserted_adds cmp order α l a (inr mem))) in go c.0 c.1 c.2 (same? D L α c.0)
        where
          new : (k : ℕ) → k < m → Divides D (x k α) a → Dec (Divided D leads α (x k α)) → (b : Mono) × Among b (extended D leads α m) × Divides D b a
          new k hk d (yes (b, mem, db)) = (b, extended_old D L leads α m b mem, dvd_trans db d)
          new k hk d (no nd) = (x k α, extended_new D L leads α m k hk nd, d)

          go : (b : Mono) → Among b leads → Divides D b a → Dec (α ≡ b) → (b : Mono) × Among b (extended D leads α m) × Divides D b a
          go b mem d (yes e) = let s = step {a = α} {b = a} (rw e d) (λ u. out (inserted_adds cmp order α l a (inl (sym u)))) in
              new s.0 s.2 s.5 (dec_of (divided_told D L (without D α leads) (x s.0 α)))
          go b mem d (no e) = (b, extended_old D L leads α m b (without_in D L α leads b mem e), d)

      -- a new point costs one row and brings up to m
      pub fewer_leads : length (extended D leads α m) < length leads + m
      fewer_leads = omega (arith, extended_length_le D L leads α m, without_length D L α leads lead)

      -- Lemma 2
      pub extend : {δ : (Pt → ℕ) → ℕ} {N' : (Pt → ℕ) → Mono → ℕ} → Corrects D l N P α δ N' → Staircase D (P ∷ S) (inserted cmp α l) (extended D leads α m) N'
      extend C = record {
        base = next_base D L l N P α S T.base not_zero (inserted cmp α l) (inserted_only cmp α l) (λ f. inserted_sum D L f α l first_new) C;
        increasing = inserted_increasing cmp order α l T.increasing;
        below = below C;
        down = down;
        leads_increasing = extended_increasing D L leads α T.leads_increasing m;
        outside = lead_outside;
        minimal = minimal;
        cover = cover;
      }
