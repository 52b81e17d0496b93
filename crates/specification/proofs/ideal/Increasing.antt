-- Increasing lists of monomials: a part is no longer, one put in, one taken out, one that divides.
use mathlib.Core.Path.{◌≡◌, refl, sym, ◌∙◌, subst}
use mathlib.Core.List.{List, [], ◌∷◌}
use mathlib.Core.Logic.{◌⊎◌, inl, inr, ◌≢◌}
use mathlib.Core.Bool.{Bool, cond, ◌||◌}
use Prim.Native.Nat.{ℕ, suc, ◌+◌, ◌≤◌, ◌<◌, Ordering}
use native.Mathlib.Omega.{arith}
use lib.ListN.{length}
use Rattle.residue.specs.Lists.{Among, sum_over}
use Rattle.residue.proofs.Sums.{each}
use Rattle.residue.proofs.Tests.{Decides, so, not_so}
use Rattle.monomial.specs.Increasing.{Increasing, placed, inserted}
use Rattle.monomial.proofs.Orders.Increasing.{below_member, member_below}
use Rattle.specification.specs.Space.{Space, Less, Divides}
use Rattle.specification.specs.Extension.{without, divided}
use Rattle.specification.proofs.ideal.Laws.{less_ne, Laws, Compares, lt, eq, gt, compared, same_told, divides_told, trans}

module _ (D : Space) (L : Laws D) where
  open D use {Mono, cmp}

  -- a part of an increasing list is no longer
  pub increasing_length : (l r : List Mono) → Increasing cmp l → Increasing cmp r → ((a : Mono) → Among a l → Among a r) → length l ≤ length r
  increasing_length [] r i j f = omega arith
  increasing_length (a ∷ l) [] i j f = absurd (f a (inl refl))
  increasing_length (a ∷ l) (b ∷ r) i j f = go (f a (inl refl)) (increasing_length l r i.1 j.1) (increasing_length (a ∷ l) r i j.1)
    where
      past : {d : Mono} → Less D b d → (d ≡ b) ⊎ (Among d r) → Among d r
      past mem (inl e) = absurd (less_ne D L mem (sym e))
      past mem (inr m) = m

      go : (a ≡ b) ⊎ (Among a r) → (((d : Mono) → Among d l → Among d r) → length l ≤ length r) → (((d : Mono) → Among d (a ∷ l) → Among d r) → suc (length l) ≤ length r) → suc (length l) ≤ suc (length r)
      go (inl e) h k = omega (arith, h (λ d m. past (rw e at (below_member cmp a l i.0 d m)) (f d (inr m))))
      go (inr mem) h k = omega (arith, k (each l mem (λ d m. past (trans D L (below_member cmp b r j.0 a mem) (below_member cmp a l i.0 d m)) (f d (inr m)))))

  pub inserted_sum : (f : Mono → ℕ) (a : Mono) (l : List Mono) → ((b : Mono) → Among b l → a ≢ b) → sum_over f (inserted cmp a l) ≡ f a + sum_over f l
  inserted_sum f a [] h = refl
  inserted_sum f a (c ∷ l) h = go (compared D L a c) (inserted_sum f a l (λ b mem. h b (inr mem)))
    where
      go : {o : Ordering} → Compares D a c o → sum_over f (inserted cmp a l) ≡ f a + sum_over f l → sum_over f (placed a c l (inserted cmp a l) o) ≡ f a + (f c + sum_over f l)
      go (lt u) e = refl
      go (eq u) e = absurd (h c (inl refl) u)
      go (gt u) e = omega arith

  pub inserted_length_le : (a : Mono) (l : List Mono) → length (inserted cmp a l) ≤ suc (length l)
  inserted_length_le a [] = omega arith
  inserted_length_le a (c ∷ l) = go (compared D L a c) (inserted_length_le a l)
    where
      go : {o : Ordering} → Compares D a c o → length (inserted cmp a l) ≤ suc (length l) → length (placed a c l (inserted cmp a l) o) ≤ suc (suc (length l))
      go (lt u) e = omega arith
      go (eq u) e = omega arith
      go (gt u) e = omega arith

  pub without_in : (a : Mono) (l : List Mono) (b : Mono) → Among b l → a ≢ b → Among b (without D a l)
  unfolding without
  without_in a (c ∷ l) b mem ne = go (same_told D L a c) mem (λ u. without_in a l b u ne)
    where
      go : {t : Bool} → Decides (a ≡ c) t → Among b (c ∷ l) → (Among b l → Among b (without D a l)) → Among b (cond t (without D a l) (c ∷ without D a l))
      go (so h) (inl e) f = absurd (ne (h ∙ sym e))
      go (so h) (inr u) f = f u
      go (not_so h) (inl e) f = inl e
      go (not_so h) (inr u) f = inr (f u)
  without_in a [] b mem ne = elim mem [ ]

  pub without_of : (a : Mono) (l : List Mono) (b : Mono) → Among b (without D a l) → Among b l × (a ≢ b)
  unfolding without
  without_of a (c ∷ l) b mem = go (same_told D L a c) mem (λ u. without_of a l b u)
    where
      go : {t : Bool} → Decides (a ≡ c) t → Among b (cond t (without D a l) (c ∷ without D a l)) → (Among b (without D a l) → Among b l × (a ≢ b)) → Among b (c ∷ l) × (a ≢ b)
      go (so h) u f = (inr (f u).0, (f u).1)
      go (not_so h) (inl e) f = (inl e, λ v. h (v ∙ e))
      go (not_so h) (inr u) f = (inr (f u).0, (f u).1)
  without_of a [] b mem = elim mem [ ]

  pub without_increasing : (a : Mono) (l : List Mono) → Increasing cmp l → Increasing cmp (without D a l)
  unfolding without
  without_increasing a [] i = i
  without_increasing a (c ∷ l) i = go (same_told D L a c) (without_increasing a l i.1)
    where
      go : {t : Bool} → Decides (a ≡ c) t → Increasing cmp (without D a l) → Increasing cmp (cond t (without D a l) (c ∷ without D a l))
      go (so h) j = j
      go (not_so h) j = (member_below cmp c (without D a l) (λ b mem. below_member cmp c l i.0 b (without_of a l b mem).0), j)

  without_length_le : (a : Mono) (l : List Mono) → length (without D a l) ≤ length l
  unfolding without
  without_length_le a [] = omega arith
  without_length_le a (c ∷ l) = go (same_told D L a c) (without_length_le a l)
    where
      go : {t : Bool} → Decides (a ≡ c) t → length (without D a l) ≤ length l → length (cond t (without D a l) (c ∷ without D a l)) ≤ suc (length l)
      go (so h) k = omega arith
      go (not_so h) k = omega arith

  pub without_length : (a : Mono) (l : List Mono) → Among a l → length (without D a l) < length l
  unfolding without
  without_length a (c ∷ l) mem = go (same_told D L a c) mem (λ u. without_length a l u)
    where
      go : {t : Bool} → Decides (a ≡ c) t → Among a (c ∷ l) → (Among a l → length (without D a l) < length l) → length (cond t (without D a l) (c ∷ without D a l)) < suc (length l)
      go (so h) u f = omega (arith, without_length_le a l)
      go (not_so h) (inl e) f = absurd (h e)
      go (not_so h) (inr u) f = omega (arith, f u)
  without_length a [] mem = elim mem [ ]

  pub divided_told : (l : List Mono) (a : Mono) → Decides ((b : Mono) × Among b l × Divides D b a) (divided D l a)
  unfolding divided
  divided_told [] a = not_so (λ t. t.1)
  divided_told (c ∷ l) a = go (divides_told D L c a) (divided_told l a)
    where
      go : {s t : Bool} → Decides (Divides D c a) s → Decides ((b : Mono) × Among b l × Divides D b a) t → Decides ((b : Mono) × Among b (c ∷ l) × Divides D b a) (s || t)
      go (so h) d = so (c, inl refl, h)
      go (not_so h) (so t) = so (t.0, inr t.1, t.2)
      go (not_so h) (not_so k) = not_so (λ t. elim t.1 [ inl e ↦ h (subst (λ (z : Mono). Divides D z a) e t.2) | inr u ↦ k (t.0, u, t.2) ])
