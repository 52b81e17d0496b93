-- A list with one put in at its place, and without the one at a place: the insertions and removals of the definitions, as the tables have them.
use mathlib.Core.Path.{◌≡◌, refl, sym, ap, ap₂}
use mathlib.Core.Bool.{Bool, cond, ◌||◌}
use mathlib.Core.List.{List, [], ◌∷◌, ◌++◌, map}
use mathlib.Core.Logic.{inl, inr, ◌≢◌}
use Prim.Native.Nat.{ℕ, zero, suc, ◌<◌, Ordering}
use native.Mathlib.Nat.{le_of_suc-le-suc}
use native.Mathlib.Omega.{arith}
use lib.ListN.{length, get_or, take, drop}
use lib.Dec.{is_le}
use Rattle.residue.specs.Lists.{Among}
use Rattle.residue.proofs.Tests.{Decides, so, not_so}
use Rattle.monomial.specs.Monomial.{divides}
use Rattle.monomial.specs.Increasing.{Increasing, placed, inserted}
use Rattle.monomial.specs.Insert.{inserted_at, removed_at, place_of, divided_by}
use Rattle.monomial.proofs.Orders.Increasing.{below_member}
use Rattle.specification.specs.Space.{Space}
use Rattle.specification.specs.Extension.{slot, without, divided}
use Rattle.specification.proofs.ideal.Laws.{Laws, Compares, lt, eq, gt, compared, same_told, less_ne}
use Rattle.specification.proofs.ideal.Lists.{get_d_among}

module _ (D : Space) (L : Laws D) where
  open D use {Mono, one, cmp}

  -- a new monomial
  module _ (a : Mono) where
    pub inserted_at_lem : (l : List Mono) → ((b : Mono) → Among b l → a ≢ b) → inserted cmp a l ≡ inserted_at (place_of cmp a l) a l
    unfolding place_of inserted_at
    inserted_at_lem [] out = refl
    inserted_at_lem (b ∷ l) out = go (compared D L a b) (inserted_at_lem l (λ e mem. out e (inr mem)))
      where
        go : {o : Ordering} → Compares D a b o → inserted cmp a l ≡ inserted_at (place_of cmp a l) a l
            → placed a b l (inserted cmp a l) o ≡ take (cond (is_le o) 0 (suc (place_of cmp a l))) (b ∷ l) ++ (a ∷ drop (cond (is_le o) 0 (suc (place_of cmp a l))) (b ∷ l))
        go (lt h) ih = refl
        go (eq h) ih = absurd (out b (inl refl) h)
        go (gt h) ih = ap (λ (z : List Mono). b ∷ z) ih

    -- and its coefficient
    pub slot_at : (k : ℕ) (l : List Mono) (cs : List ℕ) → length cs ≡ length l → ((b : Mono) → Among b l → a ≢ b) → slot D a k l cs ≡ inserted_at (place_of cmp a l) k cs
    unfolding slot place_of inserted_at
    slot_at k [] [] e out = refl
    slot_at k [] (c ∷ cs) e out = absurd (omega arith)
    slot_at k (b ∷ l) [] e out = absurd (omega arith)
    slot_at k (b ∷ l) (c ∷ cs) e out = go (compared D L a b) (slot_at k l cs (omega arith) (λ f mem. out f (inr mem)))
      where
        go : {o : Ordering} → Compares D a b o → slot D a k l cs ≡ inserted_at (place_of cmp a l) k cs
            → placed k c cs (slot D a k l cs) o ≡ take (cond (is_le o) 0 (suc (place_of cmp a l))) (c ∷ cs) ++ (k ∷ drop (cond (is_le o) 0 (suc (place_of cmp a l))) (c ∷ cs))
        go (lt h) ih = refl
        go (eq h) ih = absurd (out b (inl refl) h)
        go (gt h) ih = ap (λ (z : List ℕ). c ∷ z) ih

  without_none : (a : Mono) (l : List Mono) → ((b : Mono) → Among b l → a ≢ b) → without D a l ≡ l
  unfolding without
  without_none a [] out = refl
  without_none a (b ∷ l) out = go (same_told D L a b) (without_none a l (λ e mem. out e (inr mem)))
    where
      go : {t : Bool} → Decides (a ≡ b) t → without D a l ≡ l → cond t (without D a l) (b ∷ without D a l) ≡ b ∷ l
      go (so h) ih = absurd (out b (inl refl) h)
      go (not_so h) ih = ap (λ (z : List Mono). b ∷ z) ih

  -- the leads but the j-th
  pub without_at : (l : List Mono) (j : ℕ) → Increasing cmp l → j < length l → without D (get_or l j one) l ≡ removed_at j l
  unfolding without removed_at
  without_at [] j s h = absurd (omega arith)
  without_at (b ∷ l) zero s h = go (same_told D L b b)
    where
      go : {t : Bool} → Decides (b ≡ b) t → cond t (without D b l) (b ∷ without D b l) ≡ l
      go (so u) = without_none b l (λ e mem. less_ne D L (below_member cmp b l s.0 e mem))
      go (not_so u) = absurd (u refl)
  without_at (b ∷ l) (suc j) s h = go (same_told D L (get_or l j one) b) (without_at l j s.1 (le_of_suc-le-suc h))
    where
      go : {t : Bool} → Decides (get_or l j one ≡ b) t → without D (get_or l j one) l ≡ removed_at j l → cond t (without D (get_or l j one) l) (b ∷ without D (get_or l j one) l) ≡ b ∷ (take j l ++ drop (suc j) l)
      go (so u) ih = absurd (less_ne D L (below_member cmp b l s.0 (get_or l j one) (get_d_among l j one (le_of_suc-le-suc h))) (sym u))
      go (not_so u) ih = ap (λ (z : List Mono). b ∷ z) ih

  -- a divisor among monomials is one among their exponents
  pub divided_map : (f : Mono → List ℕ) (l : List Mono) (a : Mono) → ((b : Mono) → Among b l → divides (f b) (f a) ≡ D.divides b a) → divided_by (map f l) (f a) ≡ divided D l a
  unfolding divided_by divided
  divided_map f [] a h = refl
  divided_map f (b ∷ l) a h = ap₂ ◌||◌ (h b (inl refl)) (divided_map f l a (λ e mem. h e (inr mem)))
