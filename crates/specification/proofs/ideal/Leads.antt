-- The leads when one of them has become standard: the others, and its products that none of those divides.
use mathlib.Core.Path.{◌≡◌, refl, subst}
use mathlib.Core.List.{List}
use mathlib.Core.Logic.{◌⊎◌, inl, inr}
use mathlib.Core.Bool.{Bool, cond}
use Prim.Native.Nat.{ℕ, zero, suc, ◌+◌, ◌≤◌, ◌<◌}
use native.Mathlib.Omega.{arith}
use native.Mathlib.Decide.{ℕ_discrete}
use lib.ListN.{length}
use Rattle.residue.specs.Lists.{Among}
use Rattle.residue.proofs.Tests.{Decides, so, not_so}
use Rattle.monomial.specs.Increasing.{Increasing, inserted}
use Rattle.monomial.proofs.Orders.Increasing.{inserted_only, inserted_increasing, inserted_adds}
use Rattle.specification.specs.Space.{Space, Divides}
use Rattle.specification.specs.Extension.{without, extended}
use Rattle.specification.proofs.ideal.Laws.{Laws}
use Rattle.specification.proofs.ideal.Increasing.{inserted_length_le, without_increasing, divided_told}

module _ (D : Space) (leads : List D.Mono) (α : D.Mono) where
  open D use {Mono, x}

  -- one of the other leads divides a
  abbrev pub Divided : Mono → Type 0
  Divided a = (b : Mono) × Among b (without D α leads) × Divides D b a

  -- b is such a product
  abbrev pub New : ℕ → Mono → Type 0
  New j b = (k : ℕ) × (k < j) × (b ≡ x k α) × ¬ Divided (x k α)

module _ (D : Space) (L : Laws D) (leads : List D.Mono) (α : D.Mono) where
  open D use {Mono, x, cmp}
  open L use {order}

  pub extended_increasing : Increasing cmp leads → (j : ℕ) → Increasing cmp (extended D leads α j)
  unfolding extended
  extended_increasing i zero = without_increasing D L α leads i
  extended_increasing i (suc k) = go (divided_told D L (without D α leads) (x k α)) (extended_increasing i k)
    where
      go : {X : Type 0} {t : Bool} → Decides X t → Increasing cmp (extended D leads α k) → Increasing cmp (cond t (extended D leads α k) (inserted cmp (x k α) (extended D leads α k)))
      go (so h) j = j
      go (not_so h) j = inserted_increasing cmp order (x k α) (extended D leads α k) j

  pub extended_of : (j : ℕ) (b : Mono) → Among b (extended D leads α j) → Among b (without D α leads) ⊎ New D leads α j b
  unfolding extended
  extended_of zero b mem = inl mem
  extended_of (suc k) b mem = go (divided_told D L (without D α leads) (x k α)) mem (extended_of k b)
    where
      up : Among b (without D α leads) ⊎ New D leads α k b → Among b (without D α leads) ⊎ New D leads α (suc k) b
      up (inl mem) = inl mem
      up (inr t) = inr (t.0, omega (arith, t.1), t.2, t.3)

      go : {t : Bool} → Decides (Divided D leads α (x k α)) t → Among b (cond t (extended D leads α k) (inserted cmp (x k α) (extended D leads α k)))
          → (Among b (extended D leads α k) → Among b (without D α leads) ⊎ New D leads α k b) → Among b (without D α leads) ⊎ New D leads α (suc k) b
      go (so h) mem f = up (f mem)
      go (not_so h) mem f = elim (inserted_only cmp (x k α) (extended D leads α k) b mem) [ inl e ↦ inr (k, omega arith, e, h) | inr z ↦ up (f z) ]

  pub extended_length_le : (j : ℕ) → length (extended D leads α j) ≤ length (without D α leads) + j
  unfolding extended
  extended_length_le zero = omega arith
  extended_length_le (suc k) = go (divided_told D L (without D α leads) (x k α)) (extended_length_le k)
    where
      go : {X : Type 0} {t : Bool} → Decides X t → length (extended D leads α k) ≤ length (without D α leads) + k
          → length (cond t (extended D leads α k) (inserted cmp (x k α) (extended D leads α k))) ≤ length (without D α leads) + suc k
      go (so h) e = omega arith
      go (not_so h) e = omega (arith, inserted_length_le D L (x k α) (extended D leads α k))

  extended_up : (k : ℕ) (b : Mono) → Among b (extended D leads α k) → Among b (extended D leads α (suc k))
  unfolding extended
  extended_up k b mem = go (divided_told D L (without D α leads) (x k α))
    where
      go : {X : Type 0} {t : Bool} → Decides X t → Among b (cond t (extended D leads α k) (inserted cmp (x k α) (extended D leads α k)))
      go (so h) = mem
      go (not_so h) = inserted_adds cmp order (x k α) (extended D leads α k) b (inr mem)

  pub extended_old : (j : ℕ) (b : Mono) → Among b (without D α leads) → Among b (extended D leads α j)
  unfolding extended
  extended_old zero b mem = mem
  extended_old (suc k) b mem = extended_up k b (extended_old k b mem)

  pub extended_new : (j k : ℕ) → k < j → ¬ Divided D leads α (x k α) → Among (x k α) (extended D leads α j)
  unfolding extended
  extended_new zero k h ne = absurd (omega arith)
  extended_new (suc i) k h ne = go (ℕ_discrete i k) (λ u. extended_new i k u ne)
    where
      here : {t : Bool} → Decides (Divided D leads α (x i α)) t → ¬ Divided D leads α (x i α) → Among (x i α) (cond t (extended D leads α i) (inserted cmp (x i α) (extended D leads α i)))
      here (so h) ne = absurd (ne h)
      here (not_so h) ne = inserted_adds cmp order (x i α) (extended D leads α i) (x i α) (inl refl)

      go : Dec (i ≡ k) → (k < i → Among (x k α) (extended D leads α i)) → Among (x k α) (extended D leads α (suc i))
      go (yes e) f = subst (λ (z : ℕ). Among (x z α) (extended D leads α (suc i))) e (here (divided_told D L (without D α leads) (x i α)) (rw e ne))
      go (no e) f = extended_up i (x k α) (f (omega arith))
