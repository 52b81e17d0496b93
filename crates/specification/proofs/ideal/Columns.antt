-- Coefficients with one put in, and coefficients less a multiple of others: lengths, entries and values.
use mathlib.Core.Path.{◌≡◌, refl, ap}
use mathlib.Core.List.{List, [], ◌∷◌}
use mathlib.Core.Logic.{◌⊎◌, inl, inr, ◌≢◌}
use Prim.Native.Nat.{ℕ, suc, ◌+◌, ◌*◌, ◌<◌, suc-le-suc, zero-le, Ordering}
use native.Mathlib.Omega.{arith}
use native.Mathlib.Nat.{mod-lt}
use lib.ListN.{length}
use Rattle.residue.specs.Congruence.{Mod}
use Rattle.residue.specs.Lists.{Among}
use Rattle.monomial.specs.Increasing.{placed, inserted}
use Rattle.residue.proofs.Congruence.{rfl, of, ◌plus◌, ◌times◌, lin, reduce}
use Rattle.specification.specs.Space.{Space}
use Rattle.specification.specs.Polynomial.{terms}
use Rattle.specification.specs.Extension.{slot, minus}
use Rattle.specification.proofs.ideal.Laws.{Laws, Compares, lt, eq, gt, compared}
use Rattle.specification.proofs.ideal.Polynomials.{pair}

module _ (D : Space) (L : Laws D) where
  open D use {Mono, cmp}

  pub slot_length : (α : Mono) (k : ℕ) (l : List Mono) (cs : List ℕ) → length cs ≡ length l → length (slot D α k l cs) ≡ length (inserted cmp α l)
  unfolding slot
  slot_length α k [] cs e = refl
  slot_length α k (b ∷ l) [] e = absurd (omega arith)
  slot_length α k (b ∷ l) (c ∷ cs) e = go (compared D L α b) (slot_length α k l cs (omega arith))
    where
      go : {o : Ordering} → Compares D α b o → length (slot D α k l cs) ≡ length (inserted cmp α l) → length (placed k c cs (slot D α k l cs) o) ≡ length (placed α b l (inserted cmp α l) o)
      go (lt h) i = omega arith
      go (eq h) i = omega arith
      go (gt h) i = omega arith

  pub slot_value : (α : Mono) (k : ℕ) (l : List Mono) (cs : List ℕ) (φ : Mono → ℕ) → length cs ≡ length l → ((b : Mono) → Among b l → α ≢ b)
      → pair D (terms D (slot D α k l cs) (inserted cmp α l)) φ ≡ k * φ α + pair D (terms D cs l) φ
  unfolding slot
  slot_value α k [] [] φ e h = refl
  slot_value α k [] (c ∷ cs) φ e h = absurd (omega arith)
  slot_value α k (b ∷ l) [] φ e h = absurd (omega arith)
  slot_value α k (b ∷ l) (c ∷ cs) φ e h = go (compared D L α b) (slot_value α k l cs φ (omega arith) (λ d mem. h d (inr mem)))
    where
      go : {o : Ordering} → Compares D α b o → pair D (terms D (slot D α k l cs) (inserted cmp α l)) φ ≡ k * φ α + pair D (terms D cs l) φ
          → pair D (terms D (placed k c cs (slot D α k l cs) o) (placed α b l (inserted cmp α l) o)) φ ≡ k * φ α + (c * φ b + pair D (terms D cs l) φ)
      go (lt u) i = refl
      go (eq u) i = absurd (h b (inl refl) u)
      go (gt u) i = omega arith

  pub slot_members : (α : Mono) (k : ℕ) (l : List Mono) (cs : List ℕ) (c : ℕ) → Among c (slot D α k l cs) → (c ≡ k) ⊎ Among c cs
  unfolding slot
  slot_members α k [] cs c (inl e) = inl e
  slot_members α k (b ∷ l) [] c mem = absurd mem
  slot_members α k (b ∷ l) (d ∷ cs) c mem = go (compared D L α b) mem (slot_members α k l cs c)
    where
      go : {o : Ordering} → Compares D α b o → Among c (placed k d cs (slot D α k l cs) o) → (Among c (slot D α k l cs) → (c ≡ k) ⊎ Among c cs) → (c ≡ k) ⊎ Among c (d ∷ cs)
      go (lt u) (inl e) f = inl e
      go (lt u) (inr z) f = inr z
      go (eq u) z f = inr z
      go (gt u) (inl e) f = inr (inl e)
      go (gt u) (inr z) f = elim (f z) [ inl w ↦ inl w | inr w ↦ inr (inr w) ]
  slot_members α k [] cs c (inr x'') = elim x'' [ ]

module _ (D : Space) where
  open D use {q, Mono}

  pub minus_length : (cs : List ℕ) (k : ℕ) (rs : List ℕ) → length cs ≡ length rs → length (minus D cs k rs) ≡ length cs
  unfolding minus
  minus_length [] k rs e = refl
  minus_length (c ∷ cs) k [] e = absurd (omega arith)
  minus_length (c ∷ cs) k (r ∷ rs) e = ap suc (minus_length cs k rs (omega arith))

  pub minus_small : (cs : List ℕ) (k : ℕ) (rs : List ℕ) (c : ℕ) → Among c (minus D cs k rs) → c < suc q
  unfolding minus
  minus_small [] k rs c mem = absurd mem
  minus_small (d ∷ cs) k [] c mem = absurd mem
  minus_small (d ∷ cs) k (r ∷ rs) c (inl e) = rw e (mod-lt (d + q * (k * r)) (suc-le-suc zero-le))
  minus_small (d ∷ cs) k (r ∷ rs) c (inr mem) = minus_small cs k rs c mem

  pub minus_value : (cs : List ℕ) (k : ℕ) (rs : List ℕ) (l : List Mono) (φ : Mono → ℕ) → length cs ≡ length rs → length cs ≡ length l
      → Mod (suc q) (pair D (terms D (minus D cs k rs) l) φ) (pair D (terms D cs l) φ + q * (k * pair D (terms D rs l) φ))
  unfolding minus
  minus_value [] k [] l φ e f = of (omega arith)
  minus_value [] k (r ∷ rs) l φ e f = absurd (omega arith)
  minus_value (c ∷ cs) k [] l φ e f = absurd (omega arith)
  minus_value (c ∷ cs) k (r ∷ rs) [] φ e f = absurd (omega arith)
  minus_value (c ∷ cs) k (r ∷ rs) (a ∷ l) φ e f =
      lin ((reduce (suc q) (c + q * (k * r)) times rfl {x = φ a}) plus minus_value cs k rs l φ (omega arith) (omega arith)) 0 0 (omega arith)
