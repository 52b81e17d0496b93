-- In how many places two points of 8 bytes differ.
use mathlib.Core.Path.{◌≡◌, refl, sym, ap, ◌∙◌}
use mathlib.Core.Logic.{◌≢◌, ◌⊎◌, inl, inr}
use mathlib.Core.List.{List, [], ◌∷◌}
use Prim.Native.Nat.{ℕ, zero, suc, ◌+◌, ◌<◌, ◌≤◌}
use native.Mathlib.Nat.{le_of_suc-le-suc}
use native.Mathlib.Decide.{ℕ_discrete}
use native.Mathlib.Omega.{arith}
use lib.ListN.{length, get_or}
use mathlib.Core.Bool.{Bool, true, false, true≢false}
use lib.Dec.{eqb}
use borrow.Author.Tests.{eq-eqb, ne_eqb}
use Rattle.std.specs.Prelude.{Option, Some, None, ◌↔◌}
use Rattle.std.specs.Option.{is_some, option_eq}
use Rattle.std.proofs.lemmas.Option.{none-some, same_Some}
use Rattle.residue.proofs.Tests.{told_true, true_told}
use Rattle.specification.specs.Needed.{Apart, apart}
use Rattle.specification.proofs.needed.Coordinates.{apart_told}

-- The only one of the first i places in which two points differ, or none where they differ in none.
abbrev pub OnlyOne : List ℕ → List ℕ → ℕ → Option ℕ → Type 0
OnlyOne a b i None = (j : ℕ) → j < i → get_or a j 0 ≡ get_or b j 0
OnlyOne a b i (Some p) = (p < i) × ((get_or a p 0 ≢ get_or b p 0) × ((j : ℕ) → j < i → j ≢ p → get_or a j 0 ≡ get_or b j 0))

module _ (a b : List ℕ) (i : ℕ) where
  pub only_same : (only : Option ℕ) → get_or a i 0 ≡ get_or b i 0 → OnlyOne a b i only → OnlyOne a b (i + 1) only
  only_same None e d = λ j h. go j (ℕ_discrete j i) h
    where
      go : (j : ℕ) → Dec (j ≡ i) → j < i + 1 → get_or a j 0 ≡ get_or b j 0
      go j (yes u) h = rw u e
      go j (no u) h = d j (omega arith)
  only_same (Some p) e d = (omega (arith, d.0), (d.1.0, λ j h ne. go j (ℕ_discrete j i) h ne))
    where
      go : (j : ℕ) → Dec (j ≡ i) → j < i + 1 → j ≢ p → get_or a j 0 ≡ get_or b j 0
      go j (yes u) h ne = rw u e
      go j (no u) h ne = d.1.1 j (omega arith) ne

  pub only_first : (only : Option ℕ) → is_some only ≡ false → get_or a i 0 ≢ get_or b i 0 → OnlyOne a b i only → OnlyOne a b (i + 1) (Some i)
  only_first None n ne d = (omega arith, (ne, λ j h u. d j (omega arith)))
  only_first (Some p) n ne d = absurd (true≢false n)

past : (l : List ℕ) (j : ℕ) → length l ≤ j → get_or l j 0 ≡ 0
past [] j h = refl
past (x ∷ l) zero h = absurd (omega arith)
past (x ∷ l) (suc j) h = past l j (le_of_suc-le-suc h)

below_or : (j m : ℕ) → (j < m) ⊎ (m ≤ j)
below_or j zero = inr (omega arith)
below_or zero (suc m) = inl (omega arith)
below_or (suc j) (suc m) = elim (below_or j m) [ inl h ↦ inl (omega arith) | inr h ↦ inr (omega arith) ]

-- Of 8 places.
module _ (a b : List ℕ) (la : length a ≡ 8) (lb : length b ≡ 8) (k : ℕ) where
  behind : (j : ℕ) → 8 ≤ j → get_or a j 0 ≡ get_or b j 0
  behind j l = past a j (omega arith) ∙ sym (past b j (omega arith))

  -- two places differ, so that none is the only one
  pub two_differ : (i : ℕ) (only : Option ℕ) → is_some only ≡ true → get_or a i 0 ≢ get_or b i 0 → OnlyOne a b i only → (apart k a b ≡ true) ↔ (None ≡ Some k)
  two_differ i None s ne d = absurd (true≢false (sym s))
  two_differ i (Some p) s ne d = (λ e. absurd (go (ℕ_discrete i k) (said e)), λ e. absurd (none-some k e))
    where
      said : apart k a b ≡ true → Apart k a b
      said = true_told (apart_told k a b (la ∙ sym lb))

      go : Dec (i ≡ k) → Apart k a b → ⊥
      go (yes u) z = d.1.0 (z.others p (λ v. omega (arith, d.0)))
      go (no u) z = ne (z.others i u)

  pub only_told : (i : ℕ) (only : Option ℕ) → i ≡ 8 → k < 8 → OnlyOne a b i only → (apart k a b ≡ true) ↔ (only ≡ Some k)
  only_told i None e h d = (λ t. absurd ((true_told (apart_told k a b (la ∙ sym lb)) t).here (d k (omega arith))), λ t. absurd (none-some k t))
  only_told i (Some p) e h d = (λ t. ap Some (go (ℕ_discrete p k) (true_told (apart_told k a b (la ∙ sym lb)) t)), λ t. told_true (apart_told k a b (la ∙ sym lb)) (there (same_Some p k t)))
    where
      go : Dec (p ≡ k) → Apart k a b → p ≡ k
      go (yes u) z = u
      go (no u) z = absurd (d.1.0 (z.others p u))

      there : p ≡ k → Apart k a b
      there u = record {
        others = λ j ne. elim (below_or j 8) [ inl l ↦ d.1.1 j (omega arith) (λ z. ne (z ∙ u)) | inr l ↦ behind j l ];
        here = rw (← u) d.1.0;
      }

-- the same as the answer of a test
pub told_same : (only : Option ℕ) (k : ℕ) (b : Bool) → (b ≡ true) ↔ (only ≡ Some k) → option_eq eqb only (Some k) ≡ b
told_same None k true d = absurd (none-some k (d.0 refl))
told_same None k false d = refl
told_same (Some p) k true d = eq-eqb p k (same_Some p k (d.0 refl))
told_same (Some p) k false d = ne_eqb p k (λ e. true≢false (sym (d.1 (ap Some e))))
