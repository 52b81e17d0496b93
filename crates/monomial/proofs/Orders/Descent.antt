-- The orders are well-founded: what may be assumed of all smaller monomials holds of all.
use mathlib.Core.Path.{◌≡◌, refl, sym, ap, ◌∙◌}
use mathlib.Core.Logic.{◌⊎◌, inl, inr}
use mathlib.Core.List.{List, [], ◌∷◌}
use mathlib.Core.WellFounded.{Acc}
use Prim.Native.Nat.{Ordering}
use Prim.Native.Nat.{ℕ, zero, suc, ◌<◌, compare}
use native.Mathlib.Nat.{suc_inj}
use native.Mathlib.Omega.{arith}
use lib.ListN.{length, length-replicate}
use Rattle.monomial.specs.Monomial.{one}
use Rattle.monomial.specs.Order.{Order, by_first, cmp}
use Rattle.monomial.specs.Rank.{key}
use Rattle.monomial.proofs.Algebra.Products.{aligned, aligned_length}
use Rattle.monomial.proofs.Orders.Answers.{compare_eq, compare_lt, then_lt, lt≢eq, gt≢lt}
use Rattle.monomial.proofs.Orders.Keys.{key_cmp, key_aligned}

none_below : (b : List ℕ) → by_first b [] ≡ Ordering.lt → ⊥
none_below [] h = lt≢eq (sym h)
none_below (x ∷ xs) h = gt≢lt h

module _ {ℓ} where
  -- what leads from all smaller lists of a length to a list
  abbrev Inductive : ℕ → (List ℕ → Type ℓ) → Type ℓ
  Inductive n Q = (a : List ℕ) → length a ≡ n → ((b : List ℕ) → length b ≡ n → by_first b a ≡ Ordering.lt → Q b) → Q a

  -- a list x ∷ xs, from lists one shorter, where all that begin with less are done
  row : (n : ℕ) → ((R : List ℕ → Type ℓ) → Inductive n R → (a : List ℕ) → length a ≡ n → R a) → (Q : List ℕ → Type ℓ) → Inductive (suc n) Q →
      (x : ℕ) → ((y : ℕ) → y < x → (ys : List ℕ) → length ys ≡ n → Q (y ∷ ys)) → (xs : List ℕ) → length xs ≡ n → Q (x ∷ xs)
  row n rec Q step x lower = rec (λ xs. Q (x ∷ xs)) (λ xs l ih. step (x ∷ xs) (ap suc l) (smaller xs ih))
    where
      split : (xs : List ℕ) → ((b : List ℕ) → length b ≡ n → by_first b xs ≡ Ordering.lt → Q (x ∷ b)) → (z : ℕ) (zs : List ℕ) → length zs ≡ n →
          (compare z x ≡ Ordering.lt) ⊎ ((compare z x ≡ Ordering.eq) × (by_first zs xs ≡ Ordering.lt)) → Q (z ∷ zs)
      split xs ih z zs l (inl h) = lower z (compare_lt z x h) zs l
      split xs ih z zs l (inr h) = rw (compare_eq z x h.0) (ih zs l h.1)

      smaller : (xs : List ℕ) → ((b : List ℕ) → length b ≡ n → by_first b xs ≡ Ordering.lt → Q (x ∷ b)) →
          (b : List ℕ) → length b ≡ suc n → by_first b (x ∷ xs) ≡ Ordering.lt → Q b
      smaller xs ih [] l h = absurd (omega arith)
      smaller xs ih (z ∷ zs) l h = split xs ih z zs (suc_inj l) (then_lt (compare z x) (by_first zs xs) h)

  rows_below : (n : ℕ) → ((R : List ℕ → Type ℓ) → Inductive n R → (a : List ℕ) → length a ≡ n → R a) → (Q : List ℕ → Type ℓ) → Inductive (suc n) Q →
      (x : ℕ) → (y : ℕ) → y < x → (ys : List ℕ) → length ys ≡ n → Q (y ∷ ys)
  rows_below n rec Q step zero y h = absurd (omega arith)
  rows_below n rec Q step (suc x) y h = row n rec Q step y (λ z k. rows_below n rec Q step x z (omega arith))

  first_ind : (n : ℕ) (Q : List ℕ → Type ℓ) → Inductive n Q → (a : List ℕ) → length a ≡ n → Q a
  first_ind zero Q step [] l = step [] refl (λ b m h. absurd (none_below b h))
  first_ind zero Q step (x ∷ xs) l = absurd (omega arith)
  first_ind (suc n) Q step [] l = absurd (omega arith)
  first_ind (suc n) Q step (x ∷ xs) l = row n (first_ind n) Q step x (rows_below n (first_ind n) Q step x) xs (suc_inj l)

  -- for every order, in any number of variables
  module _ (order : Order) (m : ℕ) where
    key_length : (a : List ℕ) → length a ≡ m → length (key order a) ≡ length (key order (one m))
    key_length a l = aligned_length (key_aligned order (aligned a (one m) (l ∙ sym (length-replicate m 0))))

    pub ind : (Q : List ℕ → Type ℓ) →
        ((a : List ℕ) → length a ≡ m → ((b : List ℕ) → length b ≡ m → cmp order b a ≡ Ordering.lt → Q b) → Q a) →
        (a : List ℕ) → length a ≡ m → Q a
    ind Q step a l =
        first_ind (length (key order (one m))) (λ κ. (a : List ℕ) → length a ≡ m → key order a ≡ κ → Q a)
        (λ κ n ih a l e. step a l (λ b p h. ih (key order b) (key_length b p) (rw (← e, ← key_cmp order (aligned b a (p ∙ sym l))) h) b p refl))
        (key order a) (key_length a l) a l refl

-- the same as accessibility, of the lists of m exponents
pub wf : (order : Order) (m : ℕ) (a : (l : List ℕ) × (length l ≡ m)) → Acc (λ (x y : (l : List ℕ) × (length l ≡ m)). cmp order x.0 y.0 ≡ Ordering.lt) a
wf order m a =
    ind order m (λ b. (e : length b ≡ m) → Acc (λ (x y : (l : List ℕ) × (length l ≡ m)). cmp order x.0 y.0 ≡ Ordering.lt) (b, e))
    (λ b l ih e. Acc.intro (b, e) (λ c h. ih c.0 c.1 h c.1)) a.0 a.1 a.1
