-- The wiring list: the numbers of the variables that pass the search, put one after the other.
use mathlib.Core.Path.{◌≡◌, refl, sym, ◌∙◌, ap, ap₂, subst}
use mathlib.Core.Bool.{Bool, true, false, cond}
use mathlib.Core.List.{List, [], ◌∷◌, ◌++◌, zip, append-nil}
use mathlib.Core.Logic.{inl, inr, ◌⊎◌}
use Prim.Native.Nat.{ℕ, zero, suc, ◌+◌, ◌<◌, ◌≤◌, compare}
use native.Mathlib.Decide.{ℕ_discrete}
use native.Mathlib.Numerals.{add-one}
use native.Mathlib.Omega.{arith}
use lib.ListN.{length, length-append}
use borrow.Author.Tests.{ne_eqb}
use Rattle.residue.specs.Lists.{Among}
use Rattle.residue.specs.Layout.{fill, over}
use Rattle.residue.proofs.Tests.{Decides, so, not_so}
use Rattle.monomial.proofs.Orders.Answers.{less, said}
use Rattle.specification.specs.Needed.{pair_in, wiring_of, Names}
use Rattle.specification.specs.Solving.{Listed, listing}
use Rattle.specification.proofs.ideal.Lists.{snoc_of, snoc_in, snoc_increasing}

module _ (S : List (List ℕ)) (vs : List ℕ) where
  pub names_on : (k : ℕ) → pair_in k (zip S vs) ≡ true → wiring_of (k + 1) S vs ≡ wiring_of k S vs ++ ((k + 1) ∷ [])
  unfolding wiring_of
  names_on k e = rw add-one (simp e)

  pub names_off : (k : ℕ) → pair_in k (zip S vs) ≡ false → wiring_of (k + 1) S vs ≡ wiring_of k S vs
  unfolding wiring_of
  names_off k e = rw add-one (simp (e, append-nil))

  pub names_length : (k : ℕ) → length (wiring_of k S vs) ≤ k
  unfolding wiring_of
  names_length zero = omega arith
  names_length (suc k) = go (pair_in k (zip S vs)) (names_length k)
    where
      go : (b : Bool) → length (wiring_of k S vs) ≤ k → length (wiring_of k S vs ++ cond b (suc k ∷ []) []) ≤ suc k
      go true h = rw (length-append (wiring_of k S vs) (suc k ∷ [])) (omega arith)
      go false h = rw (append-nil (wiring_of k S vs)) (omega arith)

-- one variable more, of which X holds or not
more : (X : ℕ → Type 0) (k : ℕ) (names : List ℕ) → Names k X names → {b : Bool} → Decides (X k) b → Names (suc k) X (names ++ cond b (suc k ∷ []) [])
more X k names h (so x) = record {
  increasing = snoc_increasing compare names (suc k) h.increasing (λ j q. let w = (h.members j).0 q in said (less (omega (arith, w.1, w.2))));
  members = λ j. ((λ q. elim (snoc_of names (suc k) j q) [ inl z ↦ let w = (h.members j).0 z in (w.0, w.1, omega (arith, w.2), w.3) | inr f ↦ (k, f, omega arith, x) ]), λ w. snoc_in names (suc k) j (at j w (ℕ_discrete w.0 k)));
}
  where
    at : (j : ℕ) (w : (i : ℕ) × (j ≡ suc i) × (i < suc k) × X i) → Dec (w.0 ≡ k) → Among j names ⊎ (j ≡ suc k)
    at j w (yes f) = inr (w.1 ∙ ap suc f)
    at j w (no f) = inl ((h.members j).1 (w.0, w.1, omega (arith, w.2), w.3))
more X k names h (not_so n) = subst (Names (suc k) X) (sym (append-nil names)) (record {
  increasing = h.increasing;
  members = λ j. ((λ q. let w = (h.members j).0 q in (w.0, w.1, omega (arith, w.2), w.3)), λ w. (h.members j).1 (w.0, w.1, before w.0 w.2 w.3, w.3));
})
  where
    before : (i : ℕ) → i < suc k → X i → i < k
    before i u t = go (ℕ_discrete i k)
      where
        go : Dec (i ≡ k) → i < k
        go (yes f) = absurd (n (subst X f t))
        go (no f) = omega arith

-- The computed list is the one that is said, of anything that the search decides.
pub names_are : (S : List (List ℕ)) (vs : List ℕ) (X : ℕ → Type 0) → ((k : ℕ) → Decides (X k) (pair_in k (zip S vs))) → (m : ℕ) → Names m X (wiring_of m S vs)
unfolding wiring_of
names_are S vs X d zero = record { increasing = tt; members = λ j. ((λ q. absurd q), λ w. absurd (omega (arith, w.2))) }
names_are S vs X d (suc k) = more X k (wiring_of k S vs) (names_are S vs X d k) (d k)

-- searches with the same answers
pub names_same : (S T : List (List ℕ)) (vs ws : List ℕ) → ((k : ℕ) → pair_in k (zip S vs) ≡ pair_in k (zip T ws)) → (m : ℕ) → wiring_of m S vs ≡ wiring_of m T ws
unfolding wiring_of
names_same S T vs ws h zero = refl
names_same S T vs ws h (suc m) = ap₂ (λ (l : List ℕ) (b : Bool). l ++ cond b (suc m ∷ []) []) (names_same S T vs ws h m) (h m)

-- the outcome of the call, by its number
module _ (names buffer : List ℕ) (k : ℕ) where
  pub list_refused : (j : ℕ) → j ≡ k → (j ≡ 0 → ⊥) → ◌≡◌ {A = Listed} (record { answer = record { refusal = j; count = 0 }; buffer = buffer }) (listing k names buffer)
  unfolding listing
  list_refused j e n = rw (← e) (simp (ne_eqb j 0 n))

  pub list_accepted : (c : ℕ) (end : List ℕ) → 0 ≡ k → c ≡ length names → end ≡ over (fill 8 names) buffer
      → ◌≡◌ {A = Listed} (record { answer = record { refusal = 0; count = c }; buffer = end }) (listing k names buffer)
  unfolding listing
  list_accepted c end e f g = rw (← e, f, g) refl
