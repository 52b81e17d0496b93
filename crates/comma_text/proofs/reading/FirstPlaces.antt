-- The first place of a fault: one entry more, the entry at fault, and that a place is at most the length.
use mathlib.Core.Path.{◌≡◌, refl, sym, ap, ◌∙◌}
use mathlib.Core.Bool.{Bool, true, false, not, cond}
use mathlib.Core.List.{List, [], ◌∷◌, ◌++◌, append_assoc, append-nil}
use Prim.Native.Nat.{ℕ, zero, suc, ◌≤◌}
use native.Mathlib.Omega.{arith}
use lib.ListN.{length}
use lib.Dec.{eqb-suc-zero}
use Rattle.comma_text.specs.reading.Text.{further, first_fault, first_after}
use Rattle.comma_text.specs.reading.Points.{earlier_place}

pub further_some : (k : ℕ) → further (suc k) ≡ suc (suc k)
unfolding further
further_some k = rw (eqb-suc-zero k) refl

further_le : (k n : ℕ) → k ≤ n → further k ≤ suc n
unfolding further
further_le zero n h = omega arith
further_le (suc k) n h = rw (eqb-suc-zero k) (omega arith)

further_place : (k : ℕ) (b : Bool) (n : ℕ) → further (earlier_place k b (suc n)) ≡ earlier_place (further k) b (suc (suc n))
unfolding earlier_place further
further_place zero true n = refl
further_place zero false n = rw (eqb-suc-zero n)
further_place (suc k) b n = simp (eqb-suc-zero)

-- no fault at the front of a list, and none behind it
pub fault_step : (b : Bool) (k : ℕ) → cond b 1 (further k) ≡ 0 → (b ≡ false) × (k ≡ 0)
unfolding further
fault_step true k h = absurd (omega arith)
fault_step false zero h = (refl, refl)
fault_step false (suc k) h = let z = rw (eqb-suc-zero k) at h in absurd (omega arith)

-- no place was found so far, and none now
pub none_found : (k : ℕ) (b : Bool) (n : ℕ) → earlier_place k b (suc n) ≡ 0 → (k ≡ 0) × (b ≡ true)
unfolding earlier_place
none_found zero true n h = (refl, refl)
none_found zero false n h = absurd (omega arith)
none_found (suc k) b n h = let z = rw (eqb-suc-zero k) at h in absurd (omega arith)

module _ {A : Type 0} (f : List A → A → Bool) where
  pub after_more : (seen l : List A) (a : A) → first_after f seen (l ++ (a ∷ [])) ≡ earlier_place (first_after f seen l) (not (f (seen ++ l) a)) (suc (length l))
  unfolding first_after earlier_place further
  after_more seen [] a = rw (append-nil seen) (go (f seen a))
    where
      go : (x : Bool) → cond {A = ℕ} x 1 (further 0) ≡ cond (not x) 0 1
      go true = refl
      go false = refl
  after_more seen (b ∷ l) a = go (f seen b) (after_more (seen ++ (b ∷ [])) l a)
    where
      go : (x : Bool) → first_after f (seen ++ (b ∷ [])) (l ++ (a ∷ [])) ≡ earlier_place (first_after f (seen ++ (b ∷ [])) l) (not (f ((seen ++ (b ∷ [])) ++ l) a)) (suc (length l))
          → cond x 1 (further (first_after f (seen ++ (b ∷ [])) (l ++ (a ∷ []))))
          ≡ earlier_place (cond x 1 (further (first_after f (seen ++ (b ∷ [])) l))) (not (f (seen ++ (b ∷ l)) a)) (suc (suc (length l)))
      go true h = refl
      go false h =
          ap further h ∙ further_place (first_after f (seen ++ (b ∷ [])) l) (not (f ((seen ++ (b ∷ [])) ++ l) a)) (length l)
          ∙ ap (λ (s : List A). earlier_place (further (first_after f (seen ++ (b ∷ [])) l)) (not (f s a)) (suc (suc (length l)))) (append_assoc seen (b ∷ []) l)

  -- the first that has a fault, others behind it
  pub after_found : (seen l : List A) (a : A) (rest : List A) → first_after f seen l ≡ 0 → f (seen ++ l) a ≡ true → suc (length l) ≡ first_after f seen (l ++ (a ∷ rest))
  unfolding first_after
  after_found seen [] a rest z e = rw (rw (append-nil seen) at e) refl
  after_found seen (b ∷ l) a rest z e =
      let s = fault_step (f seen b) (first_after f (seen ++ (b ∷ [])) l) z in
      let g = ap (λ (x : List A). f x a) (append_assoc seen (b ∷ []) l) ∙ e in
      rw s.0 (sym (ap further (sym (after_found (seen ++ (b ∷ [])) l a rest s.1 g)) ∙ further_some (length l)))

  pub after_le : (seen l : List A) → first_after f seen l ≤ length l
  unfolding first_after
  after_le seen [] = omega arith
  after_le seen (a ∷ l) = go (f seen a) (first_after f (seen ++ (a ∷ [])) l) (after_le (seen ++ (a ∷ [])) l)
    where
      go : (b : Bool) (k : ℕ) → k ≤ length l → cond b 1 (further k) ≤ suc (length l)
      go true k h = omega arith
      go false k h = further_le k (length l) h

-- a fault that does not look at those before
pub fault_after : {A : Type 0} (f : A → Bool) (seen l : List A) → first_fault f l ≡ first_after (λ s a. f a) seen l
unfolding first_fault first_after
fault_after f seen [] = refl
fault_after f seen (a ∷ l) = ap (λ (k : ℕ). cond (f a) 1 (further k)) (fault_after f (seen ++ (a ∷ [])) l)

pub fault_le : {A : Type 0} (f : A → Bool) (l : List A) → first_fault f l ≤ length l
fault_le f l = rw (fault_after f [] l) (after_le (λ s a. f a) [] l)
