-- The first of a list that has a fault, by its place: the computed place means what specs/reading/Faults.antt says.
use mathlib.Core.Path.{◌≡◌, refl, sym, ap, ◌∙◌, subst}
use mathlib.Core.Bool.{Bool, true, false, cond}
use mathlib.Core.List.{List, [], ◌∷◌, ◌++◌, append_assoc, append-nil}
use mathlib.Core.Logic.{◌↔◌}
use Prim.Native.Nat.{ℕ, zero, suc}
use native.Mathlib.Omega.{arith}
use lib.ListN.{length}
use Rattle.residue.proofs.Tests.{Decides, so, not_so, told_true, told_false}
use Rattle.comma_text.specs.reading.Text.{further, first_fault, first_after}
use Rattle.comma_text.specs.reading.Faults.{FirstAt}
use Rattle.comma_text.proofs.reading.FirstPlaces.{further_some, fault_step, fault_after}

pub further_found : (n k : ℕ) → further n ≡ suc k → (j : ℕ) × (n ≡ suc j) × (k ≡ suc j)
unfolding further
further_found zero k h = absurd (omega arith)
further_found (suc j) k h = let e = sym (further_some j) ∙ h in (j, refl, omega arith)

-- a fault with the test that tells it
module _ {A : Type 0} (Fault : List A → A → Type 0) (f : List A → A → Bool) (told : (b : List A) (a : A) → Decides (Fault b a) (f b a)) where
  -- those before it, behind others that were seen
  abbrev Behind : List A → List A → A → Type 0
  Behind seen b a = Fault (seen ++ b) a

  at_once : (seen : List A) (a : A) → Behind seen [] a ≡ Fault seen a
  at_once seen a = ap (λ (s : List A). Fault s a) (append-nil seen)

  one_more : (seen b : List A) (x a : A) → Behind (seen ++ (x ∷ [])) b a ≡ Behind seen (x ∷ b) a
  one_more seen b x a = ap (λ (s : List A). Fault s a) (append_assoc seen (x ∷ []) b)

  read_at_lem : (seen before : List A) (bad : A) (after : List A) → Behind seen before bad
      → ((b : List A) (a : A) (c : List A) → before ≡ b ++ (a ∷ c) → ¬ Behind seen b a) → first_after f seen (before ++ (bad ∷ after)) ≡ suc (length before)
  unfolding first_after
  read_at_lem seen [] bad after x n = rw (told_true (told seen bad) (subst (λ (X : Type 0). X) (at_once seen bad) x))
  read_at_lem seen (a ∷ before) bad after x n =
      let e : f seen a ≡ false = told_false (told seen a) (λ y. n [] a before refl (subst (λ (X : Type 0). X) (sym (at_once seen a)) y)) in
      let r = read_at_lem (seen ++ (a ∷ [])) before bad after (subst (λ (X : Type 0). X) (sym (one_more seen before a bad)) x)
      (λ b c d q y. n (a ∷ b) c d (ap (λ (l : List A). a ∷ l) q) (subst (λ (X : Type 0). X) (one_more seen b a c) y)) in
      rw e (ap further r ∙ further_some (length before))

  first_read : (l : List A) (k : ℕ) → FirstAt Fault l k → first_after f [] l ≡ suc k
  first_read l k r = ap (first_after f []) r.made ∙ read_at_lem [] r.before r.bad r.after r.fault r.none_earlier ∙ ap suc r.count

  found_at : (seen l : List A) (k : ℕ) → first_after f seen l ≡ suc k → FirstAt (Behind seen) l k
  unfolding first_after
  found_at seen [] k h = absurd (omega arith)
  found_at seen (a ∷ l) k h = pick (told seen a) h (λ j e. found_at (seen ++ (a ∷ [])) l j e)
    where
      pick : {t : Bool} → Decides (Fault seen a) t → cond t 1 (further (first_after f (seen ++ (a ∷ [])) l)) ≡ suc k
          → ((j : ℕ) → first_after f (seen ++ (a ∷ [])) l ≡ suc j → FirstAt (Behind (seen ++ (a ∷ []))) l j) → FirstAt (Behind seen) (a ∷ l) k
      pick (so x) h rec = record {
        before = [];
        bad = a;
        after = l;
        made = refl;
        count = omega arith;
        fault = subst (λ (X : Type 0). X) (sym (at_once seen a)) x;
        none_earlier = λ b c d e y. absurd (none b c d e);
      }
        where
          none : (b : List A) (c : A) (d : List A) → [] ≡ b ++ (c ∷ d) → ⊥
          none [] c d e = let z : ◌≡◌ {A = ℕ} 0 1 = cc in omega arith
          none (x ∷ b) c d e = let z : ◌≡◌ {A = ℕ} 0 1 = cc in omega arith
      pick (not_so n) h rec = let (j, p, q) = further_found (first_after f (seen ++ (a ∷ [])) l) k h in more j q (rec j p)
        where
          more : (j : ℕ) → k ≡ suc j → FirstAt (Behind (seen ++ (a ∷ []))) l j → FirstAt (Behind seen) (a ∷ l) k
          more j q r = let c = r.count in record {
            before = a ∷ r.before;
            bad = r.bad;
            after = r.after;
            made = ap (λ (x : List A). a ∷ x) r.made;
            count = omega arith;
            fault = subst (λ (X : Type 0). X) (one_more seen r.before a r.bad) r.fault;
            none_earlier = λ b x d e. none b x d e;
          }
            where
              none : (b : List A) (x : A) (d : List A) → a ∷ r.before ≡ b ++ (x ∷ d) → ¬ Behind seen b x
              none [] x d e y =
                  let s : x ≡ a = cc in
                  n (subst (Fault seen) s (subst (λ (X : Type 0). X) (at_once seen x) y))
              none (z ∷ b) x d e y =
                  let s : z ≡ a = cc in
                  let t : r.before ≡ b ++ (x ∷ d) = cc in
                  r.none_earlier b x d t
                  (subst (λ (X : Type 0). X) (sym (one_more seen b a x)) (subst (λ (v : A). Fault (seen ++ (v ∷ b)) x) s y))

  pub first_at : (l : List A) (k : ℕ) → FirstAt Fault l k ↔ (first_after f [] l ≡ suc k)
  first_at l k = (first_read l k, found_at [] l k)

  -- no place: none has a fault
  fine_at : (seen l : List A) → first_after f seen l ≡ 0 → (b : List A) (a : A) (c : List A) → l ≡ b ++ (a ∷ c) → ¬ Behind seen b a
  unfolding first_after
  fine_at seen l z [] a c e y = go (f seen a) (told seen a) (sym (ap (first_after f seen) e) ∙ z)
    where
      go : (t : Bool) → Decides (Fault seen a) t → cond t 1 (further (first_after f (seen ++ (a ∷ [])) c)) ≡ 0 → ⊥
      go true d k = omega arith
      go false (not_so n) k = n (subst (λ (X : Type 0). X) (at_once seen a) y)
  fine_at seen l z (x ∷ b) a c e y =
      let s = fault_step (f seen x) (first_after f (seen ++ (x ∷ [])) (b ++ (a ∷ c))) (sym (ap (first_after f seen) e) ∙ z) in
      fine_at (seen ++ (x ∷ [])) (b ++ (a ∷ c)) s.1 b a c refl (subst (λ (X : Type 0). X) (sym (one_more seen b x a)) y)

  pub none_at : (l : List A) → first_after f [] l ≡ 0 → (b : List A) (a : A) (c : List A) → l ≡ b ++ (a ∷ c) → ¬ Fault b a
  none_at l z = fine_at [] l z

-- a fault in which those before have no part
pub first_alone : {A : Type 0} (Fault : A → Type 0) (f : A → Bool) → ((a : A) → Decides (Fault a) (f a))
    → (l : List A) (k : ℕ) → FirstAt (λ b a. Fault a) l k ↔ (first_fault f l ≡ suc k)
first_alone Fault f told l k =
    let e = fault_after f [] l in
    let g = first_at (λ b a. Fault a) (λ s a. f a) (λ b a. told a) l k in
    ((λ r. e ∙ g.0 r), λ h. g.1 (sym e ∙ h))
