-- M-111: the run stops at the first step that gives a state met before; from there it is periodic.
use mathlib.Core.Path.{◌≡◌, refl, sym, ◌∙◌, ap, ap₂, subst}
use mathlib.Core.Bool.{Bool, true, false, cond}
use mathlib.Core.Logic.{inl, inr, ◌≢◌}
use mathlib.Core.List.{List, [], ◌∷◌}
use Prim.Native.Nat.{ℕ, zero, suc, ◌+◌, ◌-◌, ◌≤◌, ◌<◌}
use native.Mathlib.Decide.{ℕ_discrete, dec_le}
use native.Mathlib.Omega.{arith}
use lib.Dec.{T}
use Rattle.residue.specs.Lists.{Among}
use Rattle.residue.proofs.Tests.{Decides, so, not_so, of_true}
use Rattle.specification.specs.Levels.{is_among}
use Rattle.specification.specs.Counted.{place_in}
use Rattle.specification.proofs.Repeats.{among_is, is_among_lem}
use Rattle.specification.proofs.needed.Decided.{lists_told}
use Rattle.courses.specs.TimeCourse.{times, return_at, run_from, return_of}
use Rattle.std.specs.Prelude.{Some}
use Rattle.courses.specs.Returns.{NoneBefore, FirstReturn, Ends, comes, never}

module _ (f : List ℕ → List ℕ) (P : List ℕ) where
  -- the states met up to step k, the latest first
  unfoldable trail : ℕ → List (List ℕ)
  trail zero = P ∷ []
  trail (suc k) = times (suc k) f P ∷ trail k

  trail_in : (j k : ℕ) → j ≤ k → Among (times j f P) (trail k)
  unfolding trail times
  trail_in j zero h = let e : j ≡ 0 = omega arith in inl (ap (λ (i : ℕ). times i f P) e)
  trail_in j (suc k) h = go (ℕ_discrete j (suc k)) (λ z. trail_in j k z)
    where
      go : Dec (j ≡ suc k) → (j ≤ k → Among (times j f P) (trail k)) → Among (times j f P) (times (suc k) f P ∷ trail k)
      go (yes e) rec = inl (ap (λ (i : ℕ). times i f P) e)
      go (no n) rec = inr (rec (omega (arith, n)))

  -- a state met, by its place
  trail_place : (Q : List ℕ) (k : ℕ) → Among Q (trail k) → (place_in Q (trail k) ≤ k) × (Q ≡ times (k - place_in Q (trail k)) f P)
  unfolding trail place_in times
  trail_place Q zero (inl e) = go (lists_told Q P)
    where
      go : {b : Bool} → Decides (Q ≡ P) b → (cond {A = ℕ} b 0 1 ≤ 0) × (Q ≡ times (0 - cond b 0 1) f P)
      go (so h) = (omega arith, h)
      go (not_so n) = absurd (n e)
  trail_place Q (suc k) mem = go (lists_told Q (times (suc k) f P)) mem (λ z. trail_place Q k z)
    where
      go : {b : Bool} → Decides (Q ≡ times (suc k) f P) b → Among Q (times (suc k) f P ∷ trail k)
          → (Among Q (trail k) → (place_in Q (trail k) ≤ k) × (Q ≡ times (k - place_in Q (trail k)) f P))
          → (cond b 0 (suc (place_in Q (trail k))) ≤ suc k) × (Q ≡ times (suc k - cond b 0 (suc (place_in Q (trail k)))) f P)
      go (so h) z rec = let e : suc k ≡ suc k - 0 = omega arith in (omega arith, h ∙ ap (λ (i : ℕ). times i f P) e)
      go (not_so n) (inl e) rec = absurd (n e)
      go (not_so n) (inr z) rec = let w = rec z in let e : k - place_in Q (trail k) ≡ suc k - suc (place_in Q (trail k)) = omega (arith, w.0) in
          (omega (arith, w.0), w.1 ∙ ap (λ (i : ℕ). times i f P) e)
  trail_place Q zero (inr x'') = elim x'' [ ]

  -- one step that gives no state met before
  longer : (k : ℕ) → NoneBefore f P (suc k) → ¬ Among (times (suc k) f P) (trail k) → NoneBefore f P (suc (suc k))
  longer k h new i j low high = go (ℕ_discrete j (suc k))
    where
      go : Dec (j ≡ suc k) → times i f P ≢ times j f P
      go (yes e) = λ u. new (subst (λ (Q : List ℕ). Among Q (trail k)) (u ∙ ap (λ (l : ℕ). times l f P) e) (trail_in i k (omega arith)))
      go (no n) = h i j low (omega (arith, n))

  -- From step k on, with no state met twice so far.
  runs : (left k : ℕ) (Q : List ℕ) (earlier : List (List ℕ)) → Q ≡ times k f P → Q ∷ earlier ≡ trail k → NoneBefore f P (suc k)
      → Ends f P (left + k) (run_from f left k Q earlier)
  unfolding run_from times trail
  runs zero k Q earlier e t h = never (λ i j low high. h i j low (omega arith))
  runs (suc left) k Q earlier e t h = go (is_among (f Q) (Q ∷ earlier)) refl (λ new. runs left (suc k) (f Q) (Q ∷ earlier) is (grown is t) (longer k h new))
    where
      is : f Q ≡ times (suc k) f P
      is = ap f e

      grown : f Q ≡ times (suc k) f P → Q ∷ earlier ≡ trail k → f Q ∷ (Q ∷ earlier) ≡ trail (suc k)
      grown u v = ap₂ (λ (R : List ℕ) (l : List (List ℕ)). R ∷ l) u v

      back : Among (f Q) (trail k) → FirstReturn f P (suc left + k) (suc k) (suc (place_in (f Q) (trail k)))
      back mem = let w = trail_place (f Q) k mem in
          let u : k - place_in (f Q) (trail k) ≡ suc k - suc (place_in (f Q) (trail k)) = omega (arith, w.0) in record {
            some = omega arith;
            within = omega (arith, w.0);
            soon = omega arith;
            again = sym is ∙ w.1 ∙ ap (λ (i : ℕ). times i f P) u;
            first = h;
          }

      go : (b : Bool) → is_among (f Q) (Q ∷ earlier) ≡ b
          → (¬ Among (times (suc k) f P) (trail k) → Ends f P (left + suc k) (run_from f left (suc k) (f Q) (Q ∷ earlier)))
          → Ends f P (suc left + k) (cond b (Some (return_at (suc k) (suc (place_in (f Q) (Q ∷ earlier))))) (run_from f left (suc k) (f Q) (Q ∷ earlier)))
      go true g rec = subst (λ (l : List (List ℕ)). Ends f P (suc left + k) (Some (return_at (suc k) (suc (place_in (f Q) l))))) (sym t)
          (comes (suc k) (suc (place_in (f Q) (trail k))) (back (subst (Among (f Q)) t (among_is (f Q) (Q ∷ earlier) (of_true g)))))
      go false g rec = subst (λ (n : ℕ). Ends f P n (run_from f left (suc k) (f Q) (Q ∷ earlier))) (omega arith)
          (rec (λ mem. subst T g (is_among_lem (f Q) (Q ∷ earlier)
          (subst (λ (R : List ℕ). Among R (Q ∷ earlier)) (sym is) (subst (Among (times (suc k) f P)) (sym t) mem)))))

  -- 'the model is run up to 256 steps and stops at the first that gives a state met before, that first state included'
  pub run_ends : Ends f P 256 (return_of f P)
  unfolding return_of times trail
  run_ends = runs 256 0 P [] refl refl (λ i j low high. absurd (omega arith))

  -- From the earlier visit on the run is periodic, and the distance is its least period.
  module _ (most k d : ℕ) (r : FirstReturn f P most k d) where
    from_there : (n : ℕ) → times (n + (k - d) + d) f P ≡ times (n + (k - d)) f P
    unfolding times
    from_there zero =
        let a : 0 + (k - d) + d ≡ k = omega (arith, r.within) in
        let b : k - d ≡ 0 + (k - d) = omega arith in
        ap (λ (i : ℕ). times i f P) a ∙ r.again ∙ ap (λ (i : ℕ). times i f P) b
    from_there (suc n) =
        let a : suc n + (k - d) + d ≡ suc (n + (k - d) + d) = omega arith in
        let b : suc (n + (k - d)) ≡ suc n + (k - d) = omega arith in
        ap (λ (i : ℕ). times i f P) a ∙ ap f (from_there n) ∙ ap (λ (i : ℕ). times i f P) b

    pub periodic : (n : ℕ) → k - d ≤ n → times (n + d) f P ≡ times n f P
    periodic n h =
        let a : n ≡ n - (k - d) + (k - d) = omega (arith, h) in
        ap (λ (i : ℕ). times (i + d) f P) a ∙ from_there (n - (k - d)) ∙ ap (λ (i : ℕ). times i f P) (sym a)

    pub least_period : (e : ℕ) → 1 ≤ e → e < d → times (k - d + e) f P ≢ times (k - d) f P
    least_period e some less u = r.first (k - d) (k - d + e) (omega arith) (omega (arith, r.within)) (sym u)

  -- the answer is the only one
  pub return_only : (most k d k' d' : ℕ) → FirstReturn f P most k d → FirstReturn f P most k' d' → (k ≡ k') × (d ≡ d')
  return_only most k d k' d' r r' = let e = same_step (dec_le k k') (dec_le k' k) in (e, same_back e (dec_le d d') (dec_le d' d))
    where
      no_later : (i b j c : ℕ) → FirstReturn f P most i b → FirstReturn f P most j c → ¬ (i < j)
      no_later i b j c x y h = y.first (i - b) i (omega (arith, x.some, x.within)) h (sym x.again)

      same_step : Dec (k ≤ k') → Dec (k' ≤ k) → k ≡ k'
      same_step (yes a) (yes b) = omega arith
      same_step (no a) b = absurd (no_later k' d' k d r' r (omega (arith, a)))
      same_step (yes a) (no b) = absurd (no_later k d k' d' r r' (omega (arith, b)))

      same_back : k ≡ k' → Dec (d ≤ d') → Dec (d' ≤ d) → d ≡ d'
      same_back e (yes a) (yes b) = omega arith
      same_back e (no a) b = absurd (r.first (k - d) (k - d') (omega (arith, a, r.within)) (omega (arith, r'.some, r'.within, e))
          (sym r.again ∙ ap (λ (i : ℕ). times i f P) e ∙ r'.again ∙ ap (λ (i : ℕ). times i f P) (omega (arith, e))))
      same_back e (yes a) (no b) = absurd (r.first (k - d') (k - d) (omega (arith, b, r'.within, e)) (omega (arith, r.some, r.within))
          (sym (sym r.again ∙ ap (λ (i : ℕ). times i f P) e ∙ r'.again ∙ ap (λ (i : ℕ). times i f P) (omega (arith, e)))))
