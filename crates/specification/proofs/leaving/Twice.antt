-- Two variables left out, in either order: the same points in the same order, with the same counts, and the same sheet.
use mathlib.Core.Path.{◌≡◌, refl, sym, ◌∙◌, ap, ap₂}
use mathlib.Core.Bool.{Bool, true, false, cond, ◌||◌}
use mathlib.Core.Logic.{inr}
use mathlib.Core.List.{List, [], ◌∷◌, ◌++◌, map, map-append}
use Prim.Native.Nat.{ℕ, zero, suc, ◌-◌, ◌≤◌, ◌<◌}
use native.Mathlib.Nat.{le_of_suc-le-suc}
use native.Mathlib.Omega.{arith}
use lib.ListN.{length, replicate}
use lib.Dec.{leb}
use borrow.Author.Tests.{leb-true}
use Rattle.residue.specs.Lists.{Among, every, same_list}
use Rattle.residue.proofs.Tests.{true_of, of_true, and_left, and_right}
use Rattle.residue.proofs.bytes.Equality.{same_is}
use Rattle.monomial.specs.Insert.{removed_at}
use Rattle.monomial.proofs.insert.Tables.{removed_long, removed_front}
use Rattle.specification.specs.declared.settings.Settings.{Settings}
use Rattle.specification.specs.Levels.{is_among}
use Rattle.specification.specs.Counted.{Counted, points_of, counts_of, entered, entered_all, gathered}
use Rattle.specification.specs.Tables.{Tables, held_in}
use Rattle.specification.specs.Adding.{Outcome, holding}
use Rattle.specification.specs.LeaveOut.{repeated, without_variable, fewer, leave_out_outcome}
use Rattle.specification.proofs.Repeats.{is_among_lem}
use Rattle.specification.proofs.agreement.Refusals.{written_held}
use Rattle.specification.proofs.counted.Entered.{Positive}
use Rattle.specification.proofs.counted.Gathered.{positive_entered, among_entered}
use Rattle.specification.proofs.leaving.Without.{entered_has, all_append}
use Rattle.specification.proofs.leaving.Calls.{left_number, left_passed, left_outcome}

-- Another occurrence of a point that is there can be entered before other points or behind them.
swap : (Q X : List ℕ) (H : Counted) → is_among Q (points_of H) ≡ true → entered X (entered Q H) ≡ entered Q (entered X H)
unfolding entered is_among
swap Q X [] e = absurd (let z : ◌≡◌ {A = ℕ} 0 1 = cc in omega arith)
swap Q X (q ∷ H) e = go (same_list X q.0) refl (same_list Q q.0) refl e (λ z. swap Q X H z)
  where
    go : (b : Bool) → same_list X q.0 ≡ b → (d : Bool) → same_list Q q.0 ≡ d → (d || is_among Q (points_of H)) ≡ true
        → (is_among Q (points_of H) ≡ true → entered X (entered Q H) ≡ entered Q (entered X H))
        → entered X (cond d ((q.0, suc q.1) ∷ H) (q ∷ entered Q H)) ≡ entered Q (cond b ((q.0, suc q.1) ∷ H) (q ∷ entered X H))
    go true f true g z rec = rw (f, g) refl
    go true f false g z rec = rw (f, g) refl
    go false f true g z rec = rw (f, g) refl
    go false f false g z rec = rw (f, g) (ap (λ (l : Counted). q ∷ l) (rec z))

swap_all : (Q : List ℕ) (S : List (List ℕ)) (H : Counted) → Among Q (points_of H) → entered_all S (entered Q H) ≡ entered Q (entered_all S H)
unfolding entered_all
swap_all Q [] H mem = refl
swap_all Q (X ∷ S) H mem =
    ap (entered_all S) (swap Q X H (true_of _ (is_among_lem Q (points_of H) mem))) ∙ swap_all Q S (entered X H) ((among_entered X H Q).1 (inr mem))

-- Points gathered, and then gathered once more as f gives them, are gathered as f gives all of them at once.
module _ (f : List ℕ → List ℕ) where
  abbrev again : Counted → Counted → Counted
  again L H = entered_all (map f (repeated L)) H

  again_cons : (P : List ℕ) (c : ℕ) (L H : Counted) → again ((P, c) ∷ L) H ≡ again L (entered_all (map f (replicate c P)) H)
  unfolding repeated
  again_cons P c L H =
      ap (λ (S : List (List ℕ)). entered_all S H) (map-append f (replicate c P) (repeated L)) ∙ all_append (map f (replicate c P)) (map f (repeated L)) H

  again_entered : (P : List ℕ) (L : Counted) → Positive L → (H : Counted) → again (entered P L) H ≡ entered (f P) (again L H)
  unfolding entered repeated entered_all
  again_entered P [] h H = refl
  again_entered P ((R, zero) ∷ L) h H = absurd (let z = leb-true 1 0 (true_of _ (and_left (leb 1 0) (every (leb 1) (counts_of L)) h)) in omega arith)
  again_entered P ((R, suc c) ∷ L) h H = go (same_list P R) refl (λ K. again_entered P L (and_right (leb 1 (suc c)) (every (leb 1) (counts_of L)) h) K)
    where
      go : (b : Bool) → same_list P R ≡ b → ((K : Counted) → again (entered P L) K ≡ entered (f P) (again L K))
          → again (cond b ((R, suc (suc c)) ∷ L) ((R, suc c) ∷ entered P L)) H ≡ entered (f P) (again ((R, suc c) ∷ L) H)
      go true e rec =
          swap_all (f R) (map f (replicate c R ++ repeated L)) (entered (f R) H) (entered_has (f R) H)
          ∙ ap (λ (Q : List ℕ). entered (f Q) (again ((R, suc c) ∷ L) H)) (sym (same_is P R (of_true e)))
      go false e rec =
          again_cons R (suc c) (entered P L) H ∙ rec (entered_all (map f (replicate (suc c) R)) H) ∙ ap (entered (f P)) (sym (again_cons R (suc c) L H))

  again_all : (S : List (List ℕ)) (L : Counted) → Positive L → (H : Counted) → again (entered_all S L) H ≡ entered_all (map f S) (again L H)
  unfolding entered_all
  again_all [] L h H = refl
  again_all (P ∷ S) L h H = again_all S (entered P L) (positive_entered P L h) H ∙ ap (entered_all (map f S)) (again_entered P L h H)

  pub gathered_again : (S : List (List ℕ)) → gathered (map f (repeated (gathered S))) ≡ gathered (map f S)
  unfolding gathered repeated entered_all
  gathered_again S = again_all S [] tt []

-- Two places out of a list.
removed_twice : {A : Type 0} (k j : ℕ) (l : List A) → k < j → removed_at k (removed_at j l) ≡ removed_at (j - 1) (removed_at k l)
unfolding removed_at
removed_twice {A} k j l h = let e : j ≡ suc (j - 1) = omega arith in ap (λ (i : ℕ). removed_at k (removed_at i l)) e ∙ go k (j - 1) l (omega arith)
  where
    go : (k i : ℕ) (l : List A) → k ≤ i → removed_at k (removed_at (suc i) l) ≡ removed_at i (removed_at k l)
    go zero zero [] h = refl
    go zero (suc i) [] h = refl
    go (suc k) zero [] h = absurd (omega arith)
    go (suc k) (suc i) [] h = refl
    go zero i (a ∷ l) h = refl
    go (suc k) zero (a ∷ l) h = absurd (omega arith)
    go (suc k) (suc i) (a ∷ l) h = ap (λ (z : List A). a ∷ z) (go k i l (le_of_suc-le-suc h))

pub without_twice : (k j : ℕ) (L : Counted) → k < j → without_variable k (without_variable j L) ≡ without_variable (j - 1) (without_variable k L)
unfolding without_variable
without_twice k j L h =
    gathered_again (removed_at k) (map (removed_at j) (repeated L)) ∙ ap gathered (both (repeated L))
    ∙ sym (gathered_again (removed_at (j - 1)) (map (removed_at k) (repeated L)))
  where
    both : (S : List (List ℕ)) → map (removed_at k) (map (removed_at j) S) ≡ map (removed_at (j - 1)) (map (removed_at k) S)
    both [] = refl
    both (P ∷ S) = ap₂ (λ (Q : List ℕ) (l : List (List ℕ)). Q ∷ l) (removed_twice k j P h) (both S)

-- The settings.
pub fewer_twice : (s : Settings) (v w : ℕ) → 1 ≤ v → v < w → w ≤ length s.weights → fewer v (fewer w s) ≡ fewer (w - 1) (fewer v s)
fewer_twice s v w one less most =
    ap (λ (l : List ℕ). record { modulus = s.modulus; variables = s.variables - 1 - 1; order = s.order; weights = l ++ (0 ∷ []) }) same
  where
    same : removed_at (v - 1) (removed_at (w - 1) s.weights ++ (0 ∷ [])) ≡ removed_at (w - 1 - 1) (removed_at (v - 1) s.weights ++ (0 ∷ []))
    same =
        removed_front (v - 1) (removed_at (w - 1) s.weights) (0 ∷ []) (omega (arith, removed_long (w - 1) s.weights (omega arith), most))
        ∙ ap (λ (l : List ℕ). l ++ (0 ∷ [])) (removed_twice (v - 1) (w - 1) s.weights (omega arith))
        ∙ sym (removed_front (w - 1 - 1) (removed_at (v - 1) s.weights) (0 ∷ []) (omega (arith, removed_long (v - 1) s.weights (omega arith), most)))

-- The sheets: what the second call leaves, from the points of the tables that the first was handed.
module _ (s : Settings) (n r : ℕ) (t : Tables) (v : ℕ) (u : Tables) where
  abbrev first : Outcome
  first = leave_out_outcome s n r t v u

  abbrev second : ℕ → Tables → Outcome
  second w x = leave_out_outcome (fewer v s) first.answer.n first.answer.r first.tables w x

  second_leaves : (w : ℕ) (x : Tables) → first.answer.refusal ≡ 0 → (second w x).answer.refusal ≡ 0
      → second w x ≡ holding (fewer w (fewer v s)) (without_variable (w - 1) (without_variable (v - 1) (held_in s n t))) x
  unfolding holding
  second_leaves w x e f =
      let z = sym (left_number s n r t v u) ∙ e in
      let h = left_passed s n r t v u z in
      let L : Counted = without_variable (v - 1) (held_in s n t) in
      let held : held_in (fewer v s) first.answer.n first.tables ≡ L =
      ap (λ (o : Outcome). held_in (fewer v s) o.answer.n o.tables) (left_outcome s n r t v u z) ∙ written_held (fewer v s) h.fine L h.entries u in
      left_outcome (fewer v s) _ _ _ w x (sym (left_number (fewer v s) _ _ _ w x) ∙ f)
      ∙ ap (λ (K : Counted). holding (fewer w (fewer v s)) (without_variable (w - 1) K) x) held

-- Variables v and w, above v, left out one after the other: w first, or v first, whereupon the other is w - 1. Into the same tables it is the same outcome.
pub either_order : (s : Settings) (n r : ℕ) (t : Tables) (v w : ℕ) (x y z : Tables) → length s.weights ≡ 8 → 1 ≤ v → v < w
    → let a = leave_out_outcome s n r t w x in let b = leave_out_outcome s n r t v y in
    let c = leave_out_outcome (fewer w s) a.answer.n a.answer.r a.tables v z in
    let d = leave_out_outcome (fewer v s) b.answer.n b.answer.r b.tables (w - 1) z in
    a.answer.refusal ≡ 0 → b.answer.refusal ≡ 0 → c.answer.refusal ≡ 0 → d.answer.refusal ≡ 0 → c ≡ d
either_order s n r t v w x y z long one less ea eb ec ed =
    let h = left_passed s n r t w x (sym (left_number s n r t w x) ∙ ea) in
    second_leaves s n r t w x v z ea ec
    ∙ ap₂ (λ (q : Settings) (L : Counted). holding q L z) (fewer_twice s v w one less (omega (arith, h.most, h.ok.few, long)))
    (without_twice (v - 1) (w - 1) (held_in s n t) (omega (arith, one, less)))
    ∙ sym (second_leaves s n r t v y (w - 1) z eb ed)
