-- Points and their first values as entries come one after the other: the points in order of first occurrence, and the values that stay with them.
use mathlib.Core.Path.{◌≡◌, refl, sym, ap, ◌∙◌}
use mathlib.Core.Bool.{Bool, true, false, cond, ◌||◌}
use mathlib.Core.List.{List, [], ◌∷◌, ◌++◌, map-append, append_assoc, append-nil}
use mathlib.Core.Logic.{inl, inr}
use Prim.Native.Nat.{ℕ, suc, ◌<◌, ◌≤◌}
use native.Mathlib.Omega.{arith}
use lib.ListN.{length, get_or}
use lib.Dec.{ltb}
use borrow.Author.Tests.{le-ltb, ltb-false}
use Rattle.residue.specs.Lists.{Among, same_list}
use Rattle.residue.proofs.Tests.{true_of, of_true}
use Rattle.residue.proofs.bytes.Equality.{same_is}
use Rattle.specification.specs.Levels.{is_among}
use Rattle.specification.specs.Counted.{Counted, points_of, entered, entered_all, gathered, place_in}
use Rattle.specification.proofs.Repeats.{among_is, is_among_lem}
use Rattle.specification.proofs.counted.Gathered.{among_gathered}
use Rattle.specification.proofs.counted.Room.{all_grow}
use Rattle.comma_text.proofs.reading.FirstPlaces.{fault_step}
use Rattle.comma_text.specs.reading.Text.{Valued, further, first_after, too_many, first_value, first_values}

-- the points of entries, distinct, with their counts
abbrev pub gathered_points : List Valued → Counted
gathered_points E = gathered (points_of E)

all_append : (A B : List (List ℕ)) (L : Counted) → entered_all (A ++ B) L ≡ entered_all B (entered_all A L)
unfolding entered_all
all_append [] B L = refl
all_append (P ∷ A) B L = all_append A B (entered P L)

pub counted_more : (E : List Valued) (q : Valued) → gathered_points (E ++ (q ∷ [])) ≡ entered q.0 (gathered_points E)
unfolding gathered entered_all
counted_more E q = ap gathered (map-append (λ x. x.0) E (q ∷ [])) ∙ all_append (points_of E) (q.0 ∷ []) []

-- Where all entries together have at most 64 points, none of them is one too many.
pub never_many : (seen l : List Valued) → length (gathered_points (seen ++ l)) ≤ 64 → first_after too_many seen l ≡ 0
unfolding first_after too_many further gathered
never_many seen [] h = refl
never_many seen (q ∷ l) h =
    let front = seen ++ (q ∷ []) in
    let whole : front ++ l ≡ seen ++ (q ∷ l) = append_assoc seen (q ∷ []) l in
    let few : length (gathered_points front) ≤ 64 = omega (arith, grows front l, ap (λ (E : List Valued). length (gathered_points E)) whole, h) in
    rw (le-ltb 64 (length (gathered_points front)) few, never_many front l (omega (arith, ap (λ (E : List Valued). length (gathered_points E)) whole, h))) refl
  where
    grows : (A B : List Valued) → length (gathered_points A) ≤ length (gathered_points (A ++ B))
    grows A B =
        let e : gathered_points (A ++ B) ≡ entered_all (points_of B) (gathered_points A) = ap gathered (map-append (λ x. x.0) A B) ∙ all_append (points_of A) (points_of B) [] in
        omega (arith, all_grow (points_of B) (gathered_points A), ap length e)

-- Where none of them is, there are at most 64.
pub few_points : (seen l : List Valued) → length (gathered_points seen) ≤ 64 → first_after too_many seen l ≡ 0 → length (gathered_points (seen ++ l)) ≤ 64
unfolding first_after too_many
few_points seen [] h z = rw (append-nil seen) h
few_points seen (q ∷ l) h z =
    let s = fault_step (ltb 64 (length (gathered_points (seen ++ (q ∷ []))))) (first_after too_many (seen ++ (q ∷ [])) l) z in
    rw (← append_assoc seen (q ∷ []) l) (few_points (seen ++ (q ∷ [])) l (ltb-false 64 (length (gathered_points (seen ++ (q ∷ [])))) s.0) s.1)

-- a point is among the distinct ones where it is among all
pub among_counted : (P : List ℕ) (E : List Valued) → is_among P (points_of (gathered_points E)) ≡ is_among P (points_of E)
among_counted P E = go (is_among P (points_of (gathered_points E))) refl (is_among P (points_of E)) refl
  where
    go : (b : Bool) → is_among P (points_of (gathered_points E)) ≡ b → (c : Bool) → is_among P (points_of E) ≡ c → b ≡ c
    go true e true f = refl
    go true e false f = absurd (rw f at (is_among_lem P (points_of E) ((among_gathered (points_of E) P).0 (among_is P (points_of (gathered_points E)) (of_true e)))))
    go false e true f = absurd (rw e at (is_among_lem P (points_of (gathered_points E)) ((among_gathered (points_of E) P).1 (among_is P (points_of E) (of_true f)))))
    go false e false f = refl

module _ (P : List ℕ) where
  -- The value of a point that is there stays; a new one's is its own.
  pub value_there : (v w : ℕ) (E F : List Valued) → is_among P (points_of E) ≡ true → first_value P v (E ++ F) ≡ first_value P w E
  unfolding first_value is_among
  value_there v w [] F e = absurd (let z : ◌≡◌ {A = ℕ} 0 1 = cc in omega arith)
  value_there v w (q ∷ E) F e = go (same_list P q.0) e (λ f. value_there v w E F f)
    where
      go : (b : Bool) → (b || is_among P (points_of E)) ≡ true → (is_among P (points_of E) ≡ true → first_value P v (E ++ F) ≡ first_value P w E)
          → cond b q.1 (first_value P v (E ++ F)) ≡ cond b q.1 (first_value P w E)
      go true e f = refl
      go false e f = f e

  pub value_new : (v : ℕ) (E F : List Valued) → is_among P (points_of E) ≡ false → first_value P v (E ++ F) ≡ first_value P v F
  unfolding first_value is_among
  value_new v [] F e = refl
  value_new v (q ∷ E) F e = go (same_list P q.0) e (λ f. value_new v E F f)
    where
      go : (b : Bool) → (b || is_among P (points_of E)) ≡ false → (is_among P (points_of E) ≡ false → first_value P v (E ++ F) ≡ first_value P v F)
          → cond b q.1 (first_value P v (E ++ F)) ≡ first_value P v F
      go true e f = absurd (let z : ◌≡◌ {A = ℕ} 0 1 = cc in omega arith)
      go false e f = f e

  -- it stands in the point's place
  pub value_at_lem : (S : List (List ℕ)) (E : List Valued) → is_among P S ≡ true → get_or (first_values S E) (place_in P S) 0 ≡ first_value P 0 E
  unfolding first_values place_in is_among
  value_at_lem [] E e = absurd (let z : ◌≡◌ {A = ℕ} 0 1 = cc in omega arith)
  value_at_lem (Q ∷ S) E e = go (same_list P Q) refl e (λ f. value_at_lem S E f)
    where
      go : (b : Bool) → same_list P Q ≡ b → (b || is_among P S) ≡ true → (is_among P S ≡ true → get_or (first_values S E) (place_in P S) 0 ≡ first_value P 0 E)
          → get_or (first_value Q 0 E ∷ first_values S E) (cond b 0 (suc (place_in P S))) 0 ≡ first_value P 0 E
      go true s e f = ap (λ (R : List ℕ). first_value R 0 E) (sym (same_is P Q (of_true s)))
      go false s e f = f e

-- the values of points that are all there stay
values_stay : (S : List (List ℕ)) (E F : List Valued) → ((Q : List ℕ) → Among Q S → Among Q (points_of E)) → first_values S (E ++ F) ≡ first_values S E
unfolding first_values
values_stay [] E F h = refl
values_stay (Q ∷ S) E F h =
    let a : first_value Q 0 (E ++ F) ≡ first_value Q 0 E = value_there Q 0 0 E F (true_of _ (is_among_lem Q (points_of E) (h Q (inl refl)))) in
    let b = values_stay S E F (λ R q. h R (inr q)) in
    cc

pub values_kept : (E F : List Valued) → first_values (points_of (gathered_points E)) (E ++ F) ≡ first_values (points_of (gathered_points E)) E
values_kept E F = values_stay (points_of (gathered_points E)) E F (λ Q q. (among_gathered (points_of E) Q).0 q)

-- each is a value of an entry
pub value_below : (p : ℕ) (P : List ℕ) (v : ℕ) (E : List Valued) → v < p → ((q : Valued) → Among q E → q.1 < p) → first_value P v E < p
unfolding first_value
value_below p P v [] h k = h
value_below p P v (q ∷ E) h k = go (same_list P q.0) (value_below p P v E h (λ x w. k x (inr w)))
  where
    go : (b : Bool) → first_value P v E < p → cond b q.1 (first_value P v E) < p
    go true f = k q (inl refl)
    go false f = f
