-- The place of a point: the search along a table, and what the place says.
use mathlib.Core.Path.{◌≡◌, refl, sym, ap, ap₂, ◌∙◌}
use mathlib.Core.Bool.{Bool, true, false, not, cond, ◌||◌}
use mathlib.Core.Logic.{inl, inr}
use mathlib.Core.List.{List, [], ◌∷◌, map}
use Prim.Native.Nat.{ℕ, zero, suc, ◌+◌, ◌*◌, ◌-◌, ◌<◌, ◌≤◌}
use native.Mathlib.Omega.{arith}
use lib.ListN.{length, get_or, take, drop, length-drop}
use lib.Seq.{length-take-le}
use Rattle.std.proofs.Common.{Option, Some, None}
use Rattle.std.specs.Option.{unwrap_or}
use Rattle.std.specs.List.{position_or_len}
use lib.Dec.{T, eqb, ltb}
use borrow.Author.Tests.{ltb-true, ltb-false, lt-ltb, le-ltb}
use Rattle.residue.specs.Vector.{Below}
use Rattle.residue.specs.Layout.{groups, fill}
use Rattle.residue.specs.Lists.{Among, same_list, key_of}
use Rattle.residue.proofs.Tests.{of_true}
use Rattle.residue.proofs.vector.Vectors.{below_take, below_drop}
use Rattle.residue.proofs.bytes.Equality.{same_filled, same_is}
use Rattle.residue.proofs.bytes.Keys.{key_same}
use Rattle.residue.proofs.Places.{length_groups, groups_at}
use Rattle.residue.proofs.Replaced.{part_long}
use Rattle.specification.specs.Levels.{is_among, no_repeat}
use Rattle.specification.specs.Counted.{place_in}
use Rattle.specification.proofs.agreement.Points.{once_of}
use Rattle.specification.proofs.ideal.Lists.{get_d_among}

-- the key of a point and the one of the ith place of a table are equal exactly where the bytes are
pub keys_told : (P t : List ℕ) (i : ℕ) {own other : ℕ} → Below 256 P → Below 256 t → length P ≡ 8 → 8 * i + 8 ≤ length t → own ≡ key_of 8 P
    → other ≡ key_of 8 (take (8 * i + 8 - 8 * i) (drop (8 * i) t)) → same_list P (take 8 (drop (8 * i) t)) ≡ eqb own other
keys_told P t i f g long room u v =
    let e : 8 * i + 8 - 8 * i ≡ 8 = omega arith in
    sym (ap₂ eqb u (v ∙ ap (λ (k : ℕ). key_of 8 (take k (drop (8 * i) t))) e)
    ∙ key_same P (take 8 (drop (8 * i) t)) f (below_take 256 8 (drop (8 * i) t) (below_drop 256 (8 * i) t g)) long (part_long (8 * i) 8 8 t refl room))

turned : (b : Bool) (k : ℕ) → cond (not b) (1 + k) 0 ≡ cond b 0 (suc k)
turned true k = refl
turned false k = omega arith

-- the search by keys finds the point's place
pub place_by_key : {own : ℕ} (P : List ℕ) → Below 256 P → length P ≡ 8 → own ≡ key_of 8 P → (n : ℕ) (t : List ℕ) → Below 256 t → 8 * n ≤ length t
    → position_or_len (λ (Q : List ℕ). eqb own (key_of 8 Q)) (groups 8 n t) ≡ place_in P (groups 8 n t)
unfolding place_in groups
place_by_key P f long u zero t g room = refl
place_by_key {own} P f long u (suc n) t g room =
    let same : eqb own (key_of 8 (take 8 t)) ≡ same_list P (take 8 t) = ap (λ (k : ℕ). eqb k (key_of 8 (take 8 t))) u ∙ key_same P (take 8 t) f (below_take 256 8 t g) long (length-take-le 8 t (omega arith)) in
    turned (eqb own (key_of 8 (take 8 t))) (position_or_len (λ (Q : List ℕ). eqb own (key_of 8 Q)) (groups 8 n (drop 8 t))) ∙ ap₂ (λ (b : Bool) (k : ℕ). cond b 0 (suc k)) same (place_by_key P f long u n (drop 8 t) (below_drop 256 8 t g) (simp length-drop (omega arith)))

-- and where it finds none, the place is behind the last one
pub place_or_end : {o : Option ℕ} {k n : ℕ} → o ≡ cond (ltb k n) (Some k) None → k ≤ n → unwrap_or o n ≡ k
place_or_end {o} {k} {n} e h = go (ltb k n) refl e
  where
    go : (b : Bool) → ltb k n ≡ b → o ≡ cond b (Some k) None → unwrap_or o n ≡ k
    go true f z = rw z refl
    go false f z = let below = ltb-false k n f in rw z (omega arith)

pub place_le : (P : List ℕ) (S : List (List ℕ)) → place_in P S ≤ length S
unfolding place_in
place_le P [] = omega arith
place_le P (Q ∷ S) = go (same_list P Q) (place_le P S)
  where
    go : (b : Bool) → place_in P S ≤ length S → cond b 0 (suc (place_in P S)) ≤ suc (length S)
    go true h = omega arith
    go false h = omega arith

pub place_few : (P t : List ℕ) (n : ℕ) → place_in P (groups 8 n t) ≤ n
place_few P t n = omega (arith, place_le P (groups 8 n t), length_groups 8 n t)

-- a place before the end has the point
pub place_has : (P : List ℕ) (S : List (List ℕ)) → place_in P S < length S → P ≡ get_or S (place_in P S) []
unfolding place_in
place_has P [] h = absurd (omega arith)
place_has P (Q ∷ S) h = go (same_list P Q) refl h (place_has P S)
  where
    go : (b : Bool) → same_list P Q ≡ b → cond b 0 (suc (place_in P S)) < suc (length S) → (place_in P S < length S → P ≡ get_or S (place_in P S) [])
        → P ≡ get_or (Q ∷ S) (cond b 0 (suc (place_in P S))) []
    go true e k f = same_is P Q (of_true e)
    go false e k f = f (omega arith)

-- where no point repeats, a place with this point is its place
pub place_once : (P : List ℕ) (S : List (List ℕ)) (i : ℕ) → T (no_repeat S) → i < length S → same_list P (get_or S i []) ≡ true → i ≡ place_in P S
unfolding place_in
place_once P [] i t h e = absurd (omega arith)
place_once P (Q ∷ S) zero t h e = rw e refl
place_once P (Q ∷ S) (suc i) t h e = go (same_list P Q) refl (place_once P S i (once_of S Q t).1 (omega arith) e)
  where
    go : (b : Bool) → same_list P Q ≡ b → i ≡ place_in P S → suc i ≡ cond b 0 (suc (place_in P S))
    go true f k =
        let same = sym (same_is P Q (of_true f)) ∙ same_is P (get_or S i []) (of_true e) in
        absurd ((once_of S Q t).0 (get_or S i []) (get_d_among S i [] (omega arith)) same)
    go false f k = ap suc k

pub guessed : (P t : List ℕ) (n i : ℕ) → T (no_repeat (groups 8 n t)) → i < n → same_list P (take 8 (drop (8 * i) t)) ≡ true → i ≡ place_in P (groups 8 n t)
guessed P t n i once h e = place_once P (groups 8 n t) i once (omega (arith, length_groups 8 n t)) (ap (same_list P) (groups_at 8 n i t [] h) ∙ e)

-- the same place among points that are filled up with zeros
pub place_filled : (k m : ℕ) → m ≤ k → (P : List ℕ) (S : List (List ℕ)) → length P ≡ m → ((Q : List ℕ) → Among Q S → length Q ≡ m)
    → place_in (fill k P) (map (fill k) S) ≡ place_in P S
unfolding place_in
place_filled k m fits P [] e h = refl
place_filled k m fits P (Q ∷ S) e h =
    let l = h Q (inl refl) in
    ap₂ (λ (b : Bool) (n : ℕ). cond b 0 (suc n)) (same_filled k P Q (omega arith) (omega arith)) (place_filled k m fits P S e (λ R q. h R (inr q)))

pub among_place : (P : List ℕ) (S : List (List ℕ)) → ltb (place_in P S) (length S) ≡ is_among P S
unfolding place_in is_among
among_place P [] = refl
among_place P (Q ∷ S) = go (same_list P Q) (among_place P S)
  where
    step : (b : Bool) → ltb (place_in P S) (length S) ≡ b → ltb (suc (place_in P S)) (suc (length S)) ≡ ltb (place_in P S) (length S)
    step true e = let h : place_in P S < length S = ltb-true _ _ e in lt-ltb (suc (place_in P S)) (suc (length S)) (omega arith) ∙ sym e
    step false e = let h : length S ≤ place_in P S = ltb-false _ _ e in le-ltb (suc (place_in P S)) (suc (length S)) (omega arith) ∙ sym e

    go : (b : Bool) → ltb (place_in P S) (length S) ≡ is_among P S → ltb (cond b 0 (suc (place_in P S))) (suc (length S)) ≡ (b || is_among P S)
    go true e = lt-ltb 0 (suc (length S)) (omega arith)
    go false e = step (ltb (place_in P S) (length S)) refl ∙ e
