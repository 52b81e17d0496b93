-- Places of one width in a table, read or written one after the other.
use mathlib.Core.Path.{◌≡◌, refl, ◌∙◌, ap, sym, ap₂}
use mathlib.Core.Logic.{inl, inr}
use mathlib.Core.List.{List, [], ◌∷◌, ◌++◌, map, append_assoc, append-nil}
use Prim.Native.Nat.{ℕ, zero, suc, ◌+◌, ◌*◌, ◌-◌, ◌<◌, ◌≤◌}
use native.Mathlib.Omega.{arith}
use native.Mathlib.Nat.{le_of_suc-le-suc, add-sub_cancel_left}
use native.Mathlib.Numerals.{add-one}
use lib.ListN.{length, take, drop, get_or, length-drop, get_or-map, replicate, length-append, length-replicate, replicate-append-replicate, length-take}
use lib.Seq.{drop-drop, length-take-le, take_at, drop_at}
use Rattle.residue.specs.Layout.{groups, fill, in_places, over, length_fill}
use Rattle.residue.specs.Lists.{Among}
use Rattle.residue.proofs.Layouts.{places_back, table_split, fill_zeros, length_places, fill_exact, length_over, fill_twice}

-- Reading.
module _ {A : Type 0} (w : ℕ) where
  pub length_groups : (n : ℕ) (t : List A) → length (groups w n t) ≡ n
  unfolding groups
  length_groups zero t = refl
  length_groups (suc n) t = ap suc (length_groups n (drop w t))

  -- from the ith on, one place is read
  pub groups_step : (n i : ℕ) (t : List A) → i < n → groups w (n - i) (drop (w * i) t) ≡ take w (drop (w * i) t) ∷ groups w (n - (i + 1)) (drop (w * (i + 1)) t)
  unfolding groups
  groups_step n i t h =
      let e : n - i ≡ suc (n - (i + 1)) = omega arith in
      let d : w * i + w ≡ w * (i + 1) = omega arith in
      rw (e, drop-drop w (w * i) t, d)

  pub groups_end : (n i : ℕ) (t : List A) → n ≤ i → groups w (n - i) t ≡ []
  unfolding groups
  groups_end n i t h = let e : n - i ≡ 0 = omega arith in rw e

  more : (i : ℕ) (t : List A) → groups w (suc i) t ≡ groups w i t ++ (take w (drop (w * i) t) ∷ [])
  unfolding groups
  more zero t = let e : w * 0 ≡ 0 = omega arith in rw e
  more (suc i) t =
      let e : w + w * i ≡ w * suc i = omega arith in
      ap (λ (z : List (List A)). take w t ∷ z) (more i (drop w t) ∙ rw (drop-drop (w * i) w t, e))

  -- the first i and one more
  pub groups_more : (i : ℕ) (t : List A) → groups w (i + 1) t ≡ groups w i t ++ (take w (drop (w * i) t) ∷ [])
  groups_more i t = ap (λ (k : ℕ). groups w k t) (add-one i) ∙ more i t

  -- the ith of them
  pub groups_at : (n i : ℕ) (t d : List A) → i < n → get_or (groups w n t) i d ≡ take w (drop (w * i) t)
  unfolding groups
  groups_at zero i t d h = absurd (omega arith)
  groups_at (suc n) zero t d h = let e : w * 0 ≡ 0 = omega arith in rw e
  groups_at (suc n) (suc i) t d h =
      let e : w + w * i ≡ w * suc i = omega arith in
      groups_at n i (drop w t) d (le_of_suc-le-suc h) ∙ rw (drop-drop (w * i) w t, e)

-- each group has its width
pub groups_long : {A : Type 0} (w k : ℕ) (l : List A) → w * k ≤ length l → (e : List A) → Among e (groups w k l) → length e ≡ w
unfolding groups
groups_long w zero l h e q = absurd q
groups_long w (suc k) l h e (inl f) = ap length f ∙ length-take-le w l (omega arith)
groups_long w (suc k) l h e (inr q) = groups_long w k (drop w l) (rw (length-drop w l) (omega arith)) e q

-- the places of a table, filled up
pub table_groups : (w N : ℕ) (S : List (List ℕ)) → w * length S ≤ N → groups w (length S) (fill N (in_places w S)) ≡ map (fill w) S
table_groups w N S h =
    let e : N ≡ w * length S + (N - w * length S) = omega arith in
    ap (λ (n : ℕ). groups w (length S) (fill n (in_places w S))) e ∙ ap (groups w (length S)) (table_split w S (N - w * length S)) ∙ places_back w S _

pub place_at : (w N : ℕ) (S : List (List ℕ)) (i : ℕ) (d : List ℕ) → w * length S ≤ N → i < length S → take w (drop (w * i) (fill N (in_places w S))) ≡ fill w (get_or S i d)
place_at w N S i d h l =
    sym (groups_at w (length S) i (fill N (in_places w S)) (fill w d) l) ∙ ap (λ (z : List (List ℕ)). get_or z i (fill w d)) (table_groups w N S h) ∙ get_or-map (fill w) S i d

-- Writing.
pub over_zeros : (r : List ℕ) (w : ℕ) → length r ≤ w → over r (replicate w 0) ≡ fill w r
unfolding over fill
over_zeros [] w h = sym (fill_zeros w)
over_zeros (x ∷ r) zero h = absurd (omega arith)
over_zeros (x ∷ r) (suc w) h = ap (λ (z : List ℕ). x ∷ z) (over_zeros r w (le_of_suc-le-suc h))

pub places_append : (w : ℕ) (S R : List (List ℕ)) → in_places w (S ++ R) ≡ in_places w S ++ in_places w R
unfolding in_places
places_append w [] R = refl
places_append w (r ∷ S) R = ap (λ (z : List ℕ). fill w r ++ z) (places_append w S R) ∙ sym (append_assoc (fill w r) (in_places w S) (in_places w R))

-- a part that was lent and came back with its front written over
part_put : (X Z W r t ys : List ℕ) (at k : ℕ) → t ≡ X ++ (Z ++ W) → length X ≡ at → length Z ≡ k → ys ≡ over r (take k (drop at t))
    → take at t ++ (ys ++ drop k (drop at t)) ≡ X ++ (over r Z ++ W)
part_put X Z W r t ys at k e x z y =
    let d : drop at t ≡ Z ++ W = ap (drop at) e ∙ drop_at X (Z ++ W) at x in
    let f : take k (drop at t) ≡ Z = ap (take k) d ∙ take_at Z W k z in
    ap₂ ◌++◌ (ap (take at) e ∙ take_at X (Z ++ W) at x)
    (ap₂ ◌++◌ (y ∙ ap (over r) f) (ap (drop k) d ∙ drop_at Z W k z))

-- One row more in a table whose places behind are 0.
pub place_more : (w N : ℕ) (S : List (List ℕ)) (r t ys : List ℕ) (at k : ℕ) → t ≡ fill N (in_places w S) → at ≡ w * length S → k ≡ w → at + w ≤ N → length r ≤ w
    → ys ≡ over r (take k (drop at t)) → take at t ++ (ys ++ drop k (drop at t)) ≡ fill N (in_places w (S ++ (r ∷ [])))
unfolding in_places
place_more w N S r t ys at k e a l h f y =
    let j : ℕ = N - (w * length S + w) in
    let old : N ≡ w * length S + (w + j) = omega arith in
    let new : N ≡ w * length (S ++ (r ∷ [])) + j = rw (length-append S (r ∷ [])) (omega arith) in
    let zeros : List ℕ = replicate j 0 in
    let table : t ≡ in_places w S ++ (replicate w 0 ++ zeros) =
    e ∙ ap (λ (n : ℕ). fill n (in_places w S)) old ∙ table_split w S (w + j) ∙ ap (λ (z : List ℕ). in_places w S ++ z) (sym (replicate-append-replicate w j 0)) in
    part_put (in_places w S) (replicate w 0) zeros r t ys at k table (length_places w S ∙ sym a) (length-replicate w 0 ∙ sym l) y
    ∙ ap (λ (z : List ℕ). in_places w S ++ (z ++ zeros)) (over_zeros r w f ∙ sym (append-nil (fill w r)))
    ∙ sym (append_assoc (in_places w S) (fill w r ++ []) zeros)
    ∙ ap (λ (z : List ℕ). z ++ zeros) (sym (places_append w S (r ∷ [])))
    ∙ sym (ap (λ (n : ℕ). fill n (in_places w (S ++ (r ∷ [])))) new ∙ table_split w (S ++ (r ∷ [])) j)

-- what a part of so many holds fits a place of 8 in a table of 512
pub part_fits : {A : Type 0} (m at i : ℕ) (from : List A) (table : List ℕ) → m ≤ 8 → i < 64 → length table ≡ 512
    → length (take (at + m - at) (drop at from)) ≤ length (take (8 * i + 8 - 8 * i) (drop (8 * i) table))
part_fits m at i from table few h e =
    omega (arith, add-sub_cancel_left at m, length-take (at + m - at) (drop at from), length-take-le (8 * i + 8 - 8 * i) (drop (8 * i) table) (simp length-drop (omega arith)))

-- a table of no rows
pub no_places : (w N : ℕ) → replicate N 0 ≡ fill N (in_places w [])
unfolding in_places
no_places w N = sym (fill_zeros N)

-- a row that is filled up already
pub places_filled : (w : ℕ) (S : List (List ℕ)) (r : List ℕ) → in_places w (S ++ (fill w r ∷ [])) ≡ in_places w (S ++ (r ∷ []))
unfolding in_places
places_filled w [] r = ap (λ (z : List ℕ). z ++ []) (fill_exact w (fill w r) (length_fill w r))
places_filled w (x ∷ S) r = ap (λ (z : List ℕ). fill w x ++ z) (places_filled w S r)

-- Rows of 64 numbers written one after the other over a table.
module _ (done : List (List ℕ)) (old t : List ℕ) (e : t ≡ over (in_places 64 done) old) where
  pub over_keep : 64 * length done ≤ length old → length t ≡ length old
  over_keep h = ap length e ∙ length_over (in_places 64 done) old (omega (arith, length_places 64 done))

  -- what stands behind them is still the table's own
  behind : (at : ℕ) → at ≡ 64 * length done → drop at t ≡ drop at old
  unfolding over
  behind at a = ap (drop at) e ∙ drop_at (in_places 64 done) (drop (length (in_places 64 done)) old) at (length_places 64 done ∙ sym a) ∙ ap (λ (n : ℕ). drop n old) (length_places 64 done ∙ sym a)

  pub over_own : (at : ℕ) → at ≡ 64 * length done → take 64 (drop at t) ≡ take 64 (drop at old)
  over_own at a = ap (take 64) (behind at a)

pub over_more : (done : List (List ℕ)) (row old t ys : List ℕ) (at k : ℕ) → t ≡ over (in_places 64 done) old → at ≡ 64 * length done → at + 64 ≤ length old → k ≡ 64 → ys ≡ row → length row ≡ 64
    → take at t ++ (ys ++ drop k (drop at t)) ≡ over (in_places 64 (done ++ (row ∷ []))) old
unfolding over in_places
over_more done row old t ys at k e a h ek ey l =
    let P : List ℕ = in_places 64 done in
    let lP : length P ≡ at = length_places 64 done ∙ sym a in
    let whole : fill 64 row ≡ row = fill_exact 64 row l in
    let all : in_places 64 (done ++ (row ∷ [])) ≡ P ++ row = places_append 64 done (row ∷ []) ∙ ap (λ (z : List ℕ). P ++ z) (append-nil (fill 64 row) ∙ whole) in
    let size : length (P ++ row) ≡ at + k = length-append P row ∙ omega arith in
    ap₂ (λ (u v : List ℕ). u ++ v) (ap (take at) e ∙ take_at P (drop (length P) old) at lP)
    (ap₂ (λ (u v : List ℕ). u ++ v) ey (ap (drop k) (behind done old t e at a) ∙ drop-drop k at old ∙ ap (λ (n : ℕ). drop n old) (sym size)))
    ∙ sym (append_assoc P row (drop (length (P ++ row)) old)) ∙ ap (λ (z : List ℕ). z ++ drop (length z) old) (sym all)

-- rows filled up before
pub rows_filled : {A : Type 0} (w : ℕ) (f : A → List ℕ) (l : List A) → in_places w (map (λ a. fill w (f a)) l) ≡ in_places w (map f l)
unfolding in_places
rows_filled w f [] = refl
rows_filled w f (a ∷ l) = ap₂ (λ (x y : List ℕ). x ++ y) (fill_twice w w (f a) (omega arith)) (rows_filled w f l)

-- as many rows written over those of a table
pub over_table : (w N : ℕ) (X Y : List (List ℕ)) → length X ≡ length Y → w * length X ≤ N → over (in_places w X) (fill N (in_places w Y)) ≡ fill N (in_places w X)
unfolding over
over_table w N X Y e h =
    let k : ℕ = N - w * length X in
    let same : w * length X ≡ w * length Y = ap (λ (n : ℕ). w * n) e in
    let x : N ≡ w * length X + k = omega arith in
    let y : N ≡ w * length Y + k = omega arith in
    let Z : List ℕ = replicate k 0 in
    let old : fill N (in_places w Y) ≡ in_places w Y ++ Z = ap (λ (n : ℕ). fill n (in_places w Y)) y ∙ table_split w Y k in
    ap (λ (z : List ℕ). in_places w X ++ z) (ap (drop (length (in_places w X))) old ∙ drop_at (in_places w Y) Z (length (in_places w X)) (length_places w Y ∙ sym same ∙ sym (length_places w X)))
    ∙ sym (ap (λ (n : ℕ). fill n (in_places w X)) x ∙ table_split w X k)
