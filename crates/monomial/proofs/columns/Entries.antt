-- The columns of a table of points: their lengths and entries, and the table that holds them.
use mathlib.Core.Path.{◌≡◌, ap, ◌∙◌, refl, sym}
use mathlib.Core.List.{List, [], ◌∷◌, ◌++◌}
use Prim.Native.Nat.{ℕ, ◌+◌, ◌*◌, ◌<◌, ◌≤◌, zero, suc}
use native.Mathlib.Omega.{arith}
use native.Mathlib.Nat.{not-suc-le-zero}
use native.Mathlib.Numerals.{add-one}
use native.Mathlib.Decide.{dec_lt}
use lib.ListN.{length, get_or, drop, length-map, take, replicate, length-append, get_or-append}
use lib.Seq.{get_or-take, get_or-drop, get_or-append-add, take-take}
use Rattle.residue.specs.Vector.{Below}
use Rattle.residue.specs.Layout.{groups, fill, in_places, over}
use Rattle.residue.proofs.vector.Vectors.{map_at}
use Rattle.residue.proofs.Places.{length_groups, groups_at, place_at, no_places, place_more}
use Rattle.residue.proofs.Layouts.{take_fill}
use Rattle.monomial.specs.Columns.{column_of, columns_of}

-- one coordinate of the points of a table
module _ (k n : ℕ) (points : List ℕ) where
  pub column_long : length (column_of k n points) ≡ n
  unfolding column_of
  column_long = length-map (groups 8 n points) _ ∙ length_groups 8 n points

  -- of point i
  pub coordinate_at : (i : ℕ) → i < n → k < 8 → get_or (get_or (groups 8 n points) i []) k 0 ≡ get_or points (8 * i + k) 0
  coordinate_at i h l =
      ap (λ (P : List ℕ). get_or P k 0) (groups_at 8 n i points [] h) ∙ get_or-take 8 (drop (8 * i) points) k 0 l ∙ get_or-drop (8 * i) points k 0

  pub column_at : (i : ℕ) → i < n → k < 8 → get_or (column_of k n points) i 0 ≡ get_or points (8 * i + k) 0
  unfolding column_of
  column_at i h l =
      map_at (λ P. get_or P k 0) (groups 8 n points) [] 0 i (rw (length_groups 8 n points) h) ∙ coordinate_at i h l

  pub column_below : (p : ℕ) → Below p points → k < 8 → 8 * n ≤ length points → Below p (column_of k n points)
  column_below p b l h i z = let e = column_long in rw (column_at i (omega arith) l) (b (8 * i + k) (omega arith))

-- all coordinates, 64 numbers apart
module _ (n : ℕ) (points : List ℕ) where
  columns_long : (k : ℕ) → length (columns_of k n points) ≡ k
  unfolding columns_of
  columns_long zero = refl
  columns_long (suc k) = length-append (columns_of k n points) (column_of k n points ∷ []) ∙ omega (arith, columns_long k)

  columns_at : (k j : ℕ) → j < k → get_or (columns_of k n points) j [] ≡ column_of j n points
  unfolding columns_of
  columns_at zero j h = absurd (not-suc-le-zero h)
  columns_at (suc k) j h = go (dec_lt j k) (λ l. columns_at k j l)
    where
      go : Dec (j < k) → (j < k → get_or (columns_of k n points) j [] ≡ column_of j n points) → get_or (columns_of k n points ++ (column_of k n points ∷ [])) j [] ≡ column_of j n points
      go (yes l) f = get_or-append (columns_of k n points) (column_of k n points ∷ []) [] j (rw (columns_long k) l) ∙ f l
      go (no l) f =
          let e : j ≡ length (columns_of k n points) + 0 = omega (arith, columns_long k, l) in
          let d : k ≡ j = omega (arith, l) in
          ap (λ (i : ℕ). get_or (columns_of k n points ++ (column_of k n points ∷ [])) i []) e ∙ get_or-append-add (columns_of k n points) (column_of k n points ∷ []) 0 [] ∙ ap (λ (i : ℕ). column_of i n points) d

  pub columns_none : replicate 512 0 ≡ fill 512 (in_places 64 (columns_of 0 n points))
  unfolding columns_of
  columns_none = no_places 64 512

  pub columns_more : (k j : ℕ) (columns : List ℕ) {part : List ℕ} → k < 8 → n ≤ 64 → columns ≡ fill 512 (in_places 64 (columns_of k n points)) → j ≡ 64
      → part ≡ over (column_of k n points) (take j (drop (64 * k) columns))
      → take (64 * k) columns ++ (part ++ drop j (drop (64 * k) columns)) ≡ fill 512 (in_places 64 (columns_of (k + 1) n points))
  unfolding columns_of
  columns_more k j columns h l e i f =
      rw (add-one k)
      (place_more 64 512 (columns_of k n points) (column_of k n points) columns _ (64 * k) j e (ap (λ (z : ℕ). 64 * z) (sym (columns_long k))) i (omega arith) (omega (arith, column_long k n points)) f)

  pub column_in : (k : ℕ) (columns : List ℕ) → columns ≡ fill 512 (in_places 64 (columns_of 8 n points)) → k < 8 → n ≤ 64 → take n (drop (64 * k) columns) ≡ column_of k n points
  column_in k columns e h l =
      let c = columns_long 8 in
      ap (λ (t : List ℕ). take n (drop (64 * k) t)) e
      ∙ sym (take-take n 64 _ l)
      ∙ ap (take n) (place_at 64 512 (columns_of 8 n points) k [] (omega arith) (omega arith) ∙ ap (fill 64) (columns_at 8 k h))
      ∙ take_fill n 64 (column_of k n points) (column_long k n points) l
