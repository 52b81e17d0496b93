-- The model of a time course: the values at the successors, and the interpolants in their places.
use mathlib.Core.Path.{◌≡◌, refl, sym, ◌∙◌, ap}
use mathlib.Core.List.{List, [], ◌∷◌, ◌++◌}
use Prim.Native.Nat.{ℕ, zero, suc, ◌+◌, ◌*◌, ◌<◌, ◌≤◌}
use native.Mathlib.Numerals.{add-one}
use native.Mathlib.Omega.{arith}
use lib.ListN.{length, get_or, take, drop, replicate, length-map, length-append}
use lib.Seq.{length-take-le, get_or-take}
use Rattle.residue.specs.Vector.{Below}
use Rattle.residue.specs.Layout.{fill, in_places, over, length_fill}
use Rattle.residue.proofs.Places.{no_places, place_more, places_filled}
use Rattle.residue.proofs.vector.Vectors.{map_at}
use Rattle.residue.proofs.vector.Filled.{filled}
use Rattle.residue.proofs.bytes.Copies.{mapped}
use Rattle.interpolation.specs.Solving.{solution}
use Rattle.steps.specs.Stepping.{next_values, solutions_of}

module _ (g n : ℕ) (records firsts : List ℕ) (h : n ≤ length firsts) where
  pub next_long : length (next_values g records (take n firsts)) ≡ n
  unfolding next_values
  next_long = length-map (take n firsts) _ ∙ length-take-le n firsts h

  pub next_put : (values : List ℕ) (j : ℕ) → j ≡ n → n ≤ length values
      → filled (λ i. get_or records (8 * (get_or (take n firsts) i 0 + 1) + g) 0) j values ≡ over (next_values g records (take n firsts)) values
  unfolding next_values
  next_put values j e l = mapped (λ i. get_or records (8 * (i + 1) + g) 0) 0 (take n firsts) values j (e ∙ sym (length-take-le n firsts h)) (omega (arith, length-take-le n firsts h))

  pub next_below : (p : ℕ) → g < 8 → Below p records → ((j : ℕ) → j < n → 8 * get_or firsts j 0 + 16 ≤ length records) → Below p (next_values g records (take n firsts))
  unfolding next_values
  next_below p k low inside i d =
      let z : i < n = omega (arith, d, next_long) in
      rw (map_at (λ j. get_or records (8 * (j + 1) + g) 0) (take n firsts) 0 0 i (omega (arith, z, length-take-le n firsts h)), get_or-take n firsts i 0 z)
      (low (8 * (get_or firsts i 0 + 1) + g) (omega (arith, inside i z)))

module _ (p n : ℕ) (rows pivots records firsts : List ℕ) where
  pub solutions_long : (k : ℕ) → length (solutions_of p n rows pivots records firsts k) ≡ k
  unfolding solutions_of
  solutions_long zero = refl
  solutions_long (suc k) = length-append (solutions_of p n rows pivots records firsts k) (_ ∷ []) ∙ omega (arith, solutions_long k)

  pub solutions_none : replicate 512 0 ≡ fill 512 (in_places 64 (solutions_of p n rows pivots records firsts 0))
  unfolding solutions_of
  solutions_none = no_places 64 512

  -- one gene more
  pub solutions_more : (g j : ℕ) (genes part : List ℕ) → g < 8 → genes ≡ fill 512 (in_places 64 (solutions_of p n rows pivots records firsts g)) → j ≡ 64
      → part ≡ over (fill 64 (solution p n rows pivots (fill 128 (next_values g records (take n firsts))))) (take j (drop (64 * g) genes))
      → take (64 * g) genes ++ (part ++ drop j (drop (64 * g) genes)) ≡ fill 512 (in_places 64 (solutions_of p n rows pivots records firsts (g + 1)))
  unfolding solutions_of
  solutions_more g j genes part h e i f =
      let S = solutions_of p n rows pivots records firsts g in
      let r = solution p n rows pivots (fill 128 (next_values g records (take n firsts))) in
      rw (add-one g)
      (place_more 64 512 S (fill 64 r) genes part (64 * g) j e (ap (λ (z : ℕ). 64 * z) (sym (solutions_long g))) i (omega arith) (omega (arith, length_fill 64 r)) f
      ∙ ap (fill 512) (places_filled 64 S r))
