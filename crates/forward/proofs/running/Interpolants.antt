-- The interpolants as they are written: residues, in their places.
use mathlib.Core.Path.{sym, subst}
use mathlib.Core.List.{List, [], ◌∷◌, ◌++◌, map}
use Prim.Native.Nat.{ℕ, zero, suc, ◌-◌, ◌%◌, ◌<◌}
use lib.ListN.{take, drop}
use native.Mathlib.Omega.{arith}
use Rattle.residue.specs.Sizes.{work_size}
use Rattle.residue.specs.Vector.{Below}
use Rattle.residue.specs.Layout.{fill, in_places}
use Rattle.residue.proofs.Places.{places_append}
use Rattle.residue.proofs.Layouts.{below_fill}
use Rattle.residue.proofs.vector.Vectors.{below_append}
use Rattle.elimination.specs.Elimination.{eliminated}
use Rattle.interpolation.specs.Solving.{solution}
use Rattle.steps.specs.Stepping.{next_values, solutions_of}
use Rattle.steps.proofs.stepping.StepLaws.{remainders_low}

module _ (p n : ℕ) (rows pivots records firsts : List ℕ) (h : 0 < p) where
  places_low : (k : ℕ) → Below p (in_places 64 (solutions_of p n rows pivots records firsts k))
  unfolding solutions_of in_places solution
  places_low zero = λ i d. absurd (omega arith)
  places_low (suc k) =
      let S = solutions_of p n rows pivots records firsts k in
      let w = eliminated p rows pivots n (fill work_size (next_values k records (take n firsts))) in
      let g : List ℕ = map (λ x. (p - x) % p) (take n (drop n w)) in
      subst (Below p) (sym (places_append 64 S (g ∷ [])))
      (below_append p (in_places 64 S) (fill 64 g ++ []) (places_low k)
      (below_append p (fill 64 g) [] (below_fill p 64 g h (remainders_low p (λ x. p - x) (take n (drop n w)) h)) (λ i d. absurd (omega arith))))

  pub genes_low : (k : ℕ) → Below p (fill 512 (in_places 64 (solutions_of p n rows pivots records firsts k)))
  genes_low k = below_fill p 512 _ h (places_low k)
