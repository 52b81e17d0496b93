-- The ranks of the variables.
use mathlib.Core.Path.{◌≡◌, ap, ◌∙◌}
use mathlib.Core.List.{List, [], ◌∷◌}
use Prim.Native.Nat.{ℕ, ◌<◌}
use native.Mathlib.Omega.{arith}
use lib.ListN.{length, length-map, get_or}
use lib.Dec.{eqb, eqb→eq}
use Rattle.residue.specs.Vector.{Below}
use Rattle.residue.proofs.vector.Vectors.{map_at}
use Rattle.residue.proofs.level.Moduli.{below_at}
use Rattle.monomial.specs.Order.{Order, LightOrder}
use Rattle.monomial.specs.Rank.{variable_rank, steps_of, rank_bound}
use Rattle.monomial.proofs.candidate.Exponents.{variable_small}

-- the ranks of the variables
abbrev indices : List ℕ
indices = 0 ∷ 1 ∷ 2 ∷ 3 ∷ 4 ∷ 5 ∷ 6 ∷ 7 ∷ []

pub steps_long : (order : Order) → length (steps_of order) ≡ 8
unfolding steps_of
steps_long order = length-map indices (variable_rank order)

pub steps_at : (order : Order) (k : ℕ) → k < 8 → get_or (steps_of order) k 0 ≡ variable_rank order k
unfolding steps_of
steps_at order k h = map_at (variable_rank order) indices 0 0 k h ∙ ap (variable_rank order) (eqb→eq _ _ (below_at (λ i. eqb (get_or indices i 0) i) 8 tt k h))

pub steps_below : (order : Order) → LightOrder order → Below rank_bound (steps_of order)
steps_below order t i h = let l = steps_long order in rw (steps_at order i (omega arith)) (variable_small order t i (omega arith))
