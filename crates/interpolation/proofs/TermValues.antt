-- The values of a polynomial's terms at the points.
use mathlib.Core.Path.{◌≡◌, ◌∙◌}
use mathlib.Core.List.{List, [], map}
use Prim.Native.Nat.{ℕ, ◌%◌, ◌<◌}
use native.Mathlib.Nat.{mod-lt}
use native.Mathlib.Omega.{arith}
use lib.ListN.{length, length-map}
use Rattle.residue.specs.Vector.{Below, dot_of}
use Rattle.residue.specs.Layout.{groups}
use Rattle.residue.proofs.vector.Vectors.{map_at}
use Rattle.residue.proofs.Places.{length_groups}
use Rattle.monomial.specs.Monomial.{monomial_at}
use Rattle.monomial.specs.Terms.{term_values}

-- the values of terms are residues, one for each point
module _ (p : ℕ) (cs exponents : List ℕ) (n : ℕ) (points : List ℕ) where
  pub length_terms : length (term_values p cs exponents n points) ≡ n
  unfolding term_values
  length_terms = length-map (groups 8 n points) _ ∙ length_groups 8 n points

  pub terms_below : 0 < p → Below p (term_values p cs exponents n points)
  unfolding term_values
  terms_below z i h = rw (map_at (λ P. dot_of cs (map (monomial_at P) (groups 8 (length cs) exponents)) % p) (groups 8 n points) [] 0 i (omega (arith, length-map (groups 8 n points) (λ P. dot_of cs (map (monomial_at P) (groups 8 (length cs) exponents)) % p)))) (mod-lt _ z)
