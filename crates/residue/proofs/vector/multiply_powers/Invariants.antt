-- `vector::multiply_powers` meets its contract. At each place the product so far, times what is left of the power of the square, is the whole.
use mathlib.Core.Path.{◌≡◌}
use mathlib.Core.List.{List}
use Prim.Native.Nat.{ℕ, ◌*◌, ◌^◌, ◌<◌}
use lib.ListN.{length, get_or}
use Rattle.residue.specs.Congruence.{Mod}
use Rattle.residue.specs.Vector.{Below, squares_left}
use Rattle.residue.proofs.vector.multiply_powers.Given as goal

-- both rows as long as they came, residues, what is left at each place, and what is left of the squares
abbrev pub Left : ℕ → ℕ → List ℕ → List ℕ → List ℕ → List ℕ → ℕ → Type 0
Left p e dst₀ base₀ dst base left =
    (length dst ≡ length dst₀) × (length base ≡ length dst₀) × Below p dst × Below p base
    × ((i : ℕ) → i < length dst₀ → Mod p (get_or dst i 0 * get_or base i 0 ^ left) (get_or dst₀ i 0 * get_or base₀ i 0 ^ e)) × (squares_left p left base ≡ squares_left p e base₀)

abbrev pub invariant-loop-left : goal.invariant-loop-left
invariant-loop-left l = Left l.p l.e l.initial.dst l.initial.base l.dst l.base l.left

abbrev pub decreases-loop-left : goal.decreases-loop-left
decreases-loop-left l = l.left
