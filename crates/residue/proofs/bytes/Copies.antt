-- Loops that write the front of a lent list, entry after entry, from another list.
use mathlib.Core.Path.{◌≡◌, ap, ◌∙◌, refl}
use mathlib.Core.List.{List, map}
use Prim.Native.Nat.{ℕ, ◌<◌, ◌≤◌}
use native.Mathlib.Omega.{arith}
use lib.ListN.{length, get_or, length-map}
use Rattle.residue.specs.Layout.{over}
use Rattle.residue.proofs.vector.Filled.{filled, filled_front}
use Rattle.residue.proofs.vector.Vectors.{map_at}

-- by any rule
pub written_front : (g : ℕ → ℕ) (r l : List ℕ) (j : ℕ) → j ≡ length r → length r ≤ length l → ((i : ℕ) → i < length r → get_or r i 0 ≡ g i) → filled g j l ≡ over r l
unfolding over
written_front g r l j e h k = ap (λ (n : ℕ). filled g n l) e ∙ filled_front g r l 0 h k

-- as it is
pub copied : (from to : List ℕ) (j : ℕ) → j ≡ length from → length from ≤ length to → filled (λ i. get_or from i 0) j to ≡ over from to
copied from to j e h = written_front (λ i. get_or from i 0) from to j e h (λ i k. refl)

-- changed by f
pub mapped : {A : Type 0} (f : A → ℕ) (d : A) (from : List A) (to : List ℕ) (j : ℕ) → j ≡ length from → length from ≤ length to
    → filled (λ i. f (get_or from i d)) j to ≡ over (map f from) to
mapped f d from to j e h =
    let n = length-map from f in
    written_front (λ i. f (get_or from i d)) (map f from) to j (omega arith) (omega arith) (λ i k. map_at f from d 0 i (omega arith))
