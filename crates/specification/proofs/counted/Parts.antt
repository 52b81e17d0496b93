-- Counts from 1 to 255, from their parts: that they are positive, and that none is above 255 (request M-106).
use mathlib.Core.Path.{◌≡◌}
use mathlib.Core.Bool.{false}
use mathlib.Core.List.{List, [], ◌∷◌}
use Prim.Native.Nat.{ℕ}
use lib.Dec.{T, leb, ltb}
use borrow.Author.Tests.{le-leb, ltb-false}
use Rattle.residue.specs.Lists.{every, some}
use Rattle.residue.proofs.Tests.{of_true, and_left, and_right, and_both, neither}
use Rattle.specification.specs.Counted.{is_count}

pub of_parts : (l : List ℕ) → T (every (leb 1) l) → some (ltb 255) l ≡ false → T (every is_count l)
unfolding is_count
of_parts [] h e = tt
of_parts (k ∷ l) h e = let n = neither (ltb 255 k) (some (ltb 255) l) e in
    and_both (is_count k) (every is_count l)
    (and_both (leb 1 k) (leb k 255) (and_left (leb 1 k) (every (leb 1) l) h) (of_true (le-leb k 255 (ltb-false 255 k n.0))))
    (of_parts l (and_right (leb 1 k) (every (leb 1) l) h) n.1)
