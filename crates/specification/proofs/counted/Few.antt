-- Points with their counts, and the greatest count that is held.
use mathlib.Core.Path.{◌≡◌, refl, sym}
use mathlib.Core.Bool.{Bool, true, false, cond}
use mathlib.Core.List.{List, [], ◌∷◌}
use Prim.Native.Nat.{ℕ, ◌≤◌}
use native.Mathlib.Decide.{dec_le}
use native.Mathlib.Omega.{arith}
use lib.Dec.{T, ltb}
use borrow.Author.Tests.{le-ltb}
use Rattle.residue.specs.Lists.{Among, some, same_list}
use Rattle.residue.proofs.Tests.{true_of, of_true}
use Rattle.residue.proofs.bytes.Equality.{same_is, same_self}
use Rattle.specification.specs.Levels.{no_repeat}
use Rattle.specification.specs.Counted.{Counted, points_of, counts_of, count_of}
use Rattle.specification.proofs.agreement.Points.{once_of}
use Rattle.specification.proofs.counted.Gathered.{some_count}

-- No count is above 255 where each point's is not.
pub few_counts : (G : Counted) → T (no_repeat (points_of G)) → ((P : List ℕ) → count_of P G ≤ 255) → some (ltb 255) (counts_of G) ≡ false
unfolding count_of
few_counts [] t h = refl
few_counts (q ∷ G) t h = rw (le-ltb 255 q.1 here) (few_counts G once.1 below)
  where
    once : ((Q : List ℕ) → Among Q (points_of G) → q.0 ≡ Q → ⊥) × T (no_repeat (points_of G))
    once = once_of (points_of G) q.0 t

    here : q.1 ≤ 255
    here = rw (true_of (same_list q.0 q.0) (same_self q.0)) at (h q.0)

    below : (P : List ℕ) → count_of P G ≤ 255
    below P = go (same_list P q.0) refl (h P)
      where
        go : (b : Bool) → same_list P q.0 ≡ b → cond b q.1 (count_of P G) ≤ 255 → count_of P G ≤ 255
        go false e k = k
        go true e k = absent (dec_le 1 (count_of P G))
          where
            absent : Dec (1 ≤ count_of P G) → count_of P G ≤ 255
            absent (yes z) = absurd (once.0 P (some_count P G z) (sym (same_is P q.0 (of_true e))))
            absent (no z) = omega (arith, z)
