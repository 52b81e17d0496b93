-- Whether all bytes are 0.
use mathlib.Core.Path.{◌≡◌, ◌∙◌, sym, ap, refl}
use mathlib.Core.Bool.{Bool, ◌&&◌, and-true, and_assoc}
use mathlib.Core.List.{List, [], ◌∷◌}
use Prim.Native.Nat.{ℕ, zero, suc, max}
use native.Mathlib.Nat.{zero-max}
use native.Mathlib.Omega.{arith}
use lib.Dec.{eqb, eqb-suc-zero}
use borrow.Author.Tests.{ne_eqb}
use Rattle.std.specs.List.{fold}
use Rattle.residue.specs.Lists.{all_zero}

max_zero : (m x : ℕ) → eqb (max m x) 0 ≡ (eqb m 0 && eqb x 0)
max_zero zero x = rw zero-max refl
max_zero (suc m) x = rw eqb-suc-zero (ne_eqb (max (suc m) x) 0 (λ z. omega arith))

-- the largest of some numbers is 0 exactly where they all are
pub largest_zero : (m : ℕ) (l : List ℕ) → eqb (fold max m l) 0 ≡ (eqb m 0 && all_zero l)
unfolding all_zero
largest_zero m [] = sym (and-true (eqb m 0))
largest_zero m (x ∷ l) =
    largest_zero (max m x) l ∙ ap (λ (b : Bool). b && all_zero l) (max_zero m x) ∙ and_assoc (eqb m 0) (eqb x 0) (all_zero l)
