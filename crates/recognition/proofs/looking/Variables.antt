-- Has no term of a polynomial a variable above m? Term by term.
use mathlib.Core.Path.{◌≡◌, refl, ap}
use mathlib.Core.Bool.{Bool, ◌&&◌}
use mathlib.Core.List.{List, [], ◌∷◌}
use Prim.Native.Nat.{ℕ}
use lib.ListN.{drop}
use Rattle.std.specs.List.{list_all}
use Rattle.residue.specs.Lists.{all_zero}
use Rattle.specification.specs.Solving.{within_variables}

pub within_all : (m : ℕ) (es : List (List ℕ)) → list_all (λ e. all_zero (drop m e)) es ≡ within_variables m es
unfolding within_variables
within_all m [] = refl
within_all m (e ∷ es) = ap (λ (b : Bool). all_zero (drop m e) && b) (within_all m es)
