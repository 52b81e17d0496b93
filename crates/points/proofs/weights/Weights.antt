-- The eight weights: those of the first variables, and those behind them.
use mathlib.Core.Path.{◌≡◌, refl, ap}
use mathlib.Core.Bool.{Bool, true, false, ◌&&◌}
use mathlib.Core.List.{List, [], ◌∷◌}
use Prim.Native.Nat.{ℕ, zero, suc, ◌≤◌}
use native.Mathlib.Omega.{arith}
use lib.ListN.{length, take, drop}
use lib.Dec.{eqb, leb}
use Rattle.std.specs.List.{list_all}
use Rattle.residue.specs.Lists.{all_zero}
use Rattle.specification.specs.Settings.{weighs_first}

abbrev pub in_weights : ℕ → Bool
in_weights w = leb 1 w && leb w 99

pub weighs_both : (m : ℕ) (l : List ℕ) → m ≤ length l → weighs_first m l ≡ (list_all in_weights (take m l) && all_zero (drop m l))
unfolding weighs_first all_zero
weighs_both zero [] h = refl
weighs_both zero (w ∷ ws) h = ap (λ (b : Bool). eqb w 0 && b) (weighs_both zero ws (omega arith))
weighs_both (suc m) [] h = absurd (omega arith)
weighs_both (suc m) (w ∷ ws) h = go (leb 1 w) (leb w 99) _ _ _ (weighs_both m ws (omega arith))
  where
    go : (a b f g z : Bool) → f ≡ (g && z) → (a && (b && f)) ≡ (((a && b) && g) && z)
    go true true f g z e = e
    go true false f g z e = refl
    go false b f g z e = refl
