-- Weights without one of them and with a 0 behind them are as right as they were.
use mathlib.Core.Bool.{Bool, ◌&&◌}
use mathlib.Core.List.{List, [], ◌∷◌, ◌++◌}
use Prim.Native.Nat.{ℕ, zero, suc, ◌≤◌}
use native.Mathlib.Omega.{arith}
use lib.Dec.{T, eqb, leb}
use Rattle.residue.proofs.Tests.{and_left, and_right, and_both}
use Rattle.monomial.specs.Insert.{removed_at}
use Rattle.specification.specs.Settings.{weighs_first}

-- one more test behind one that stays
keep : (a b c : Bool) → (T b → T c) → T (a && b) → T (a && c)
keep a b c f t = and_both a c (and_left a b t) (f (and_right a b t))

zero_behind : (m : ℕ) (w : List ℕ) → T (weighs_first m w) → T (weighs_first m (w ++ (0 ∷ [])))
unfolding weighs_first
zero_behind zero [] t = tt
zero_behind zero (x ∷ w) t = keep (eqb x 0) _ _ (zero_behind zero w) t
zero_behind (suc m) (x ∷ w) t = keep (leb 1 x) _ _ (keep (leb x 99) _ _ (zero_behind m w)) t
zero_behind (suc m) [] t = elim t [ ]

pub zeros_fewer : (k : ℕ) (w : List ℕ) → T (weighs_first 0 w) → T (weighs_first 0 (removed_at k w ++ (0 ∷ [])))
unfolding weighs_first removed_at
zeros_fewer zero [] t = tt
zeros_fewer (suc k) [] t = tt
zeros_fewer zero (x ∷ w) t = zero_behind 0 w (and_right (eqb x 0) _ t)
zeros_fewer (suc k) (x ∷ w) t = keep (eqb x 0) _ _ (zeros_fewer k w) t

pub weights_fewer : (m k : ℕ) (w : List ℕ) → k ≤ m → T (weighs_first (suc m) w) → T (weighs_first m (removed_at k w ++ (0 ∷ [])))
unfolding weighs_first removed_at
weights_fewer m zero (x ∷ w) l t = zero_behind m w (and_right (leb x 99) _ (and_right (leb 1 x) _ t))
weights_fewer zero (suc k) (x ∷ w) l t = absurd (omega arith)
weights_fewer (suc m) (suc k) (x ∷ w) l t = keep (leb 1 x) _ _ (keep (leb x 99) _ _ (weights_fewer m k w (omega arith))) t
weights_fewer m zero [] l t = elim t [ ]
weights_fewer zero (suc k) [] l t = elim l [ ]
weights_fewer (suc m) (suc k) [] l t = elim t [ ]
