-- Weight sums: they add up under products, exponents behind shift them, and with all weights 1 they are the total degree.
use mathlib.Core.Path.{◌≡◌, refl}
use mathlib.Core.List.{List, [], ◌∷◌, ◌++◌}
use Prim.Native.Nat.{ℕ, zero, suc, ◌+◌, ◌*◌, ◌<◌, ◌≤◌}
use native.Mathlib.Nat.{suc_inj, mul-le-mul_right}
use native.Mathlib.Omega.{arith}
use lib.ListN.{length, drop, replicate, get_or}
use Rattle.monomial.specs.Monomial.{degree, one, product, times_variable}
use Rattle.monomial.specs.Order.{grlex, weighted, weigh, cmp, Light}

-- whatever the lengths
pub weigh_product : (w a b : List ℕ) → weigh w (product a b) ≡ weigh w a + weigh w b
weigh_product [] a b = refl
weigh_product (w ∷ ws) [] b = omega arith
weigh_product (w ∷ ws) (x ∷ xs) [] = omega arith
weigh_product (w ∷ ws) (x ∷ xs) (y ∷ ys) = omega (arith, weigh_product ws xs ys)

pub weigh_append : (w a z : List ℕ) → weigh w (a ++ z) ≡ weigh (drop (length a) w) z + weigh w a
weigh_append [] [] z = refl
weigh_append [] (x ∷ xs) z = refl
weigh_append (w ∷ ws) [] z = omega arith
weigh_append (w ∷ ws) (x ∷ xs) z = omega (arith, weigh_append ws xs z)

pub weigh_nothing : (w : List ℕ) → weigh w [] ≡ 0
weigh_nothing [] = refl
weigh_nothing (w ∷ ws) = refl

-- the weights of m variables all 1, whatever stands behind them
pub weigh_ones : (m : ℕ) (z a : List ℕ) → length a ≡ m → weigh (replicate m 1 ++ z) a ≡ degree a
weigh_ones zero z [] e = weigh_nothing z
weigh_ones zero z (x ∷ xs) e = absurd (omega arith)
weigh_ones (suc m) z [] e = absurd (omega arith)
weigh_ones (suc m) z (x ∷ xs) e = omega (arith, weigh_ones m z xs (suc_inj e))

-- so order 3 is then grlex
pub ones_cmp : (m : ℕ) (z a b : List ℕ) → length a ≡ m → length b ≡ m → cmp (weighted (replicate m 1 ++ z)) a b ≡ cmp grlex a b
unfolding cmp
ones_cmp m z a b h k = rw (weigh_ones m z a h, weigh_ones m z b k)

pub weigh_most : (w a : List ℕ) → Light w → weigh w a ≤ 99 * degree a
weigh_most [] a h = omega arith
weigh_most (w ∷ ws) [] h = omega arith
weigh_most (w ∷ ws) (x ∷ xs) h = omega (arith, mul-le-mul_right x h.0, weigh_most ws xs h.1)

-- 1 weighs nothing, and a variable its weight
pub weigh_one : (w : List ℕ) (m : ℕ) → weigh w (one m) ≡ 0
weigh_one [] m = refl
weigh_one (w ∷ ws) zero = refl
weigh_one (w ∷ ws) (suc m) = omega (arith, weigh_one ws m)

pub weigh_variable : (w : List ℕ) (k m : ℕ) → k < m → weigh w (times_variable k (one m)) ≡ get_or w k 0
weigh_variable [] k m h = refl
weigh_variable (w ∷ ws) k zero h = absurd (omega arith)
weigh_variable (w ∷ ws) zero (suc m) h = omega (arith, weigh_one ws m)
weigh_variable (w ∷ ws) (suc k) (suc m) h = omega (arith, weigh_variable ws k m (omega arith))
