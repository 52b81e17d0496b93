-- `order::Order::of` meets its contract.
use mathlib.Core.Path.{◌≡◌, refl, sym, ap}
use mathlib.Core.List.{List}
use Prim.Native.Nat.{ℕ, zero, suc, ◌≤◌}
use native.Mathlib.Omega.{arith}
use Rattle.monomial.specs.Order.{weighted, order_of}
use Rattle.monomial.proofs.order.Order.of.Goals as goal

-- a number above 2
by_weights : (n : ℕ) (w : List ℕ) → 3 ≤ n → weighted w ≡ order_of n w
unfolding order_of
by_weights zero w h = absurd (omega arith)
by_weights (suc zero) w h = absurd (omega arith)
by_weights (suc (suc zero)) w h = absurd (omega arith)
by_weights (suc (suc (suc n))) w h = refl

pub returns-in-0 : goal.returns-in-0
unfolding order_of
returns-in-0 c = sym (ap (λ (n : ℕ). order_of n c.args.weights) c.in-0.is)

pub returns-in-1 : goal.returns-in-1
unfolding order_of
returns-in-1 c = sym (ap (λ (n : ℕ). order_of n c.args.weights) c.in-1.is)

pub returns-in-2 : goal.returns-in-2
unfolding order_of
returns-in-2 c = sym (ap (λ (n : ℕ). order_of n c.args.weights) c.in-2.is)

pub returns-in_default : goal.returns-in_default
returns-in_default c = by_weights c.args.number c.args.weights (omega arith)
