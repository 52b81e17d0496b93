-- `exponents::weigh` meets its contract: what is summed and the weight of what is left make the weight.
use mathlib.Core.Path.{◌≡◌}
use Prim.Native.Nat.{◌+◌, ◌*◌, ◌≤◌}
use lib.ListN.{length, drop}
use Rattle.monomial.specs.Order.{weigh}
use Rattle.monomial.proofs.exponents.weigh.Given as goal

abbrev pub invariant-loop-w : goal.invariant-loop-w
invariant-loop-w l =
    (l.sum ≤ 65025 * length l.yielded)
    × (l.sum + weigh (drop (length l.yielded) l.weights) (drop (length l.yielded) l.a) ≡ weigh l.weights l.a)
