-- `exponents::degree` meets its contract: what is summed and the degree of what is left make the degree.
use mathlib.Core.Path.{◌≡◌}
use Prim.Native.Nat.{◌+◌, ◌*◌, ◌≤◌}
use lib.ListN.{drop}
use Rattle.monomial.specs.Monomial.{degree}
use Rattle.monomial.proofs.exponents.degree.Given as goal

abbrev pub invariant-loop-x : goal.invariant-loop-x
invariant-loop-x l = (l.sum ≤ 255 * l.x-index) × (l.sum + degree (drop l.x-index l.a) ≡ degree l.a)
