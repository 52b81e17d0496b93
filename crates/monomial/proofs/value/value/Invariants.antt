-- `value::value` meets its contract: the product is the value of the exponents passed, modulo p.
use Prim.Native.Nat.{◌*◌, ◌<◌}
use lib.ListN.{length, drop}
use Rattle.residue.specs.Congruence.{Mod}
use Rattle.monomial.specs.Monomial.{monomial_at}
use Rattle.monomial.proofs.value.value.Given as goal

abbrev pub invariant-loop-x : goal.invariant-loop-x
invariant-loop-x l =
    (l.product < l.p)
    × Mod l.p (l.product * monomial_at (drop (length l.yielded) l.point) (drop (length l.yielded) l.a)) (monomial_at l.point l.a)
