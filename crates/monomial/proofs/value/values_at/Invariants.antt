-- `value::values_at` meets its contract. The loop has written the values before its index.
use mathlib.Core.Path.{◌≡◌}
use mathlib.Core.List.{[]}
use Prim.Native.Nat.{◌%◌}
use lib.ListN.{get_or}
use Rattle.residue.proofs.vector.Filled.{filled}
use Rattle.residue.specs.Layout.{groups}
use Rattle.monomial.specs.Monomial.{monomial_at}
use Rattle.monomial.proofs.value.values_at.Given as goal

abbrev pub invariant-loop-i : goal.invariant-loop-i
invariant-loop-i l = l.values ≡ filled (λ j. monomial_at l.point (get_or (groups 8 l.k l.monomials) j []) % l.p) l.i l.initial.values
