-- `stepping::put_factors` meets its contract. The loop has written the factors of the monomials seen so far.
use mathlib.Core.Path.{◌≡◌}
use Prim.Native.Nat.{◌+◌, ◌*◌}
use lib.ListN.{length, get_or}
use Rattle.residue.proofs.vector.Filled.{filled}
use Rattle.monomial.specs.Columns.{column_of}
use Rattle.steps.proofs.stepping.put_factors.Given as goal

abbrev pub invariant-loop-j : goal.invariant-loop-j
invariant-loop-j l = l.factors ≡ filled (λ i. get_or l.powers (8 * get_or (column_of l.k l.n l.standard) i 0 + l.k) 0) (length l.yielded) l.initial.factors
