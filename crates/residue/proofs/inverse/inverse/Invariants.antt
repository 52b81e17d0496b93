-- `inverse::inverse` meets its contract. The search along the rest of the primes is the whole search, and the inverses of the ith start at `start`.
use mathlib.Core.Path.{◌≡◌}
use lib.ListN.{drop}
use Rattle.residue.specs.Modulus.{primes, is_one_of, is_modulus}
use Rattle.residue.proofs.inverse.Inverses.{start}
use Rattle.residue.proofs.inverse.inverse.Given as goal

abbrev pub invariant-loop-prime : goal.invariant-loop-prime
invariant-loop-prime l = (l.start ≡ start l.prime-index) × (is_one_of (drop l.prime-index primes) l.p ≡ is_modulus l.p)
