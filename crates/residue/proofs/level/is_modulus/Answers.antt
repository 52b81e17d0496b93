-- `level::is_modulus` meets its contract: what `any` finds along the array is what the test along the list of the moduli finds.
use Rattle.std.proofs.Common.{eqb, rules, tests}
use Rattle.std.proofs.lemmas.Iterator.{YieldsList-from_slice}
use Rattle.std.proofs.lemmas.Iterator.Search.{any_from_yields_List}
use Rattle.residue.specs.Modulus.{primes, is_one_of, is_modulus}
use Rattle.residue.proofs.level.is_modulus.Goals as goal

pub returns : goal.returns
unfolding is_modulus is_one_of primes
returns c = any_from_yields_List (eqb c.args.p) _ _ _ c.any.ensures.ran (YieldsList-from_slice primes cc) (λ x b q k. search (rules, tests))
