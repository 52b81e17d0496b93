-- `fields::is_plain` meets its contract: the pattern's bytes are those of the definition.
use Rattle.std.proofs.Common.{arith}
use Rattle.std.proofs.lemmas.Bool.Decides.{nat_tests}
use Rattle.notation.specs.Fields.{is_plain}
use Rattle.notation.proofs.fields.is_plain.Goals as goal

pub returns : goal.returns
unfolding is_plain
returns c = grind (arith, nat_tests)
