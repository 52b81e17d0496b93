-- `bytes::begins` meets its contract.
use mathlib.Core.Path.{◌∙◌}
use Rattle.residue.specs.Layout.{begins}
use Rattle.residue.proofs.bytes.Equality.{same_eq}
use Rattle.residue.proofs.bytes.begins.Goals as goal

pub returns : goal.returns
unfolding begins
returns c = c.starts_with.ensures.value ∙ same_eq _ _
