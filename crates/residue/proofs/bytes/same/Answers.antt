-- `bytes::same` meets its contract: `==` of slices is the test of equal lists.
use mathlib.Core.Path.{◌∙◌}
use Rattle.residue.proofs.bytes.Equality.{same_eq}
use Rattle.residue.proofs.bytes.same.Goals as goal

pub returns : goal.returns
returns c = c.eq.ensures ∙ same_eq c.args.a.now c.args.b.now
