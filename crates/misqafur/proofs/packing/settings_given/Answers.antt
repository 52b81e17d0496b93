-- `packing::settings_given` meets its contract: the bytes of the number one after the other.
use mathlib.Core.Path.{ap, ◌∙◌}
use mathlib.Core.List.{List}
use Prim.Native.Nat.{ℕ}
use Rattle.residue.proofs.Words.{eight_bytes}
use Rattle.misqafur.proofs.packing.settings_given.Goals as goal

pub returns : goal.returns
returns c = ap (λ (w : List ℕ). record { modulus = c.args.modulus; variables = c.args.variables; order = c.args.order; weights = w }) (c.to_le_bytes.ensures ∙ eight_bytes c.args.weights)
