-- `open::pass` meets its contract.
use native.Mathlib.Omega.{arith}
use Rattle.residue.proofs.BitLaws.{shift_one}
use Rattle.words.proofs.PlaceLaws.{passed_one}
use Rattle.words.proofs.open.pass.Goals as goal

pub returns : goal.returns
returns c = passed_one _ _ _ c.requires.0 c.requires.1 (shift_one _ (omega arith))
