-- `open::others` meets its contract.
use mathlib.Core.Path.{refl}
use Rattle.words.specs.PlaceSets.{others}
use Rattle.words.proofs.open.others.Goals as goal

pub returns : goal.returns
unfolding others
returns c = refl
