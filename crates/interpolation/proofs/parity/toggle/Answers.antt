-- `parity::toggle` meets its contract.
use Rattle.interpolation.proofs.ParityLaws.{toggled_is}
use Rattle.interpolation.proofs.parity.toggle.Goals as goal

pub returns : goal.returns
returns c = cc (toggled_is c.args.c c.args.byte c.args.polynomial.now c.requires.0)
