use Rattle.std.proofs.Common.{◌-◌, length}
use Rattle.misqafur_cli.proofs.output.write_sheet.Given as goal

abbrev pub decreases-loop-at : goal.decreases-loop-at
decreases-loop-at g l = length l.sheet - l.at
