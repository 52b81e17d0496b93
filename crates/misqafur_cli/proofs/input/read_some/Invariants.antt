use Rattle.misqafur_cli.proofs.input.read_some.Given as goal

abbrev pub decreases-loop-got : goal.decreases-loop-got
decreases-loop-got g l = l.tries
