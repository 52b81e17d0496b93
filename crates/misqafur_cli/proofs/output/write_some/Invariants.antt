use Rattle.misqafur_cli.proofs.output.write_some.Given as goal

abbrev pub decreases-loop-put : goal.decreases-loop-put
decreases-loop-put g l = l.tries
