-- `entries::fill_point` meets its contract. The first j residues are written and spelled by the key; the levels behind them are to be read from `from` on.
use Prim.Native.Nat.{◌-◌}
use lib.ListN.{drop}
use Rattle.comma_text.specs.reading.Records.{entry_part}
use Rattle.comma_text.proofs.reading.entries.EntryFilled.{SoFar}
use Rattle.comma_text.proofs.reading.entries.fill_point.Given as goal

abbrev pub invariant-loop-j : goal.invariant-loop-j
invariant-loop-j l = SoFar l.p l.variables l.text (entry_part l.variables (drop l.at l.text)) l.initial.row l.row l.from l.inside l.key l.j

abbrev pub decreases-loop-j : goal.decreases-loop-j
decreases-loop-j l = l.variables - l.j
