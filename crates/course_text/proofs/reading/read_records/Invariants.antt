-- `reading::read_records` meets its contract. The first i records are in the tables; those behind them are to be read from `from` on.
use lib.ListN.{drop}
use Rattle.comma_text.specs.reading.Points.{levels_at}
use Rattle.course_text.proofs.reading.RecordsRead.{RecordsOn}
use Rattle.course_text.proofs.reading.read_records.Given as goal

abbrev pub invariant-loop-i : goal.invariant-loop-i
invariant-loop-i l = RecordsOn l.p l.variables l.entries l.text (levels_at l.variables (drop l.at l.text)) l.records l.numbers l.from l.i
