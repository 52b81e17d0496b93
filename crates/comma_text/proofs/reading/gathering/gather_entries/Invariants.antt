-- `gathering::gather_entries` meets its contract. The first i entries are in range, and gathered up to the 65th point; those behind them are to be read from
use mathlib.Core.Path.{◌≡◌}
use lib.ListN.{take, drop}
use Rattle.comma_text.specs.reading.Text.{first_fault, is_outside}
use Rattle.comma_text.specs.reading.Points.{levels_at, place_of}
use Rattle.comma_text.proofs.reading.entries.EntriesRead.{ReadOn}
use Rattle.comma_text.proofs.reading.gathering.AllGathered.{Turned}
use Rattle.comma_text.proofs.reading.gathering.gather_entries.Given as goal

abbrev pub invariant-loop-i : goal.invariant-loop-i
invariant-loop-i l = let S = levels_at l.variables (drop l.at l.text) in
    ReadOn l.variables l.entries l.text S l.from l.i × Turned l.p l.variables S l.i l.n (place_of l.full) (place_of l.often) (place_of l.other) l.points l.counts l.values l.hints × (first_fault (is_outside l.p) (take l.i S) ≡ 0)
