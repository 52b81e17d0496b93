-- `lines::put_rows` meets its contract. The loop has put the lines so far.
use mathlib.Core.List.{map, zip_with, flatten}
use lib.ListN.{length, take}
use Rattle.printing.specs.Lines.{row_line}
use Rattle.writing.specs.Appending.{Put}
use Rattle.printing.proofs.lines.put_rows.Given as goal

abbrev pub invariant-loop-lead : goal.invariant-loop-lead
invariant-loop-lead l = Put l.at (flatten (take (length l.yielded) (zip_with row_line (map (take l.m) l.leads) (map (take l.n) l.coefficients)))) l.initial.out l.out l.next
