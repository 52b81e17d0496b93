-- `lines::put_standard` meets its contract. The loop has put the lines so far.
use mathlib.Core.List.{map, flatten}
use lib.ListN.{take}
use Rattle.printing.specs.Lines.{standard_word, line}
use Rattle.writing.specs.Appending.{Put}
use Rattle.printing.proofs.lines.put_standard.Given as goal

abbrev pub invariant-loop-monomial : goal.invariant-loop-monomial
invariant-loop-monomial l = Put l.at (flatten (take l.monomial-index (map (line standard_word) (map (take l.m) l.standard)))) l.initial.out l.out l.next
