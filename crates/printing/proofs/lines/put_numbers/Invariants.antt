-- `lines::put_numbers` meets its contract. The loop has put the numbers so far.
use mathlib.Core.List.{map, flatten}
use lib.ListN.{take}
use Rattle.printing.specs.Lines.{spaced}
use Rattle.writing.specs.Appending.{Put}
use Rattle.printing.proofs.lines.put_numbers.Given as goal

abbrev pub invariant-loop-v : goal.invariant-loop-v
invariant-loop-v l = Put l.at (flatten (take l.v-index (map spaced l.list))) l.initial.out l.out l.next
