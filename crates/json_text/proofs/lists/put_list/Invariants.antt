-- `lists::put_list` meets its contract.
use mathlib.Core.List.{map, flatten}
use lib.ListN.{take}
use Rattle.writing.specs.Appending.{Put}
use Rattle.writing.specs.Decimal.{decimal}
use Rattle.json_text.proofs.ArrayRuns.{runs}
use Rattle.json_text.proofs.lists.put_list.Given as goal

abbrev pub invariant-loop-i : goal.invariant-loop-i
invariant-loop-i l = Put l.initial.next (flatten (take l.i (runs (map decimal l.list)))) l.initial.out l.out l.next
