-- `lists::put_rows` meets its contract.
use mathlib.Core.List.{map, flatten}
use lib.ListN.{take}
use Rattle.writing.specs.Appending.{Put}
use Rattle.json_text.specs.Writing.{list_text}
use Rattle.json_text.proofs.ArrayRuns.{runs}
use Rattle.json_text.proofs.lists.put_rows.Given as goal

abbrev pub invariant-loop-i : goal.invariant-loop-i
invariant-loop-i g l = Put l.initial.next (flatten (take l.i (runs (map list_text (map (take l.m) l.rows))))) l.initial.out l.out l.next
