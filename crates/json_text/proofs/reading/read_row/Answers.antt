-- `reading::read_row` meets its contract.
use Prim.Native.Nat.{◌+◌, ◌-◌, ◌*◌}
use native.Mathlib.Omega.{arith}
use mathlib.Core.List.{[]}
use Rattle.json_text.specs.Places.{list_at}
use Rattle.json_text.proofs.reading.RowParts.{row_part, row_nowhere}
use Rattle.json_text.proofs.reading.read_row.Goals as goal

pub returns-then-row-places : goal.returns-then-row-places
returns-then-row-places c = row_part c.args.width c.args.places c.args.row (list_at c.args.text.now c.args.at) c.args.out.now c.read_list.new.out (c.args.width * c.args.row + c.args.width - c.args.width * c.args.row) c.if-row-places.true c.requires.places_value (omega arith) c.read_list.result c.read_list.ensures

pub returns : goal.returns
returns c = row_nowhere c.args.width c.args.places c.args.row (list_at c.args.text.now c.args.at) c.args.out.now [] c.read_list-2.new.out c.if-row-places.false c.read_list-2.result c.read_list-2.ensures
