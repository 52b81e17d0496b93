-- `lists::put_rows` meets its contract.
use mathlib.Core.Path.{◌≡◌, sym, ◌∙◌, ap}
use mathlib.Core.List.{List, [], map, flatten}
use Prim.Native.Nat.{ℕ, ◌<◌}
use native.Mathlib.Omega.{arith}
use lib.ListN.{length, get_or, take, length-map}
use Rattle.residue.proofs.vector.Vectors.{map_at}
use Rattle.json_text.specs.Writing.{list_text, rows_text}
use Rattle.writing.proofs.appending.Appends.{put_nothing}
use Rattle.json_text.proofs.ArrayRuns.{open_room, item_room, item_put, close_room, array_put}
use Rattle.json_text.proofs.lists.put_rows.Goals as goal

-- the text of each row's first m numbers
module _ (m : ℕ) (rows : List (List ℕ)) where
  abbrev items : List (List ℕ)
  items = map list_text (map (take m) rows)

  count : length items ≡ length rows
  count = length-map (map (take m) rows) list_text ∙ length-map rows (take m)

  item_at : (i : ℕ) (row : List ℕ) → i < length rows → row ≡ get_or rows i row → get_or items i [] ≡ list_text (take m row)
  item_at i row h e =
      map_at list_text (map (take m) rows) [] [] i (omega (arith, length-map rows (take m)))
      ∙ ap list_text (map_at (take m) rows row [] i h) ∙ ap (λ (z : List ℕ). list_text (take m z)) (sym e)

pub put_byte-next-requires : goal.put_byte-next-requires
unfolding rows_text
put_byte-next-requires g c = open_room (items c.args.m c.args.rows.now) c.args.at c.args.out.now c.requires.room

pub loop-i-init : goal.loop-i-init
unfolding flatten
loop-i-init g c = put_nothing _ _

pub put_row-next-requires : goal.put_row-next-requires
unfolding rows_text
put_row-next-requires g c =
    rw (item_at c.args.m c.args.rows.now c.loop-i.i c.index-rows-i.result c.loop-i-test.true c.index-rows-i.is)
    at (item_room (items c.args.m c.args.rows.now) c.args.at c.args.out.now c.requires.room c.put_byte-next.ensures c.loop-i.i c.loop-i.invariant (omega (arith, count c.args.m c.args.rows.now)))

pub loop-i-preserved : goal.loop-i-preserved
unfolding rows_text
loop-i-preserved g c =
    item_put (items c.args.m c.args.rows.now) c.args.at c.args.out.now c.requires.room c.put_byte-next.ensures c.loop-i.i c.loop-i.invariant (omega (arith, count c.args.m c.args.rows.now))
    (rw (item_at c.args.m c.args.rows.now c.loop-i.i c.index-rows-i.result c.loop-i-test.true c.index-rows-i.is) c.put_row-next.ensures)

pub put_byte-requires : goal.put_byte-requires
unfolding rows_text
put_byte-requires g c =
    close_room (items c.args.m c.args.rows.now) c.args.at c.args.out.now c.requires.room c.put_byte-next.ensures c.loop-i.i c.loop-i.invariant (omega (arith, count c.args.m c.args.rows.now))

pub returns : goal.returns
unfolding rows_text
returns g c =
    array_put (items c.args.m c.args.rows.now) c.args.at c.args.out.now c.requires.room c.put_byte-next.ensures c.loop-i.i c.loop-i.invariant (omega (arith, count c.args.m c.args.rows.now)) c.put_byte.ensures
