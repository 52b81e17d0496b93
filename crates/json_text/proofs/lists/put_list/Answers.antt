-- `lists::put_list` meets its contract.
use mathlib.Core.Path.{◌≡◌}
use mathlib.Core.List.{List, [], ◌∷◌, map, flatten}
use Prim.Native.Nat.{ℕ, ◌<◌, ◌≤◌}
use native.Mathlib.Omega.{arith}
use lib.ListN.{length, get_or, length-map}
use Rattle.residue.proofs.vector.Vectors.{map_at}
use Rattle.writing.specs.Appending.{Room, Put}
use Rattle.writing.specs.Decimal.{decimal}
use Rattle.json_text.specs.Writing.{array, list_text}
use Rattle.writing.proofs.appending.Appends.{put_nothing}
use Rattle.json_text.proofs.ArrayRuns.{open_room, item_room, item_put, close_room, array_put}
use Rattle.json_text.proofs.lists.put_list.Goals as goal
use Rattle.json_text.proofs.lists.put_list.Goals.{At-loop-i, Start}

-- The loop's place.
module _ (l : At-loop-i) where
  abbrev entry : Start
  entry = (goal.at.At-loop-i l).Start

  abbrev list : List ℕ
  list = entry.args.list.now

  abbrev items : List (List ℕ)
  items = map decimal list

  abbrev at : ℕ
  at = entry.args.at

  abbrev lent : List ℕ
  lent = entry.args.out.now

  room : Room at (array items) lent
  unfolding list_text
  room = entry.requires

  opened : Put at (91 ∷ []) lent l.put_byte-next.new.out l.put_byte-next.result
  opened = l.put_byte-next.ensures

  number_at : l.loop-i.i < length list → get_or items l.loop-i.i [] ≡ decimal (get_or list l.loop-i.i 0)
  number_at h = map_at decimal list 0 [] l.loop-i.i h

  inside : l.loop-i.i < length list → l.loop-i.i < length items
  inside h = omega (arith, length-map list decimal)

  ended : length list ≤ l.loop-i.i → length items ≤ l.loop-i.i
  ended h = omega (arith, length-map list decimal)

pub put_byte-next-requires : goal.put_byte-next-requires
unfolding list_text
put_byte-next-requires c = open_room (map decimal c.args.list.now) c.args.at c.args.out.now c.requires

pub loop-i-init : goal.loop-i-init
unfolding flatten
loop-i-init c = put_nothing _ _

pub put_item-next-requires : goal.put_item-next-requires
put_item-next-requires c = let l = (goal.at.put_item-next-requires c).At-loop-i in
    rw (number_at l (omega arith)) at (item_room (items l) (at l) (lent l) (room l) (opened l) c.loop-i.i c.loop-i.invariant (inside l (omega arith)))

pub loop-i-preserved : goal.loop-i-preserved
loop-i-preserved c = let l = (goal.at.loop-i-preserved c).At-loop-i in
    item_put (items l) (at l) (lent l) (room l) (opened l) c.loop-i.i c.loop-i.invariant (inside l (omega arith)) (rw (number_at l (omega arith)) c.put_item-next.ensures)

pub put_byte-requires : goal.put_byte-requires
put_byte-requires c = let l = (goal.at.put_byte-requires c).At-loop-i in
    close_room (items l) (at l) (lent l) (room l) (opened l) c.loop-i.i c.loop-i.invariant (ended l (omega arith))

pub returns : goal.returns
unfolding list_text
returns c = let l = (goal.at.returns c).At-loop-i in
    array_put (items l) (at l) (lent l) (room l) (opened l) c.loop-i.i c.loop-i.invariant (ended l (omega arith)) c.put_byte.ensures
