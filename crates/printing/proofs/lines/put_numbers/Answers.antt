-- `lines::put_numbers` meets its contract. The loop has put the numbers so far.
use mathlib.Core.Path.{◌≡◌, sym, ◌∙◌, ap}
use mathlib.Core.List.{List, [], map, flatten}
use Prim.Native.Nat.{ℕ, ◌<◌}
use native.Mathlib.Omega.{arith}
use lib.ListN.{length, get_or, length-map}
use Rattle.residue.proofs.vector.Vectors.{map_at}
use Rattle.printing.specs.Lines.{spaced, spaced_numbers}
use Rattle.writing.proofs.appending.Appends.{put_nothing, turn_room, turn, turns_all}
use Rattle.printing.proofs.lines.put_numbers.Goals as goal

spaced_at : (l : List ℕ) (i v : ℕ) → i < length l → v ≡ get_or l i 0 → get_or (map spaced l) i [] ≡ spaced v
spaced_at l i v h e = map_at spaced l 0 [] i h ∙ ap spaced (sym e)

pub loop-v-init : goal.loop-v-init
unfolding flatten
loop-v-init c = put_nothing _ _

pub put_number-next-requires : goal.put_number-next-requires
unfolding spaced_numbers
put_number-next-requires c = turn_room (map spaced c.args.list.now) c.loop-v.v-index _ (omega (arith, length-map c.args.list.now spaced)) (spaced_at c.args.list.now c.loop-v.v-index c.from.result c.loop-v-test.true c.from.ensures) c.loop-v.invariant c.requires

pub loop-v-preserved : goal.loop-v-preserved
unfolding spaced_numbers
loop-v-preserved c = turn (map spaced c.args.list.now) c.loop-v.v-index _ (omega (arith, length-map c.args.list.now spaced)) (spaced_at c.args.list.now c.loop-v.v-index c.from.result c.loop-v-test.true c.from.ensures) c.loop-v.invariant c.requires c.put_number-next.ensures

pub returns : goal.returns
unfolding spaced_numbers
returns c = turns_all (map spaced c.args.list.now) c.loop-v.v-index (omega (arith, length-map c.args.list.now spaced)) c.loop-v.invariant
