-- `moves::has_next` meets its contract.
use Rattle.courses.proofs.moves.OtherRecords.{last_alone, next_told}
use Rattle.courses.proofs.moves.has_next.Goals as goal

pub returns-then-next-count : goal.returns-then-next-count
returns-then-next-count c = let a = c.args in last_alone a.i a.count a.numbers.now c.if-next-count.true

pub returns : goal.returns
returns c = let s = c in next_told s.args.i s.args.count s.args.numbers.now s.requires.0 c.if-next-count.false
