-- `lines::put_number` meets its contract.
use mathlib.Core.List.{[], ◌∷◌}
use Rattle.writing.specs.Decimal.{decimal}
use Rattle.printing.specs.Lines.{spaced}
use Rattle.writing.proofs.appending.Appends.{first_room, put_room, put_more}
use Rattle.printing.proofs.lines.put_number.Goals as goal

pub put_byte-next-requires : goal.put_byte-next-requires
unfolding spaced
put_byte-next-requires c = let s = c in first_room s.args.at (32 ∷ []) (decimal s.args.n) s.args.out.now s.requires

pub put_digits-requires : goal.put_digits-requires
unfolding spaced
put_digits-requires c = put_room c.put_byte-next.ensures (decimal _) c.requires

pub returns : goal.returns
unfolding spaced
returns c = let called = c in
    put_more called.put_byte-next.ensures called.requires c.put_digits.ensures
