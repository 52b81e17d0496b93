-- `decimal::put_digits` meets its contract: the digits before the last one, and the last.
use mathlib.Core.Path.{ap}
use mathlib.Core.List.{List, [], ◌∷◌}
use native.Mathlib.Omega.{arith}
use lib.ListN.{length}
use Prim.Native.Nat.{ℕ, ◌+◌, ◌/◌, ◌%◌}
use Rattle.writing.specs.Decimal.{decimal}
use Rattle.writing.proofs.appending.Appends.{first_room, put_room, put_more}
use Rattle.writing.proofs.decimal.DecimalDigits.{decimal_digit, decimal_more}
use Rattle.writing.proofs.decimal.+put_digits.Goals as goal

pub put_byte-requires : goal.put_byte-requires
put_byte-requires t c =
    let e = ap (λ (l : List ℕ). length l) (decimal_digit c.args.n (omega arith)) in
    omega arith

pub returns-then-n-lt10 : goal.returns-then-n-lt10
returns-then-n-lt10 t c = rw (decimal_digit c.args.n (omega arith)) at c.put_byte.ensures

pub put_digits-next-requires : goal.put_digits-next-requires
put_digits-next-requires t c =
    (omega arith, first_room c.args.at (decimal (c.args.n / 10)) ((48 + c.args.n % 10) ∷ []) c.args.out.now (rw (← decimal_more c.args.n (omega arith)) at c.requires))

pub put_byte-requires-2 : goal.put_byte-requires-2
put_byte-requires-2 t c = put_room c.put_digits-next.ensures (_ ∷ []) (rw (← decimal_more c.args.n (omega arith)) at c.requires)

pub returns : goal.returns
returns t c =
    let e = decimal_more c.args.n (omega arith) in
    rw e at (put_more c.put_digits-next.ensures (rw (← e) at c.requires) c.put_byte-2.ensures)
