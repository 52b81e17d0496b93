-- `lists::put_number` meets its contract: one, two or three digits, in a straight line.
use mathlib.Core.List.{List, [], ◌∷◌}
use Prim.Native.Nat.{ℕ, ◌+◌, ◌/◌, ◌%◌}
use native.Mathlib.Omega.{arith}
use Rattle.writing.specs.Decimal.{decimal}
use Rattle.json_text.proofs.Digits.{one_digit, two_digits, three_digits}
use Rattle.json_text.proofs.StraightLine.{Going, start, going_room, going_on, going_end}
use Rattle.json_text.proofs.lists.put_number.Goals as goal
use Rattle.json_text.proofs.lists.put_number.Goals.{After-put_byte-last, After-put_byte-next, After-put_byte-next-2, Else-v-lt100, Start, Then-v-lt10, Then-v-lt100}

-- The digits that are still to be written, behind some.
abbrev Left : Start → List ℕ → List ℕ → ℕ → Type 0
Left s rest mid next = Going s.args.at (decimal s.args.v) s.args.out.now rest mid next

only : (c : Then-v-lt10) → let s = c in Left (goal.at.Then-v-lt10 s).Start ((48 + s.args.v) ∷ []) s.args.out.now s.args.at
only c = let s = c in start (one_digit s.args.v (omega arith)) s.requires

both : (c : Then-v-lt100) → let s = c in
    Left (goal.at.Then-v-lt100 s).Start ((48 + s.args.v / 10) ∷ (48 + s.args.v % 10) ∷ []) s.args.out.now s.args.at
both c = let s = c in start (two_digits s.args.v (omega arith) (omega arith)) s.requires

one_of_two : (c : After-put_byte-next) → let s = c in
    Left (goal.at.After-put_byte-next s).Start ((48 + s.args.v % 10) ∷ []) c.put_byte-next.new.out c.put_byte-next.result
one_of_two c = going_on (_ ∷ []) (_ ∷ []) (both (goal.at.After-put_byte-next c).Then-v-lt100) c.put_byte-next.ensures

three : (c : Else-v-lt100) → let s = c in
    Left (goal.at.Else-v-lt100 s).Start ((48 + s.args.v / 100) ∷ (48 + s.args.v / 10 % 10) ∷ (48 + s.args.v % 10) ∷ []) s.args.out.now s.args.at
three c = let s = c in start (three_digits s.args.v (omega arith) (omega arith)) s.requires

two_of_three : (c : After-put_byte-next-2) → let s = c in
    Left (goal.at.After-put_byte-next-2 s).Start ((48 + s.args.v / 10 % 10) ∷ (48 + s.args.v % 10) ∷ []) c.put_byte-next-2.new.out c.put_byte-next-2.result
two_of_three c = going_on (_ ∷ []) (_ ∷ _ ∷ []) (three (goal.at.After-put_byte-next-2 c).Else-v-lt100) c.put_byte-next-2.ensures

one_of_three : (c : After-put_byte-last) → let s = c in
    Left (goal.at.After-put_byte-last s).Start ((48 + s.args.v % 10) ∷ []) c.put_byte-last.new.out c.put_byte-last.result
one_of_three c = going_on (_ ∷ []) (_ ∷ []) (two_of_three (goal.at.After-put_byte-last c).After-put_byte-next-2) c.put_byte-last.ensures

pub put_byte-requires : goal.put_byte-requires
put_byte-requires c = going_room (_ ∷ []) [] (only (goal.at.put_byte-requires c).Then-v-lt10)

pub returns-then-v-lt10 : goal.returns-then-v-lt10
returns-then-v-lt10 c = let d = c in going_end (going_on (_ ∷ []) [] (only (goal.at.returns-then-v-lt10 d).Then-v-lt10) d.put_byte.ensures)

pub put_byte-next-requires : goal.put_byte-next-requires
put_byte-next-requires c = going_room (_ ∷ []) (_ ∷ []) (both (goal.at.put_byte-next-requires c).Then-v-lt100)

pub put_byte-requires-then-v-lt100 : goal.put_byte-requires-then-v-lt100
put_byte-requires-then-v-lt100 c = going_room (_ ∷ []) [] (one_of_two (goal.at.put_byte-requires-then-v-lt100 c).After-put_byte-next)

pub returns-then-v-lt100 : goal.returns-then-v-lt100
returns-then-v-lt100 c = let d = c in going_end (going_on (_ ∷ []) [] (one_of_two (goal.at.returns-then-v-lt100 d).After-put_byte-next) d.put_byte-then-v-lt100.ensures)

pub put_byte-next-requires-2 : goal.put_byte-next-requires-2
put_byte-next-requires-2 c = going_room (_ ∷ []) (_ ∷ _ ∷ []) (three (goal.at.put_byte-next-requires-2 c).Else-v-lt100)

pub put_byte-last-requires : goal.put_byte-last-requires
put_byte-last-requires c = going_room (_ ∷ []) (_ ∷ []) (two_of_three (goal.at.put_byte-last-requires c).After-put_byte-next-2)

pub put_byte-requires-2 : goal.put_byte-requires-2
put_byte-requires-2 c = going_room (_ ∷ []) [] (one_of_three (goal.at.put_byte-requires-2 c).After-put_byte-last)

pub returns : goal.returns
returns c = let d = c in going_end (going_on (_ ∷ []) [] (one_of_three (goal.at.returns d).After-put_byte-last) d.put_byte-2.ensures)
