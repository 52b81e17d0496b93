-- `digits::read_leading` meets its contract. The digits from `i` on, behind the number so far, write the number of all, and end where all do.
use mathlib.Core.Path.{◌≡◌}
use Prim.Native.Nat.{◌+◌, ◌-◌, ◌^◌, ◌<◌, ◌≤◌}
use lib.ListN.{length, drop}
use Rattle.notation.specs.Digits.{is_digit, digits_from}
use Rattle.notation.specs.Fields.{front}
use Rattle.notation.proofs.digits.LeadingDigits.{digits}
use Rattle.notation.proofs.digits.read_leading.Given as goal

abbrev pub invariant-loop-i : goal.invariant-loop-i
invariant-loop-i l = (l.i ≤ 3) × (l.size < 10 ^ l.i) × (l.i + front is_digit (drop l.i l.content) ≡ front is_digit l.content) × (digits_from l.size (digits (drop l.i l.content)) ≡ digits_from 0 (digits l.content))

abbrev pub decreases-loop-i : goal.decreases-loop-i
decreases-loop-i l = length l.content - l.i
