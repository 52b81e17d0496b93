-- `fields::content_end` meets its contract: without quotes, or behind the one that closes the field.
use native.Mathlib.Omega.{arith}
use lib.ListN.{length}
use Prim.Native.Nat.{◌<◌}
use Rattle.std.proofs.Common.{rules}
use Rattle.notation.proofs.fields.FieldEnds.{tested, never_closed, not_closed, closed_here}
use Rattle.notation.proofs.fields.FieldSpans.{rest_size, rest_first}
use Rattle.notation.proofs.fields.content_end.Goals as goal

pub returns-then-not-quotes : goal.returns-then-not-quotes
returns-then-not-quotes c = tested c.if-not-quotes.true c.read_end.ensures

pub returns-in_default : goal.returns-in_default
returns-in_default c = let a = c.args in tested c.if-not-quotes.false (never_closed _ _ (omega (arith, rest_size a.text.now a.at)))

pub returns-in_default-2 : goal.returns-in_default-2
returns-in_default-2 c = let a = c.args in
    let h : a.at < length a.text.now = omega (arith, rest_size a.text.now a.at) in
    tested c.if-not-quotes.false (not_closed _ _ h (rw (← rest_first a.text.now a.at h) (search rules)))

pub returns : goal.returns
returns c = let a = c.args in
    let h : a.at < length a.text.now = omega (arith, rest_size a.text.now a.at) in
    tested c.if-not-quotes.false (closed_here _ _ h _ (rw (← rest_first a.text.now a.at h) (search rules)) c.read_end-2.ensures)
