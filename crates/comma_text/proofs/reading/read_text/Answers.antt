-- `reading::read_text` meets its contract: the length, the header, the entries, and what they decide.
use mathlib.Core.Path.{◌≡◌, sym, ◌∙◌}
use mathlib.Core.List.{List}
use Prim.Native.Nat.{ℕ}
use lib.ListN.{drop}
use Rattle.std.specs.Prelude.{Err}
use Rattle.std.proofs.Common.{rules}
use Rattle.notation.specs.Forms.{Header}
use Rattle.specification.specs.Answers.{number_of}
use Rattle.comma_text.specs.reading.Answers.{read_of}
use Rattle.comma_text.specs.reading.Text.{text_refused}
use Rattle.comma_text.specs.reading.Records.{header_said}
use Rattle.comma_text.specs.declared.reading.records.HeaderAt.{HeaderAt}
use Rattle.comma_text.proofs.reading.WholeText.{too_long, header_broken, header_order, entry_broken, form_right}
use Rattle.comma_text.proofs.reading.read_text.Goals as goal

-- what a header says, with its weights
abbrev header : HeaderAt → List ℕ → Header
header h weights = record { variables = h.variables; modulus = h.modulus; order = h.order; weights = weights }

pub returns-then-text-gt16384 : goal.returns-then-text-gt16384
unfolding text_refused read_of number_of
returns-then-text-gt16384 c = too_long _ _ _ _ _ c.if-text-gt16384.true

pub returns-in_default : goal.returns-in_default
unfolding text_refused read_of number_of header_said
returns-in_default c = rw c.in_header.ensures (header_broken _ _ _ _ _ c.if-text-gt16384.false (sym c.in_default.ensures.said))

pub read_entries-requires-clause-order_bound : goal.read_entries-requires-clause-order_bound
unfolding header_said
read_entries-requires-clause-order_bound c =
    let g = c.in-Some.field-0 in
    (header_order (header g c.read_header.new.weights) (drop g.next c.args.text.now) _ (sym c.in-Some.ensures.said), c.read_header.auto.weights)

pub returns-in_err-n : goal.returns-in_err-n
unfolding text_refused read_of header_said
returns-in_err-n c =
    let g = c.in-Some.field-0 in
    let e : c.from_residual.result ≡ Err c.in_err-n.field-0.0 = search rules in
    rw e (entry_broken _ _ _ _ _ c.if-text-gt16384.false (header g c.read_header.new.weights) (drop g.next c.args.text.now) (sym c.in-Some.ensures.said) _ c.in_err-n.ensures)

pub returns : goal.returns
unfolding header_said
returns c =
    let g = c.in-Some.field-0 in
    c.read_entries.ensures
    ∙ form_right _ _ _ _ _ c.if-text-gt16384.false (header g c.read_header.new.weights) (drop g.next c.args.text.now) (sym c.in-Some.ensures.said) _ c.in_ok-n.ensures
