-- `text::print_text` meets its contract.
use mathlib.Core.Path.{refl, sym}
use native.Mathlib.Omega.{arith}
use Rattle.specification.specs.Answers.{number_of}
use Rattle.specification.proofs.Refused.{number_above_0, number_small}
use Rattle.comma_text.specs.reading.Answers.{read_of}
use Rattle.writing.proofs.appending.Appends.{put_within}
use Rattle.printing.proofs.lines.LongestPrint.{refusal_length}
use Rattle.printing.proofs.text.AcceptedText.{fit, printed_refusal, printed_basis, print_short, print_long}
use Rattle.printing.proofs.text.print_text.Goals as goal

pub returns-then-out-lt131072-clause-fact_1 : goal.returns-then-out-lt131072-clause-fact_1
returns-then-out-lt131072-clause-fact_1 c = print_short _ _ c.if-out-lt131072.true

pub put_refusal-requires : goal.put_refusal-requires
put_refusal-requires c =
    let b = number_small c.in-Err.fault.refusal in
    let l = refusal_length (number_of c.in-Err.fault.refusal) c.in-Err.fault.at (omega arith) (omega arith) in
    omega arith

pub returns-in-Err-clause-fact_1 : goal.returns-in-Err-clause-fact_1
unfolding read_of
returns-in-Err-clause-fact_1 c = print_long _ _ c.if-out-lt131072.false (printed_refusal c.in-Err.ensures (number_above_0 c.in-Err.fault.refusal)) c.put_refusal.ensures

pub returns-in-Err-clause-fact_2 : goal.returns-in-Err-clause-fact_2
returns-in-Err-clause-fact_2 c =
    let b = number_small c.in-Err.fault.refusal in
    let l = refusal_length (number_of c.in-Err.fault.refusal) c.in-Err.fault.at (omega arith) (omega arith) in
    put_within c.put_refusal.ensures (omega arith)

pub slice_bounds-values-end : goal.slice_bounds-values-end
unfolding read_of
slice_bounds-values-end c = (fit _ _ c.in-Ok.ensures refl).3

pub slice_bounds-print_points-end-2 : goal.slice_bounds-print_points-end-2
unfolding read_of
slice_bounds-print_points-end-2 c = sym (fit _ _ c.in-Ok.ensures refl).1

pub print_points-requires-clause-points_given : goal.print_points-requires-clause-points_given
unfolding read_of
print_points-requires-clause-points_given c = (fit _ _ c.in-Ok.ensures refl).0

pub print_points-requires-clause-values_len : goal.print_points-requires-clause-values_len
unfolding read_of
print_points-requires-clause-values_len c = let f = fit _ _ c.in-Ok.ensures refl in (f.1, f.2)

pub returns-clause-fact_1 : goal.returns-clause-fact_1
unfolding read_of
returns-clause-fact_1 c = print_long _ _ c.if-out-lt131072.false (printed_basis c.in-Ok.ensures refl) c.print_points.ensures.fact_1
