-- `lines::put_rows` meets its contract. The loop has put the lines so far.
use mathlib.Core.List.{map, zip_with, flatten}
use native.Mathlib.Omega.{arith}
use lib.ListN.{length, take}
use Rattle.std.proofs.lemmas.List.{length_push}
use Rattle.std.proofs.lemmas.Slice.Zip.{zip_turn, zip_end}
use Rattle.printing.specs.Lines.{row_line, row_lines}
use Rattle.writing.proofs.appending.Appends.{put_nothing, turn_room, turn, turns_all}
use Rattle.printing.proofs.lines.TableLines.{rows_length, rows_at}
use Rattle.printing.proofs.lines.put_rows.Goals as goal

pub loop-lead-init : goal.loop-lead-init
unfolding flatten
loop-lead-init c = put_nothing _ _

pub put_row-next-requires : goal.put_row-next-requires
unfolding row_lines
put_row-next-requires c =
    let t = zip_turn c.args.leads.now c.args.coefficients.now c.loop-lead.yielded c.into_iter-lead-iterator.result c.loop-lead.lead-iterator c.next.new.self c.next.result (cc) (cc) c.loop-lead.yielded_by (c.in-Some.lead, c.in-Some.row) c.in-Some.is c.next.ensures.steps in
    turn_room (zip_with row_line (map (take c.args.m) c.args.leads.now) (map (take c.args.n) c.args.coefficients.now)) (length c.loop-lead.yielded) _ (omega (arith, t.0, rows_length c.args.m c.args.n c.args.leads.now c.args.coefficients.now c.requires.as_many))
    (rows_at c.args.m c.args.n c.args.leads.now c.args.coefficients.now c.requires.as_many (length c.loop-lead.yielded) c.in-Some.lead.now c.in-Some.row.now t.0 (t.2 _) (t.3 _)) c.loop-lead.invariant c.requires.room

pub loop-lead-preserved : goal.loop-lead-preserved
unfolding row_lines
loop-lead-preserved c =
    let t = zip_turn c.args.leads.now c.args.coefficients.now c.loop-lead.yielded c.into_iter-lead-iterator.result c.loop-lead.lead-iterator c.next.new.self c.next.result (cc) (cc) c.loop-lead.yielded_by (c.in-Some.lead, c.in-Some.row) c.in-Some.is c.next.ensures.steps in
    rw (length_push c.loop-lead.yielded (c.in-Some.lead, c.in-Some.row))
    (turn (zip_with row_line (map (take c.args.m) c.args.leads.now) (map (take c.args.n) c.args.coefficients.now)) (length c.loop-lead.yielded) _ (omega (arith, t.0, rows_length c.args.m c.args.n c.args.leads.now c.args.coefficients.now c.requires.as_many))
    (rows_at c.args.m c.args.n c.args.leads.now c.args.coefficients.now c.requires.as_many (length c.loop-lead.yielded) c.in-Some.lead.now c.in-Some.row.now t.0 (t.2 _) (t.3 _)) c.loop-lead.invariant c.requires.room c.put_row-next.ensures)

pub returns : goal.returns
unfolding row_lines
returns c =
    let e = zip_end c.args.leads.now c.args.coefficients.now c.loop-lead.yielded c.into_iter-lead-iterator.result c.loop-lead.lead-iterator c.next.new.self c.next.result (cc) (cc) c.loop-lead.yielded_by c.in-None.is c.next.ensures.steps in
    turns_all (zip_with row_line (map (take c.args.m) c.args.leads.now) (map (take c.args.n) c.args.coefficients.now)) (length c.loop-lead.yielded) (omega (arith, e, rows_length c.args.m c.args.n c.args.leads.now c.args.coefficients.now c.requires.as_many, c.requires.as_many)) c.loop-lead.invariant
