-- `write::write_json` meets its contract: it is refused with the number of its look, or the document is written.
use borrow.Author.Rules.{rules}
use mathlib.Core.Path.{◌≡◌, sym, ap, ◌∙◌}
use native.Mathlib.Omega.{arith}
use lib.ListN.{length}
use Rattle.std.proofs.lemmas.Result.{err_from_is_err_and}
use Rattle.residue.proofs.level.Moduli.{modulus_range}
use Rattle.specification.specs.Answers.{number_of, refusal_of}
use Rattle.specification.specs.Lent.{lent}
use Rattle.specification.specs.Refusal.{first_of}
use Rattle.specification.specs.Tables.{Tables}
use Rattle.recognition.proofs.settings.ByNumber.{number_above_0}
use Rattle.json_sheets.specs.Sheets.{document_of}
use Rattle.json_sheets.specs.Calls.{write_cases, written_of}
use Rattle.json_sheets.proofs.SheetDocuments.{Checked}
use Rattle.json_sheets.proofs.write.Writes.{judged, checked, holds, room, write_refused, write_accepted, write_short}
use Rattle.json_sheets.proofs.write.write_json.Goals as goal
use Rattle.json_sheets.proofs.write.write_json.Goals.{After-judge, In_ok-judge, Start}

-- the lent tables
abbrev tables : Start → Tables
tables s = lent s.args.tables

-- the weights are eight by their type
eight : (s : Start) → length s.args.settings.weights ≡ 8
eight s = search rules

-- the look at them
module _ (d : After-judge) where
  abbrev s : Start
  s = (goal.at.After-judge d).Start

  told : refusal_of d.judge.result ≡ first_of 0 (write_cases s.args.settings s.args.n s.args.r (tables s) s.args.out.now)
  told = d.judge.ensures ∙ judged s.args.settings s.args.n s.args.r (tables s) s.args.out.now

-- nothing refuses
module _ (e : In_ok-judge) where
  abbrev b : Start
  b = s (goal.at.In_ok-judge e).After-judge

  fine : first_of 0 (write_cases b.args.settings b.args.n b.args.r (tables b) b.args.out.now) ≡ 0
  unfolding refusal_of
  fine = sym (told (goal.at.In_ok-judge e).After-judge) ∙ ap refusal_of e.in_ok-judge.was

  good : Checked b.args.settings b.args.n b.args.r (tables b)
  good = checked b.args.settings b.args.n b.args.r (tables b) b.args.out.now (eight b) fine

pub returns-in_err-judge : goal.returns-in_err-judge
unfolding refusal_of written_of
returns-in_err-judge c =
    let p = err_from_is_err_and c.from_residual.result c.from_residual.ensures.1 in
    let e = c.in_err-judge.field-0.0 in
    let s = s (goal.at.returns-in_err-judge c).After-judge in
    rw (p.1, p.2) (write_refused s.args.settings s.args.n s.args.r (tables s) s.args.out.now (number_of e)
    (ap refusal_of (sym c.in_err-judge.was) ∙ told (goal.at.returns-in_err-judge c).After-judge) (number_above_0 e))

pub overflow_cast-shape : goal.overflow_cast-shape
overflow_cast-shape c = omega (arith, modulus_range c.args.settings.modulus (good (goal.at.overflow_cast-shape c).In_ok-judge).settings.modulus)

pub overflow_cast-shape-2 : goal.overflow_cast-shape-2
overflow_cast-shape-2 c = omega (arith, (good (goal.at.overflow_cast-shape-2 c).In_ok-judge).settings.few)

pub overflow_cast-shape-3 : goal.overflow_cast-shape-3
overflow_cast-shape-3 c = omega (arith, (good (goal.at.overflow_cast-shape-3 c).In_ok-judge).settings.order)

pub put_document-count-requires : goal.put_document-count-requires
unfolding document_of
put_document-count-requires c =
    let e = (goal.at.put_document-count-requires c).In_ok-judge in
    let b = b e in record {
      holds = holds b.args.settings b.args.n b.args.r (tables b) b.args.out.now (eight b) (fine e);
      room = room b.args.settings b.args.n b.args.r (tables b) b.args.out.now (eight b) (fine e);
    }

pub overflow_cast-result : goal.overflow_cast-result
unfolding document_of
overflow_cast-result c =
    let e = (goal.at.overflow_cast-result c).In_ok-judge in
    let b = b e in
    omega (arith, write_short b.args.settings b.args.n b.args.r (tables b) b.args.out.now (eight b) (fine e) c.put_document-count.ensures)

pub returns : goal.returns
unfolding document_of written_of
returns c =
    let e = (goal.at.returns c).In_ok-judge in
    let b = b e in
    write_accepted b.args.settings b.args.n b.args.r (tables b) b.args.out.now (eight b) (fine e) c.put_document-count.ensures
