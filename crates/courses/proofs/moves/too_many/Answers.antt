-- `moves::too_many` meets its contract.
use mathlib.Core.Path.{sym, ap, ◌∙◌}
use Rattle.std.specs.Prelude.{Err}
use Rattle.specification.specs.Answers.{number_of}
use Rattle.specification.specs.declared.refusals.Fault.{Fault}
use Rattle.courses.specs.Moves.{gathered_of}
use Rattle.courses.proofs.moves.MovesAnswers.{record_there, record_away, other_first, many_first}
use Rattle.courses.proofs.moves.too_many.Goals as goal

pub returns-in-Some : goal.returns-in-Some
unfolding gathered_of number_of
returns-in-Some c m l h e =
    let t = record_there _ c.in-Some.at (sym (c.first_other.ensures m l h e) ∙ c.in-Some.is) in
    rw t.0 (other_first _ c.args.i t.1)

pub returns-in-None : goal.returns-in-None
unfolding gathered_of number_of
returns-in-None c m l h e =
    ap (λ (f : Fault). gathered_of (Err f)) c.at_record.ensures
    ∙ many_first _ c.args.i (record_away _ (sym (c.first_other.ensures m l h e) ∙ c.in-None.is))
