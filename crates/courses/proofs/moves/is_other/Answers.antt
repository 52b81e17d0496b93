-- `moves::is_other` meets its contract.
use mathlib.Core.Path.{sym, ap, ◌∙◌}
use mathlib.Core.Bool.{not}
use Rattle.courses.proofs.moves.OtherRecords.{no_next, other_state, same_states}
use Rattle.courses.proofs.moves.is_other.Goals as goal

pub returns-then-not-has_next : goal.returns-then-not-has_next
returns-then-not-has_next c = let a = c.args in
    no_next a.i a.j a.count a.records.now a.numbers.now (sym c.has_next.ensures ∙ c.if-not-has_next.true)

pub returns-then-not-same_state : goal.returns-then-not-same_state
returns-then-not-same_state c = let e = c in
    let a = e.args in
    other_state a.i a.j a.count a.records.now a.numbers.now (sym e.has_next.ensures ∙ e.if-not-has_next.false)
    (sym c.same_state.ensures ∙ c.if-not-same_state.true)

pub returns : goal.returns
returns c = let d = c in
    let e = d in
    let a = e.args in
    ap not c.same_state-2.ensures
    ∙ same_states a.i a.j a.count a.records.now a.numbers.now (sym e.has_next.ensures ∙ e.if-not-has_next.false)
    (sym d.same_state.ensures ∙ d.if-not-same_state.false)
