-- `moves::first_other` meets its contract: no 17 among the moves of the first i records.
use mathlib.Core.Path.{sym, ap, ◌∙◌}
use Rattle.std.specs.Prelude.{Some}
use native.Mathlib.Omega.{arith}
use Rattle.residue.proofs.Tests.{and_left, and_right, true_of, of_true}
use Rattle.courses.specs.TimeCourse.{other_next}
use Rattle.courses.specs.Moves.{has_next, move_at, moves_before}
use Rattle.courses.proofs.moves.OtherRecords.{fault_here, no_fault_here, no_fault_yet, no_fault}
use Rattle.courses.proofs.moves.MovesAnswers.{some_told, none_told}
use Rattle.courses.proofs.moves.first_other.Goals as goal

pub loop-i-init : goal.loop-i-init
loop-i-init c = (omega arith, λ m l h e. no_fault_yet other_next l)

pub has_other-requires : goal.has_other-requires
has_other-requires c = let s = c in (c.loop-i-test.true, s.requires.1, s.requires.2)

pub returns-then-has_other : goal.returns-then-has_other
returns-then-has_other c = let l = c in
    λ m k h e.
    let t = of_true (sym (c.has_other.ensures m k h e) ∙ c.if-has_other.true) in
    let has = has_next l.loop-i.i k in
    let other = other_next (moves_before l.loop-i.i k) (move_at l.loop-i.i k) in
    let f = fault_here other_next l.loop-i.i k (l.loop-i.invariant.1 m k h e) (true_of has (and_left has other t)) (true_of other (and_right has other t)) in
    ap Some (sym f) ∙ some_told _ (λ z. omega (arith, f))

pub loop-i-preserved : goal.loop-i-preserved
loop-i-preserved c = let l = c in
    (omega arith, λ m k h e. no_fault_here other_next l.loop-i.i k (l.loop-i.invariant.1 m k h e) (sym (c.has_other.ensures m k h e) ∙ c.if-has_other.false))

pub returns : goal.returns
returns c = let l = c in
    λ m k h e. none_told _ (sym (no_fault other_next l.loop-i.i k (omega (arith, e, c.loop-i-test.false)) (l.loop-i.invariant.1 m k h e)))
