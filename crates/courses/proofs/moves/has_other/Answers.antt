-- `moves::has_other` meets its contract: none of the first j records stands with another successor than record i.
use mathlib.Core.Path.{◌≡◌, refl, sym, ap, ap₂, ◌∙◌}
use mathlib.Core.Bool.{true, ◌&&◌}
use Prim.Native.Nat.{ℕ}
use native.Mathlib.Omega.{arith}
use Rattle.courses.specs.TimeCourse.{other_next}
use Rattle.courses.specs.Moves.{move_at, moves_before}
use Rattle.courses.proofs.moves.HeldRecords.{next_known}
use Rattle.courses.proofs.moves.OtherRecords.{next_inside, no_other_yet, other_on, other_met}
use Rattle.courses.proofs.moves.has_other.Goals as goal

pub has_next-requires : goal.has_next-requires
has_next-requires c = (c.requires.0, c.requires.1)

pub returns-then-not-has_next : goal.returns-then-not-has_next
returns-then-not-has_next c = let a = c.args in
    λ m l h e. rw (next_known h e a.i c.has_next.ensures ∙ c.if-not-has_next.true) refl

pub loop-j-init : goal.loop-j-init
loop-j-init c = let a = c.args in
    let met : c.has_next.result ≡ true = c.if-not-has_next.false in (
      omega arith,
      next_inside a.i a.count a.numbers.now (sym c.has_next.ensures ∙ met),
      λ m l h e. (next_known h e a.i c.has_next.ensures ∙ met, no_other_yet l (move_at a.i l)),
    )

pub is_other-requires : goal.is_other-requires
is_other-requires c = let s = c in (c.loop-j.invariant.1, c.loop-j-test.true, s.requires.1, s.requires.2)

pub returns-then-is_other : goal.returns-then-is_other
returns-then-is_other c = let l = c in
    let s = l in
    λ m k h e. let v = l.loop-j.invariant.2 m k h e in
    sym (ap₂ ◌&&◌ v.0 (other_met h e s.args.i l.loop-j.j l.loop-j.invariant.1 c.loop-j-test.true v.1
    c.is_other.ensures c.if-is_other.true))

pub loop-j-preserved : goal.loop-j-preserved
loop-j-preserved c = let l = c in
    let s = l in (
      omega arith,
      l.loop-j.invariant.1,
      λ m k h e. let v = l.loop-j.invariant.2 m k h e in (
        v.0,
        other_on h e s.args.i l.loop-j.j l.loop-j.invariant.1 c.loop-j-test.true v.1 c.is_other.ensures
            c.if-is_other.false,
      ),
    )

pub returns : goal.returns
returns c = let l = c in
    let s = l in
    let end : l.loop-j.j ≡ s.args.i = omega (arith, c.loop-j-test.false, l.loop-j.invariant.0) in
    λ m k h e. let v = l.loop-j.invariant.2 m k h e in
    sym (ap₂ ◌&&◌ v.0 (ap (λ (j : ℕ). other_next (moves_before j k) (move_at s.args.i k)) (sym end) ∙ v.1))
