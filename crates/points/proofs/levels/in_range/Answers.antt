-- `levels::in_range` meets its contract: no level was outside so far, and those from i on are in range, exactly where all are.
use mathlib.Core.Path.{◌≡◌, refl, sym, ap, ap₂, subst, ◌∙◌}
use mathlib.Core.Bool.{Bool, ◌&&◌, and-true, and-false}
use mathlib.Core.Logic.{⊎_elim}
use Prim.Native.Nat.{ℕ, ◌+◌, ◌<◌, ◌≤◌}
use native.Mathlib.Omega.{arith}
use lib.IntN.{ℤ, pos, nat_abs}
use lib.ListN.{drop, get_or}
use lib.Dec.{eqb}
use Rattle.specification.specs.Levels.{in_range}
use Rattle.points.proofs.levels.LevelLists.{handed, range_on, range_stop, range_end}
use Rattle.points.proofs.levels.in_range.Goals as goal
use Rattle.points.proofs.levels.in_range.Goals.{After-magnitude}

-- the size is that of the level at i
abbrev at : After-magnitude → ℤ
at r = get_or r.args.levels.now r.loop-i.i (pos 0)

size : (r : After-magnitude) → r.magnitude.result ≡ nat_abs (at r)
size r = r.magnitude.ensures ∙ ap nat_abs (handed (at r) r.magnitude-arg-1.given)

pub loop-i-init : goal.loop-i-init
loop-i-init c = (omega arith, refl)

pub loop-i-preserved : goal.loop-i-preserved
loop-i-preserved c = let r = c in
    let l = r in
    let p = l.args.p in
    let zs = l.args.levels.now in
    let i = l.loop-i.i in
    let none = eqb l.loop-i.outside 0 in
    let more = r.loop-i-test.true in
    ⊎_elim
    (λ w. (
      omega arith,
      ap (λ (d : ℕ). eqb d 0 && in_range p (drop (i + 1) zs)) w.outside-is ∙ sym (and-false none)
          ∙ ap (λ (b : Bool). none && b) (range_stop p zs i (pos 0) more (subst (λ (k : ℕ). p ≤ k) (size (goal.at.loop-i-preserved r).After-magnitude) w.if-p-magnitude.true)) ∙ l.loop-i.invariant.1,
    ))
    (λ w. (
      omega arith,
      ap₂ (λ (d : ℕ) (b : Bool). eqb d 0 && b) w.outside-is (range_on p zs i (pos 0) more (subst (λ (k : ℕ). k < p) (size (goal.at.loop-i-preserved r).After-magnitude) w.if-p-magnitude.false)) ∙ l.loop-i.invariant.1,
    ))
    c.if-p-magnitude.branch-raw

pub returns : goal.returns
returns c = let l = c in
    let a = l.args in
    let none = eqb l.loop-i.outside 0 in
    sym (and-true none) ∙ ap (λ (b : Bool). none && b) (range_end a.p a.levels.now l.loop-i.i (omega arith)) ∙ l.loop-i.invariant.1
