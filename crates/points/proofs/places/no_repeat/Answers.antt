-- `places::no_repeat` meets its contract: no point from i on repeats exactly where none of all does.
use mathlib.Core.Path.{◌≡◌, sym, ap, ap₂, ◌∙◌}
use mathlib.Core.List.{List}
use Prim.Native.Nat.{ℕ, ◌+◌, ◌*◌, ◌-◌}
use native.Mathlib.Omega.{arith}
use lib.ListN.{length, take, drop, length-drop}
use lib.Seq.{length-take-le, take_all}
use Rattle.residue.specs.Layout.{groups}
use Rattle.specification.specs.Levels.{is_among, no_repeat}
use Rattle.specification.proofs.Repeats.{again, repeat_on, repeat_hit, repeat_end}
use Rattle.points.proofs.places.no_repeat.Goals as goal
use Rattle.points.proofs.places.no_repeat.Goals.{After-is_among, At-loop-i, Start}

-- what was asked is whether the ith point stands among the later ones
module _ (c : After-is_among) where
  abbrev head : At-loop-i
  head = (goal.at.After-is_among c).At-loop-i

  abbrev start : Start
  start = (goal.at.At-loop-i head).Start

  asked : again start.args.states.now start.args.n head.loop-i.i c.loop-i-test.true ≡ c.is_among.result
  asked =
      let t : List ℕ = start.args.states.now in
      let i : ℕ = head.loop-i.i in
      let a : 8 * i + 8 - 8 * i ≡ 8 = omega arith in
      let b : 8 * i + 8 ≡ 8 * (i + 1) = omega arith in
      let d : start.args.n - i - 1 ≡ start.args.n - (i + 1) = omega arith in
      let w : take (length t - (8 * i + 8)) (drop (8 * i + 8) t) ≡ drop (8 * (i + 1)) t = take_all (length t - (8 * i + 8)) (drop (8 * i + 8) t) (simp length-drop (omega arith)) ∙ ap (λ (k : ℕ). drop k t) b in
      sym (c.is_among.ensures ∙ ap₂ is_among (ap (λ (k : ℕ). take k (drop (8 * i) t)) a) (ap₂ (groups 8) d w))

pub loop-i-init : goal.loop-i-init
loop-i-init c = let s = c in
    let e : s.args.n - 0 ≡ s.args.n = omega arith in
    (omega arith, ap (λ (k : ℕ). no_repeat (groups 8 k s.args.states.now)) e)

pub is_among-requires : goal.is_among-requires
is_among-requires c = let l = c in
    let i : ℕ = l.loop-i.i in
    let t : List ℕ = l.args.states.now in
    let d = length-drop (8 * i + 8) t in
    let f = length-take-le (length t - (8 * i + 8)) (drop (8 * i + 8) t) (omega arith) in
    let e = length-take-le (8 * i + 8 - 8 * i) (drop (8 * i) t) (simp length-drop (omega arith)) in record { n_in_bounds = omega arith; point_len = omega arith }

pub returns-then-is_among : goal.returns-then-is_among
returns-then-is_among c = let l = head (goal.at.returns-then-is_among c).After-is_among in
    let s = start (goal.at.returns-then-is_among c).After-is_among in
    repeat_hit s.args.states.now s.args.n l.loop-i.i c.loop-i-test.true (asked (goal.at.returns-then-is_among c).After-is_among ∙ c.if-is_among.true) ∙ l.loop-i.invariant.1

pub loop-i-preserved : goal.loop-i-preserved
loop-i-preserved c = let l = head (goal.at.loop-i-preserved c).After-is_among in
    let s = start (goal.at.loop-i-preserved c).After-is_among in
    (omega arith, repeat_on s.args.states.now s.args.n l.loop-i.i c.loop-i-test.true (asked (goal.at.loop-i-preserved c).After-is_among ∙ c.if-is_among.false) ∙ l.loop-i.invariant.1)

pub returns : goal.returns
returns c = let l = c in
    let s = l in
    repeat_end (drop (8 * l.loop-i.i) s.args.states.now) s.args.n l.loop-i.i (omega arith) ∙ l.loop-i.invariant.1
