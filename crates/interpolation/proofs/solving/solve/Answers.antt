-- `solving::solve` meets its contract.
use mathlib.Core.Path.{◌≡◌, sym, ap₂, subst, ◌∙◌}
use mathlib.Core.List.{List, map}
use Prim.Native.Nat.{ℕ, ◌+◌, ◌-◌, ◌%◌}
use native.Mathlib.Omega.{arith}
use lib.ListN.{take, drop, length-take}
use lib.Seq.{length-take-le}
use Rattle.residue.specs.Vector.{Below}
use Rattle.residue.specs.Layout.{fill}
use Rattle.residue.proofs.vector.Vectors.{below_take, below_drop}
use Rattle.elimination.proofs.reducing.Eliminated.{eliminated_below}
use Rattle.residue.proofs.Layouts.{answered}
use Rattle.interpolation.specs.Solving.{solution}
use Rattle.interpolation.proofs.solving.solve.Goals as goal
use Rattle.interpolation.proofs.solving.solve.Goals.{After-eliminate, Start}

-- after the elimination
abbrev start : After-eliminate → Start
start e = (goal.at.After-eliminate e).Start

reduced : (e : After-eliminate) → Below (start e).args.p e.eliminate.new.work
reduced e =
    let s = start e in
    let n : ℕ = s.args.n in
    subst (Below s.args.p) (sym e.eliminate.ensures.work_after)
    (eliminated_below s.args.p s.args.rows.now s.args.pivots.now s.args.work.now s.requires.n_bound.1 (omega arith) s.requires.multiplied.1 n (omega arith))

pub eliminate-requires : goal.eliminate-requires
eliminate-requires c = let s = c in record { le_p = (s.requires.le_p.0, s.requires.le_p.1, omega arith); zero_behind = λ t j h l m. absurd (omega arith); work_len = s.requires.n_bound.1; found_in_bounds = s.requires.n_in_bounds; multiplied = s.requires.multiplied; by_index = λ t h. omega (arith, s.requires.by_index t h) }

pub slice_bounds-put_answer-end-3 : goal.slice_bounds-put_answer-end-3
slice_bounds-put_answer-end-3 c = let s = c in
    sym (length-take-le 64 s.args.out.now s.requires.n_bound.2)

pub put_answer-requires : goal.put_answer-requires
put_answer-requires c = let e = c in
    let s = start (goal.at.put_answer-requires e).After-eliminate in
    let n : ℕ = s.args.n in
    let k = length-take (n + n - n) (drop n e.eliminate.new.work) in record { p_bound = s.requires.le_p.1; below = below_take s.args.p (n + n - n) (drop n e.eliminate.new.work) (below_drop s.args.p n e.eliminate.new.work (reduced (goal.at.put_answer-requires e).After-eliminate)); from_len_bound = (omega arith, length-take-le 64 s.args.out.now s.requires.n_bound.2) }

pub shape_of-work : goal.shape_of-work
shape_of-work c = c.eliminate.auto.work

pub returns : goal.returns
unfolding solution
returns c = let a = c in
    let e = a in
    let s = start (goal.at.returns e).After-eliminate in
    let n : ℕ = s.args.n in
    let k : n + n - n ≡ n = omega arith in
    let is = ap₂ (λ (j : ℕ) (w : List ℕ). fill 64 (map (λ x. (s.args.p - x) % s.args.p) (take j (drop n w)))) k e.eliminate.ensures.work_after in record { work_after = e.eliminate.ensures.work_after; out_after = answered 64 _ s.args.out.now _ (a.put_answer.ensures ∙ is) }
