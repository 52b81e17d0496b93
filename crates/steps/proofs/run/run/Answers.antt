-- `run::run` meets its contract. The last k + 1 places of the table are the states met, the latest first, and what is left of the run from there is the whole run.
use mathlib.Core.Path.{◌≡◌, refl, sym, ap, subst, ◌∙◌}
use mathlib.Core.List.{List, []}
use Prim.Native.Nat.{ℕ, ◌+◌, ◌*◌, ◌-◌, ◌<◌}
use native.Mathlib.Omega.{arith}
use lib.ListN.{length, take, drop, replicate, length-drop, length-replicate}
use lib.Seq.{length-take-le, get_or-take}
use Rattle.residue.specs.Vector.{Below}
use Rattle.residue.proofs.Replaced.{part_long}
use Rattle.residue.proofs.vector.Vectors.{below_take, below_drop, below_zeros}
use Rattle.steps.specs.Stepping.{step_of}
use Rattle.steps.proofs.stepping.StepLaws.{step_long, step_below}
use Rattle.steps.proofs.run.RunLaws.{running_start, running_end, running_hit, running_on, all_met}
use Rattle.steps.proofs.run.run.Goals as goal
use Rattle.steps.proofs.run.run.Goals.{At-loop-k, Start}

abbrev opened : At-loop-k → Start
opened l = (goal.at.At-loop-k l).Start

abbrev stepped : At-loop-k → List ℕ → List ℕ
stepped l = let a = (opened l).args in step_of a.p a.m a.n a.standard.now a.genes.now

abbrev behind : At-loop-k → List ℕ
behind l = drop (8 * (256 - l.loop-k.k)) l.loop-k.met

-- what a step has written
module _ (l : At-loop-k) (inside : l.loop-k.k < 256) (next : List ℕ)
    (e : next ≡ stepped l (take (8 * (256 - l.loop-k.k) + 8 - 8 * (256 - l.loop-k.k)) (behind l))) where
  step_is : next ≡ stepped l (take 8 (behind l))
  step_is = let n : 8 * (256 - l.loop-k.k) + 8 - 8 * (256 - l.loop-k.k) ≡ 8 = omega arith in e ∙ ap (λ (k : ℕ). stepped l (take k (behind l))) n

  next_long : length next ≡ 8
  next_long = let a = (opened l).args in ap length step_is ∙ step_long a.p a.m a.n a.standard.now a.genes.now (take 8 (behind l))

  next_below : Below (opened l).args.p next
  next_below = let a = (opened l).args in
      subst (Below a.p) (sym step_is) (step_below a.p a.m a.n a.standard.now a.genes.now (take 8 (behind l)) (omega (arith, (opened l).requires.le_p)))

pub slice_bounds-above-end : goal.slice_bounds-above-end
slice_bounds-above-end c = let s = c in sym (length-take-le (8 * s.args.n) s.args.standard.now (omega (arith, s.requires.le_p, s.requires.in_bounds, s.requires.start_len)))

pub copy-requires : goal.copy-requires
copy-requires c = let s = c in omega (arith, s.requires.start_len)

pub loop-k-init : goal.loop-k-init
loop-k-init c = let s = c in
    let a = s.args in
    running_start (step_of a.p a.m a.n a.standard.now a.genes.now) a.start.now a.p (replicate 2056 0) _ (length-replicate {A = ℕ} 2056 0)
    (below_zeros a.p 2056 (omega (arith, s.requires.le_p))) s.requires.start_len.0 s.requires.start_len.1 c.copy.ensures

pub slice_bounds-step-end : goal.slice_bounds-step-end
slice_bounds-step-end c = let l = c in omega (arith, l.loop-k.invariant.size)

pub step-requires : goal.step-requires
step-requires c = let l = c in
    let s = opened (goal.at.step-requires l).At-loop-k in
    let a = s.args in
    let from : ℕ = 8 * (256 - l.loop-k.k) in
    let top = c.above-exponents.ensures in
    let front = length-take-le (8 * a.n) a.standard.now (omega (arith, s.requires.le_p, s.requires.in_bounds, s.requires.start_len)) in record { le_p = (s.requires.le_p.0, s.requires.le_p.1, s.requires.le_p.2, s.requires.le_p.3, top.0); n_in_bounds = (omega (arith, s.requires.le_p, s.requires.in_bounds, s.requires.start_len), λ i h. subst (λ (x : ℕ). x < c.above-exponents.result) (get_or-take (8 * a.n) a.standard.now i 0 h) (top.1 i (omega (arith, h, front)))); in_bounds = (s.requires.in_bounds.1, s.requires.in_bounds.2); state_len = (part_long from (from + 8 - from) 8 l.loop-k.met (omega arith) (omega (arith, l.loop-k.invariant.size)), below_take a.p (from + 8 - from) (behind (goal.at.step-requires l).At-loop-k) (below_drop a.p from l.loop-k.met l.loop-k.invariant.low)); next_value = refl }

pub slice_bounds-place_of-end : goal.slice_bounds-place_of-end
slice_bounds-place_of-end c = let l = c in omega (arith, l.loop-k.invariant.size)

pub slice_bounds-place_of-end-in-loop-k : goal.slice_bounds-place_of-end-in-loop-k
slice_bounds-place_of-end-in-loop-k c = let l = c in sym (next_long (goal.at.slice_bounds-place_of-end-in-loop-k l).At-loop-k (omega arith) _ c.step.ensures)

pub place_of-at-requires : goal.place_of-at-requires
place_of-at-requires c = let l = c in
    let h : l.loop-k.k < 256 = omega arith in record { n_in_bounds = omega (arith, h, ap length (all_met _ _ _ l.loop-k.k l.loop-k.met l.loop-k.invariant h []), length-drop (8 * (256 - l.loop-k.k)) l.loop-k.met, l.loop-k.invariant.size); point_len = next_long (goal.at.place_of-at-requires l).At-loop-k h _ c.step.ensures }

pub returns-then-at-k : goal.returns-then-at-k
returns-then-at-k c = let l = c in
    let h : l.loop-k.k < 256 = omega arith in
    running_hit _ _ _ l.loop-k.k l.loop-k.met l.loop-k.invariant h _ (step_is (goal.at.returns-then-at-k l).At-loop-k h _ c.step.ensures) _ c.place_of-at.ensures c.if-at-k.true

pub slice_bounds-copy-end : goal.slice_bounds-copy-end
slice_bounds-copy-end c = let l = c in sym (next_long (goal.at.slice_bounds-copy-end l).At-loop-k (omega arith) _ c.step.ensures)

pub slice_bounds-met-end-in-loop-k : goal.slice_bounds-met-end-in-loop-k
slice_bounds-met-end-in-loop-k c = let l = c in omega (arith, l.loop-k.invariant.size)

pub copy-requires-in-loop-k : goal.copy-requires-in-loop-k
copy-requires-in-loop-k c = let l = c in
    let from : ℕ = 8 * (256 - l.loop-k.k) in
    let h : l.loop-k.k < 256 = omega arith in
    omega (arith, next_long (goal.at.copy-requires-in-loop-k l).At-loop-k h _ c.step.ensures, part_long (from - 8) (from - (from - 8)) 8 l.loop-k.met (omega arith) (omega (arith, l.loop-k.invariant.size)))

pub loop-k-preserved : goal.loop-k-preserved
loop-k-preserved c = let l = c in
    let from : ℕ = 8 * (256 - l.loop-k.k) in
    let h : l.loop-k.k < 256 = omega arith in
    let e = c.step.ensures in
    running_on _ _ _ l.loop-k.k l.loop-k.met l.loop-k.invariant h _ (step_is (goal.at.loop-k-preserved l).At-loop-k h _ e) _ c.place_of-at.ensures (omega (arith, c.if-at-k.false)) (from - (from - 8)) _ (omega arith)
    (next_long (goal.at.loop-k-preserved l).At-loop-k h _ e) (next_below (goal.at.loop-k-preserved l).At-loop-k h _ e) c.copy-in-loop-k.ensures

pub returns : goal.returns
returns c = let l = c in running_end _ _ _ l.loop-k.k l.loop-k.met l.loop-k.invariant (omega arith)
