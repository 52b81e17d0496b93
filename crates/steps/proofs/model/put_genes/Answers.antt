-- `model::put_genes` meets its contract. The loop has written the interpolants of the first g genes.
use mathlib.Core.Path.{subst, ◌≡◌, sym, ap, ◌∙◌}
use mathlib.Core.List.{List}
use Prim.Native.Nat.{ℕ, ◌+◌, ◌*◌, ◌-◌, ◌<◌}
use native.Mathlib.Omega.{arith}
use lib.ListN.{take, drop, replicate, length}
use Rattle.residue.specs.Vector.{Below}
use Rattle.residue.specs.Layout.{over, fill, in_places, length_fill}
use Rattle.residue.proofs.Layouts.{below_fill}
use Rattle.residue.proofs.Places.{over_zeros}
use Rattle.residue.proofs.Replaced.{part_long, zeros_long}
use Rattle.interpolation.specs.Solving.{solution}
use Rattle.steps.specs.Stepping.{next_values, solutions_of}
use Rattle.steps.proofs.model.ModelLaws.{next_long, next_below, solutions_none, solutions_more}
use Rattle.steps.proofs.model.put_genes.Goals as goal
use Rattle.steps.proofs.model.put_genes.Goals.{At-loop-g, In-loop-g, Start}

abbrev start : At-loop-g → Start
start l = (goal.at.At-loop-g l).Start

long : (l : At-loop-g) → length l.loop-g.genes ≡ 512
long l = ap length l.loop-g.invariant.1 ∙ length_fill 512 _

-- the working row of gene g
abbrev row : (l : At-loop-g) → List ℕ
row l = let a = (start l).args in fill 128 (next_values l.loop-g.g a.records.now (take a.n a.firsts.now))

loaded : (l : At-loop-g) (work : List ℕ)
    → work ≡ over (next_values l.loop-g.g (start l).args.records.now (take (start l).args.n (start l).args.firsts.now)) (replicate 128 0) → work ≡ row l
loaded l work e = let a = (start l).args in
    e ∙ over_zeros _ 128 (omega (arith, (start l).requires.le_p, next_long l.loop-g.g a.n a.records.now a.firsts.now (start l).requires.le_p.4))

row_below : (l : At-loop-g) → l.loop-g.g < 8 → Below (start l).args.p (row l)
row_below l h = let s = start l in let a = s.args in
    below_fill a.p 128 _ (omega (arith, s.requires.le_p)) (next_below l.loop-g.g a.n a.records.now a.firsts.now s.requires.le_p.4 a.p h s.requires.below.0 s.requires.below.1)

inside : (c : In-loop-g) → c.loop-g.g < (start (goal.at.In-loop-g c).At-loop-g).args.m
inside c = omega arith

pub loop-g-init : goal.loop-g-init
loop-g-init c = let s = c in
    let a = s.args in
    (omega arith, s.requires.genes_value ∙ solutions_none a.p a.n a.rows.now a.pivots.now a.records.now a.firsts.now)

pub put_next-requires : goal.put_next-requires
put_next-requires c = let s = c in record { g_bound = (omega (arith, s.requires.le_p), s.requires.le_p.4, omega (arith, s.requires.le_p)); by_index = s.requires.below.1 }

pub slice_bounds-solve-end : goal.slice_bounds-solve-end
slice_bounds-solve-end c = let l = c in sym (ap length (loaded (goal.at.slice_bounds-solve-end l).At-loop-g _ c.put_next.ensures) ∙ length_fill 128 _)

pub slice_bounds-solve-end-in-loop-g : goal.slice_bounds-solve-end-in-loop-g
slice_bounds-solve-end-in-loop-g c = omega (arith, long (goal.at.slice_bounds-solve-end-in-loop-g c).At-loop-g)

pub solve-requires : goal.solve-requires
solve-requires c = let l = c in
    let s = start (goal.at.solve-requires l).At-loop-g in
    let w = loaded (goal.at.solve-requires l).At-loop-g _ c.put_next.ensures in record { le_p = (s.requires.le_p.0, s.requires.le_p.1); n_bound = (s.requires.le_p.3, ap length w ∙ length_fill 128 _, omega (arith, part_long (64 * l.loop-g.g) (64 * l.loop-g.g + 64 - 64 * l.loop-g.g) 64 l.loop-g.genes (omega arith) (omega (arith, long (goal.at.solve-requires l).At-loop-g, s.requires.le_p)))); n_in_bounds = (omega (arith, s.requires.le_p, s.requires.rows_len), omega (arith, s.requires.le_p, s.requires.rows_len)); multiplied = (s.requires.multiplied.0, subst (Below s.args.p) (sym w) (row_below (goal.at.solve-requires l).At-loop-g (omega (arith, s.requires.le_p)))); by_index = s.requires.multiplied.1 }

pub loop-g-preserved : goal.loop-g-preserved
loop-g-preserved c = let l = c in
    let s = start (goal.at.loop-g-preserved l).At-loop-g in
    let a = s.args in
    let g : ℕ = l.loop-g.g in
    let i = inside (goal.at.loop-g-preserved c).In-loop-g in
    let w = loaded (goal.at.loop-g-preserved l).At-loop-g _ c.put_next.ensures in (
      omega (arith, i),
      solutions_more a.p a.n a.rows.now a.pivots.now a.records.now a.firsts.now g (64 * g + 64 - 64 * g) l.loop-g.genes _ (omega (arith, i, s.requires.le_p)) l.loop-g.invariant.1 (omega arith)
          (c.solve.ensures.out_after
          ∙ ap (λ (z : List ℕ). over (fill 64 (solution a.p a.n a.rows.now a.pivots.now z)) (take (64 * g + 64 - 64 * g) (drop (64 * g) l.loop-g.genes))) w),
    )

pub shape_of-genes : goal.shape_of-genes
shape_of-genes c = long (goal.at.shape_of-genes c).At-loop-g ∙ sym (zeros_long _ 512 (start (goal.at.shape_of-genes c).At-loop-g).requires.genes_value)

pub returns : goal.returns
returns c = let l = c in
    let a = (start (goal.at.returns l).At-loop-g).args in
    let e : l.loop-g.g ≡ a.m = omega arith in
    l.loop-g.invariant.1 ∙ ap (λ (k : ℕ). fill 512 (in_places 64 (solutions_of a.p a.n a.rows.now a.pivots.now a.records.now a.firsts.now k))) e
