-- `stepping::put_sums` meets its contract. The loop has written the values of the first g interpolants.
use mathlib.Core.List.{map, List, []}
use mathlib.Core.Path.{◌≡◌, sym, ap, ◌∙◌}
use Prim.Native.Nat.{ℕ, ◌+◌, ◌*◌, ◌-◌, ◌%◌, ◌<◌}
use native.Mathlib.Omega.{arith}
use lib.Seq.{take-take}
use lib.ListN.{length, get_or, take, drop, length-map}
use Rattle.residue.specs.Layout.{over, groups}
use Rattle.residue.specs.Vector.{dot_of}
use Rattle.residue.proofs.vector.Vectors.{below_take, below_drop}
use Rattle.residue.proofs.vector.Filled.{filled_none, kept_length, filled_more}
use Rattle.residue.proofs.bytes.Copies.{mapped}
use Rattle.residue.proofs.Places.{length_groups, groups_at, over_zeros}
use Rattle.residue.proofs.Replaced.{zeros_long, part_long}
use Rattle.steps.proofs.stepping.put_sums.Goals as goal
use Rattle.steps.proofs.stepping.put_sums.Goals.{At-loop-g, Start}

abbrev start : At-loop-g → Start
start l = (goal.at.At-loop-g l).Start

abbrev count : At-loop-g → ℕ
count l = length (start l).args.values.now

abbrev sum_of : At-loop-g → List ℕ → ℕ
sum_of l cs = dot_of (take (count l) cs) (start l).args.values.now % (start l).args.p

long : (l : At-loop-g) → length l.loop-g.next ≡ 8
long l = let a = (start l).args in
    kept_length (λ i. sum_of l (get_or (groups 64 a.m a.genes.now) i [])) l.loop-g.g a.next.now l.loop-g.next l.loop-g.invariant.1 ∙ zeros_long _ 8 (start l).requires.next_value

abbrev lent : At-loop-g → List ℕ
lent l = take (64 * l.loop-g.g + count l - 64 * l.loop-g.g) (drop (64 * l.loop-g.g) (start l).args.genes.now)

lent_long : (l : At-loop-g) → l.loop-g.g < (start l).args.m → length (lent l) ≡ count l
lent_long l h = let s = start l in part_long (64 * l.loop-g.g) (64 * l.loop-g.g + count l - 64 * l.loop-g.g) (count l) s.args.genes.now (omega arith) (omega (arith, h, s.requires.le_p, s.requires.values_len_bound, s.requires.in_bounds, s.requires.next_value))

row : (l : At-loop-g) → l.loop-g.g < (start l).args.m → lent l ≡ take (count l) (get_or (groups 64 (start l).args.m (start l).args.genes.now) l.loop-g.g [])
row l h = let a = (start l).args in let g : ℕ = l.loop-g.g in
    let n : 64 * g + count l - 64 * g ≡ count l = omega arith in
    ap (λ (k : ℕ). take k (drop (64 * g) a.genes.now)) n
    ∙ sym (ap (take (count l)) (groups_at 64 a.m g a.genes.now [] h) ∙ take-take (count l) 64 (drop (64 * g) a.genes.now) (start l).requires.values_len_bound.0)

pub loop-g-init : goal.loop-g-init
loop-g-init c = (omega arith, filled_none _ _)

pub slice_bounds-dot-end : goal.slice_bounds-dot-end
slice_bounds-dot-end c = let s = c in omega (arith, s.requires.le_p, s.requires.values_len_bound, s.requires.in_bounds, s.requires.next_value)

pub dot-requires : goal.dot-requires
dot-requires c = let l = c in
    let s = start (goal.at.dot-requires l).At-loop-g in
    let e = lent_long (goal.at.dot-requires l).At-loop-g (omega arith) in record { le_p = (s.requires.le_p.0, s.requires.le_p.1); a_len = e; a_len_bound = omega (arith, e, s.requires.values_len_bound); below = below_take s.args.p (64 * l.loop-g.g + count (goal.at.dot-requires l).At-loop-g - 64 * l.loop-g.g) (drop (64 * l.loop-g.g) s.args.genes.now) (below_drop s.args.p (64 * l.loop-g.g) s.args.genes.now s.requires.in_bounds.1); below_2 = s.requires.values_len_bound.1 }

pub bounds-next-g : goal.bounds-next-g
bounds-next-g c = let l = c in omega (arith, long (goal.at.bounds-next-g l).At-loop-g, (start (goal.at.bounds-next-g l).At-loop-g).requires.le_p)

pub loop-g-preserved : goal.loop-g-preserved
loop-g-preserved c = let l = c in
    let a = (start (goal.at.loop-g-preserved l).At-loop-g).args in
    let h : l.loop-g.g < a.m = omega arith in (
      omega arith,
      filled_more (λ i. sum_of (goal.at.loop-g-preserved l).At-loop-g (get_or (groups 64 a.m a.genes.now) i [])) l.loop-g.g a.next.now l.loop-g.next l.loop-g.invariant.1 _
          (omega (arith, zeros_long _ 8 (start (goal.at.loop-g-preserved l).At-loop-g).requires.next_value, (start (goal.at.loop-g-preserved l).At-loop-g).requires.le_p)) (c.dot.ensures ∙ ap (λ (t : List ℕ). dot_of t a.values.now % a.p) (row (goal.at.loop-g-preserved l).At-loop-g h)),
    )

pub shape_of-next : goal.shape_of-next
shape_of-next c = long (goal.at.shape_of-next c).At-loop-g ∙ sym (zeros_long _ 8 (start (goal.at.shape_of-next c).At-loop-g).requires.next_value)

pub returns : goal.returns
returns c = let l = c in
    let s = start (goal.at.returns l).At-loop-g in
    let a = s.args in
    let G = groups 64 a.m a.genes.now in
    let n = length_groups 64 a.m a.genes.now in
    let z = zeros_long _ 8 s.requires.next_value in
    l.loop-g.invariant.1 ∙ mapped (sum_of (goal.at.returns l).At-loop-g) [] G a.next.now l.loop-g.g (omega arith) (omega (arith, n, z, s.requires.le_p))
    ∙ ap (over (map (sum_of (goal.at.returns l).At-loop-g) G)) s.requires.next_value ∙ over_zeros (map (sum_of (goal.at.returns l).At-loop-g) G) 8 (omega (arith, n, length-map G (sum_of (goal.at.returns l).At-loop-g), s.requires.le_p))
