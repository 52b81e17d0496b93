-- `levels::read_points` meets its contract. The loop has written the first i points into the table.
use mathlib.Core.Path.{◌≡◌, sym, ap, ◌∙◌}
use mathlib.Core.List.{List, [], ◌∷◌, ◌++◌, map}
use Prim.Native.Nat.{ℕ, ◌+◌, ◌*◌, ◌-◌, ◌%◌, ◌<◌, ◌≤◌}
use native.Mathlib.Omega.{arith}
use lib.ListN.{length, take, drop, length-drop, length-take, length-map}
use Rattle.residue.specs.Layout.{fill, in_places, over, groups, length_fill}
use Rattle.residue.proofs.Places.{place_more, part_fits, no_places}
use Rattle.points.proofs.levels.PointTables.{points_as, length_points, points_more, point_read, points_in_lem}
use Rattle.points.proofs.levels.read_points.Invariants.{table}
use Rattle.points.proofs.levels.read_points.Goals as goal
use Rattle.points.proofs.levels.read_points.Goals.{At-loop-i}

-- one point more
turn : (p m i : ℕ) (states points new : List ℕ) → 1 ≤ p → m ≤ 8 → i < 64 → 512 ≤ length states → points ≡ table p m states i
    → new ≡ over (map (λ x. x % p) (take (8 * i + m - 8 * i) (drop (8 * i) states))) (take (8 * i + 8 - 8 * i) (drop (8 * i) points))
    → take (8 * i) points ++ (new ++ drop (8 * i + 8 - 8 * i) (drop (8 * i) points)) ≡ table p m states (i + 1)
turn p m i states points new one few h long e put =
    let row : List ℕ = map (λ x. x % p) (take (8 * i + m - 8 * i) (drop (8 * i) states)) in
    let room : 8 ≤ length (drop (8 * i) states) = simp length-drop (omega arith) in
    let short : length row ≤ 8 = simp (length-map, length-take) (omega arith) in
    let at : 8 * i ≡ 8 * length (points_as p m i states) = ap (λ (k : ℕ). 8 * k) (sym (length_points p m i states)) in
    place_more 8 512 (points_as p m i states) row points new (8 * i) (8 * i + 8 - 8 * i) e at (omega arith) (omega arith) short put
    ∙ ap (λ (S : List (List ℕ)). fill 512 (in_places 8 S))
    (ap (λ (r : List ℕ). points_as p m i states ++ (r ∷ [])) (point_read p m states i (8 * i + m - 8 * i) one few (omega arith) room) ∙ sym (points_more p m i states))

long : (l : At-loop-i) → length l.loop-i.points ≡ 512
long l = ap length l.loop-i.invariant.1 ∙ length_fill 512 _

pub loop-i-init : goal.loop-i-init
unfolding groups
loop-i-init c = (omega arith, c.requires.points_value ∙ no_places 8 512)

pub slice_bounds-put_reduced-end-in-loop-i : goal.slice_bounds-put_reduced-end-in-loop-i
slice_bounds-put_reduced-end-in-loop-i c = omega (arith, long (goal.at.slice_bounds-put_reduced-end-in-loop-i c).At-loop-i)

pub put_reduced-requires : goal.put_reduced-requires
put_reduced-requires c = let l = c in
    let s = l in record { le_p = omega arith; from_in_bounds = part_fits s.args.settings.variables (8 * l.loop-i.i) l.loop-i.i s.args.states.now l.loop-i.points s.requires.le_modulus.2 (omega arith) (long (goal.at.put_reduced-requires l).At-loop-i) }

pub loop-i-preserved : goal.loop-i-preserved
loop-i-preserved c = let l = c in
    let s = l in
    let a = s.args in (
      omega arith,
      turn a.settings.modulus a.settings.variables l.loop-i.i a.states.now l.loop-i.points _ (omega arith) s.requires.le_modulus.2 (omega arith) s.requires.n_bound.1 l.loop-i.invariant.1
          c.put_reduced.ensures,
    )

pub shape_of-points : goal.shape_of-points
shape_of-points c = long (goal.at.shape_of-points c).At-loop-i ∙ sym (ap length c.requires.points_value)

pub returns : goal.returns
returns c = let l = c in
    let s = l in
    let e : l.loop-i.i ≡ s.args.n = omega arith in
    l.loop-i.invariant.1 ∙ ap (table s.args.settings.modulus s.args.settings.variables s.args.states.now) e
    ∙ ap (λ (S : List (List ℕ)). fill 512 (in_places 8 S)) (points_in_lem s.args.settings s.args.n s.args.states.now)
