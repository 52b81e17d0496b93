-- `reducing::eliminate` meets its contract. The row so far is the one that met the first t pivot rows.
use mathlib.Core.Path.{◌≡◌, refl, sym, ap, ap₂, subst, ◌∙◌}
use mathlib.Core.List.{List}
use Prim.Native.Nat.{ℕ, ◌+◌, ◌*◌, ◌-◌, ◌<◌}
use native.Mathlib.Omega.{arith}
use lib.ListN.{length, get_or, take, drop, length-drop}
use lib.Seq.{take-take, get_or-take, get_or-drop, length-take-le}
use Rattle.residue.specs.Vector.{Below}
use Rattle.elimination.specs.Elimination.{cancelled, counted, cancellations, multiples_of, ZeroFrom, whole_width}
use Rattle.elimination.proofs.reducing.Eliminated.{whole_limits, eliminated_none, eliminated_more, eliminated_length, eliminated_below, cancellations_none, cancellations_more, cancellations_most}
use Rattle.elimination.proofs.reducing.eliminate.Goals as goal
use Rattle.elimination.proofs.reducing.eliminate.Goals.{At-loop-t, Start}

-- at the loop's head
module _ (l : At-loop-t) where
  abbrev start : Start
  start = (goal.at.At-loop-t l).Start

  abbrev block : List ℕ
  block = take 1152 (drop (1152 * l.loop-t.t) start.args.rows.now)

  abbrev row : List ℕ
  row = take 128 (drop (1152 * l.loop-t.t) start.args.rows.now)

  block_long : l.loop-t.t < start.args.found → length block ≡ 1152
  block_long h = length-take-le 1152 (drop (1152 * l.loop-t.t) start.args.rows.now) (omega (arith, length-drop (1152 * l.loop-t.t) start.args.rows.now))

  front : take 128 block ≡ row
  front = take-take 128 1152 (drop (1152 * l.loop-t.t) start.args.rows.now) (omega arith)

  long : length l.loop-t.work ≡ 128
  long = ap length l.loop-t.invariant.1.0 ∙ eliminated_length start.args.p start.args.rows.now start.args.pivots.now start.args.work.now start.requires.work_len l.loop-t.t (omega arith)

  below : Below start.args.p l.loop-t.work
  below = subst (Below start.args.p) (sym l.loop-t.invariant.1.0)
      (eliminated_below start.args.p start.args.rows.now start.args.pivots.now start.args.work.now start.requires.work_len (omega arith) start.requires.multiplied.1 l.loop-t.t (omega arith))

  -- behind its own coefficient the pivot row is 0
  abbrev end : ℕ
  end = start.args.n + l.loop-t.t + 1

  zero : l.loop-t.t < start.args.found → ZeroFrom (whole_width end) row
  zero h i w k =
      let b = (whole_limits end).1 i w k in
      let e : start.args.n + (i - start.args.n) ≡ i = omega arith in
      get_or-take 128 (drop (1152 * l.loop-t.t) start.args.rows.now) i 0 k ∙ get_or-drop (1152 * l.loop-t.t) start.args.rows.now i 0
      ∙ ap (λ (j : ℕ). get_or start.args.rows.now (1152 * l.loop-t.t + j) 0) (sym e)
      ∙ start.requires.zero_behind l.loop-t.t (i - start.args.n) h (omega arith) (omega arith)

  -- one more row met
  count : {k : ℕ} → k ≡ counted (get_or l.loop-t.work (get_or start.args.pivots.now l.loop-t.t 0) 0)
      → l.loop-t.made + k ≡ cancellations start.args.p start.args.rows.now start.args.pivots.now (l.loop-t.t + 1) start.args.work.now
  count e =
      ap₂ (λ (a b : ℕ). a + b) l.loop-t.invariant.1.1 (e ∙ ap (λ (w : List ℕ). counted (get_or w (get_or start.args.pivots.now l.loop-t.t 0) 0)) l.loop-t.invariant.1.0)
      ∙ sym (cancellations_more start.args.p start.args.rows.now start.args.pivots.now start.args.work.now l.loop-t.t)

pub loop-t-init : goal.loop-t-init
loop-t-init c = (omega arith, (sym (eliminated_none _ _ _ _), sym (cancellations_none _ _ _ _)))

pub cancel-made-requires : goal.cancel-made-requires
cancel-made-requires c = let l = c in
    let s = start (goal.at.cancel-made-requires l).At-loop-t in
    let w = c.whole.ensures in
    let n : 1152 * l.loop-t.t + 1152 - 1152 * l.loop-t.t ≡ 1152 = omega arith in
    let is = ap (λ (k : ℕ). take k (drop (1152 * l.loop-t.t) s.args.rows.now)) n in record {
      le_p = (s.requires.le_p.0, s.requires.le_p.1, omega (arith, w, (whole_limits (end (goal.at.cancel-made-requires l).At-loop-t)).0), s.requires.by_index l.loop-t.t (omega arith));
      block_len = (ap length is ∙ block_long (goal.at.cancel-made-requires l).At-loop-t (omega arith), long (goal.at.cancel-made-requires l).At-loop-t, below (goal.at.cancel-made-requires l).At-loop-t);
      zeros_value = (
        refl,
        is ∙ s.requires.multiplied.0 l.loop-t.t (omega arith) ∙ sym (ap (multiples_of s.args.p) (ap (take 128) is ∙ front (goal.at.cancel-made-requires l).At-loop-t)),
        subst (λ (k : ℕ). ZeroFrom k (take 128 (take (1152 * l.loop-t.t + 1152 - 1152 * l.loop-t.t) (drop (1152 * l.loop-t.t) s.args.rows.now)))) (sym w)
            (subst (ZeroFrom (whole_width (end (goal.at.cancel-made-requires l).At-loop-t))) (sym (ap (take 128) is ∙ front (goal.at.cancel-made-requires l).At-loop-t)) (zero (goal.at.cancel-made-requires l).At-loop-t (omega arith))),
      );
    }

pub overflow_add-made : goal.overflow_add-made
overflow_add-made c = let l = c in
    let s = start (goal.at.overflow_add-made l).At-loop-t in
    omega (
      arith,
      count (goal.at.overflow_add-made l).At-loop-t c.cancel-made.ensures.value,
      cancellations_most s.args.p s.args.rows.now s.args.pivots.now s.args.work.now (l.loop-t.t + 1),
    )

pub loop-t-preserved : goal.loop-t-preserved
loop-t-preserved c = let l = c in
    let s = start (goal.at.loop-t-preserved l).At-loop-t in
    let n : 1152 * l.loop-t.t + 1152 - 1152 * l.loop-t.t ≡ 1152 = omega arith in
    let is = ap (λ (k : ℕ). take 128 (take k (drop (1152 * l.loop-t.t) s.args.rows.now))) n ∙ front (goal.at.loop-t-preserved l).At-loop-t in (
      omega arith,
      (
        c.cancel-made.ensures.work_after
            ∙ ap₂ (λ (r w : List ℕ). cancelled s.args.p r (get_or s.args.pivots.now l.loop-t.t 0) w) is l.loop-t.invariant.1.0
            ∙ sym (eliminated_more s.args.p s.args.rows.now s.args.pivots.now s.args.work.now l.loop-t.t),
        count (goal.at.loop-t-preserved l).At-loop-t c.cancel-made.ensures.value,
      ),
    )
