-- `parity::put_parities` meets its contract: the values at the points seen so far are written.
use Rattle.std.proofs.Common.{◌≡◌, ℕ, ◌*◌, ◌%◌, List, length, drop, replicate, refl, sym, ap, ◌∙◌, arith}
use Rattle.std.proofs.Math.ListN.{length-replicate}
use Rattle.std.proofs.lemmas.Iterator.Consumers.{YieldsList-turn, YieldsList-end}
use Rattle.std.proofs.lemmas.List.{length_push}
use Rattle.residue.proofs.Chunks.{numbered_given, numbered_turn, numbered_long, row_long}
use Rattle.residue.proofs.vector.Vectors.{below_take, below_drop}
use Rattle.residue.proofs.vector.Filled.{filled_none, kept_length, filled_more}
use Rattle.interpolation.specs.Parity.{ones_left, mask_of}
use Rattle.interpolation.proofs.PointValues.{parity_at, parities_all}
use Rattle.interpolation.proofs.parity.put_parities.Goals as goal

-- the width of the working row
wide : (work : List ℕ) → work ≡ replicate 128 0 → length work ≡ 128
wide work e = ap length e ∙ length-replicate {A = ℕ} 128 0

pub put_terms-requires : goal.put_terms-requires
put_terms-requires c = record { below = c.requires.below; exponents_len = c.requires.exponents_len; polynomial_value = refl }

pub loop-i-init : goal.loop-i-init
loop-i-init c = filled_none _ _

pub slice_bounds-value_at-end : goal.slice_bounds-value_at-end
slice_bounds-value_at-end c = sym c.put_terms.ensures.long

pub value_at-requires : goal.value_at-requires
value_at-requires c =
    let t = numbered_turn 8 c.args.n c.args.points.now _ _ _
    (YieldsList-turn (numbered_given 8 c.args.n c.args.points.now {s = c.into_iter-i-iterator.result} (omega arith) (omega arith) (cc) (cc) (cc)) c.loop-i.yielded c.loop-i.i-iterator c.loop-i.yielded_by c.next.result c.next.new.self (c.in-Some.i, c.in-Some.point) c.in-Some.is c.next.ensures.steps) in
    let i = length c.loop-i.yielded in
    let long = ap length t.1.1 ∙ row_long 8 c.args.n c.args.points.now i t.0 (omega arith) in
    (c.put_terms.ensures.long, long, rw t.1.1 (below_take 2 8 (drop (8 * i) c.args.points.now) (below_drop 2 (8 * i) c.args.points.now c.requires.n_bound.1.1)))

pub bounds-work-i : goal.bounds-work-i
bounds-work-i c =
    let t = numbered_turn 8 c.args.n c.args.points.now _ _ _
    (YieldsList-turn (numbered_given 8 c.args.n c.args.points.now {s = c.into_iter-i-iterator.result} (omega arith) (omega arith) (cc) (cc) (cc)) c.loop-i.yielded c.loop-i.i-iterator c.loop-i.yielded_by c.next.result c.next.new.self (c.in-Some.i, c.in-Some.point) c.in-Some.is c.next.ensures.steps) in
    let k = kept_length (parity_at c.put_terms.new.polynomial c.args.points.now) (length c.loop-i.yielded) c.args.work.now c.loop-i.work c.loop-i.invariant in
    omega (arith, t.0, t.1.0, wide c.args.work.now c.requires.work_value)

pub loop-i-preserved : goal.loop-i-preserved
loop-i-preserved c =
    let t = numbered_turn 8 c.args.n c.args.points.now _ _ _
    (YieldsList-turn (numbered_given 8 c.args.n c.args.points.now {s = c.into_iter-i-iterator.result} (omega arith) (omega arith) (cc) (cc) (cc)) c.loop-i.yielded c.loop-i.i-iterator c.loop-i.yielded_by c.next.result c.next.new.self (c.in-Some.i, c.in-Some.point) c.in-Some.is c.next.ensures.steps) in
    let p = length_push c.loop-i.yielded (c.in-Some.i, c.in-Some.point) in
    let set = c.put_terms.new.polynomial in
    rw (p, t.1.0) (filled_more (parity_at set c.args.points.now) (length c.loop-i.yielded) c.args.work.now c.loop-i.work c.loop-i.invariant c.value_at.result (omega (arith, t.0, wide c.args.work.now c.requires.work_value))
    (c.value_at.ensures ∙ ap (λ (x : List ℕ). ones_left set (mask_of x) % 2) t.1.1))

pub shape_of-work : goal.shape_of-work
shape_of-work c = kept_length (parity_at c.put_terms.new.polynomial c.args.points.now) (length c.loop-i.yielded) c.args.work.now c.loop-i.work c.loop-i.invariant

pub returns : goal.returns
returns c =
    let t = YieldsList-end (numbered_given 8 c.args.n c.args.points.now {s = c.into_iter-i-iterator.result} (omega arith) (omega arith) (cc) (cc) (cc)) c.loop-i.yielded c.loop-i.i-iterator c.loop-i.yielded_by c.next.result c.next.new.self c.in-None.is c.next.ensures.steps in
    c.loop-i.invariant
    ∙ parities_all c.args.coefficients.now c.args.exponents.now c.put_terms.new.polynomial c.args.n c.args.points.now c.args.work.now (length c.loop-i.yielded) (omega (arith, t.1, numbered_long 8 c.args.n c.args.points.now)) c.put_terms.ensures (omega arith) (omega arith) c.requires.n_bound.1.1 (omega (arith, wide c.args.work.now c.requires.work_value))
