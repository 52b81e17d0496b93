-- `pairs::put_rests` meets its contract: the keys of the points seen so far have been put.
use Rattle.std.proofs.Common.{◌≡◌, ℕ, length, refl, subst, ap, ◌∙◌, arith}
use Rattle.std.proofs.Math.ListN.{length-set}
use Rattle.std.proofs.lemmas.Iterator.Consumers.{YieldsList-turn, YieldsList-end}
use Rattle.std.proofs.lemmas.List.{length_push}
use Rattle.residue.proofs.Chunks.{numbered_given, numbered_turn, numbered_long, row_long}
use Rattle.interpolation.specs.Pairs.{rest_of, Rests}
use Rattle.interpolation.proofs.Chains.{weight, rests_more}
use Rattle.interpolation.proofs.pairs.put_rests.Goals as goal

pub loop-i-init : goal.loop-i-init
loop-i-init c = (refl, λ j h. absurd (omega arith))

pub rest-requires : goal.rest-requires
rest-requires c =
    let t = numbered_turn 8 c.args.n c.args.points.now _ _ _
    (YieldsList-turn (numbered_given 8 c.args.n c.args.points.now {s = c.into_iter-i-iterator.result} (omega arith) (omega arith) (cc) (cc) (cc)) c.loop-i.yielded c.loop-i.i-iterator c.loop-i.yielded_by c.next.result c.next.new.self (c.in-Some.i, c.in-Some.point) c.in-Some.is c.next.ensures.steps) in
    (omega arith, weight c.args.k (omega arith), ap length t.1.1 ∙ row_long 8 c.args.n c.args.points.now (length c.loop-i.yielded) t.0 (omega arith))

pub bounds-rests-i : goal.bounds-rests-i
bounds-rests-i c =
    let t = numbered_turn 8 c.args.n c.args.points.now _ _ _
    (YieldsList-turn (numbered_given 8 c.args.n c.args.points.now {s = c.into_iter-i-iterator.result} (omega arith) (omega arith) (cc) (cc) (cc)) c.loop-i.yielded c.loop-i.i-iterator c.loop-i.yielded_by c.next.result c.next.new.self (c.in-Some.i, c.in-Some.point) c.in-Some.is c.next.ensures.steps) in
    omega (arith, t.0, t.1.0, c.loop-i.invariant.0)

pub loop-i-preserved : goal.loop-i-preserved
loop-i-preserved c =
    let k = c.args.k in
    let i = length c.loop-i.yielded in
    let P = c.args.points.now in
    let t = numbered_turn 8 c.args.n c.args.points.now _ _ _
    (YieldsList-turn (numbered_given 8 c.args.n c.args.points.now {s = c.into_iter-i-iterator.result} (omega arith) (omega arith) (cc) (cc) (cc)) c.loop-i.yielded c.loop-i.i-iterator c.loop-i.yielded_by c.next.result c.next.new.self (c.in-Some.i, c.in-Some.point) c.in-Some.is c.next.ensures.steps) in
    let p = length_push c.loop-i.yielded (c.in-Some.i, c.in-Some.point) in
    let r = rests_more k i P c.loop-i.rests c.rest.result (omega (arith, t.0, c.loop-i.invariant.0)) (c.rest.ensures ∙ ap (rest_of k) t.1.1) c.loop-i.invariant.1 in
    (length-set c.loop-i.rests c.in-Some.i c.rest.result ∙ c.loop-i.invariant.0, rw (p, t.1.0) r)

pub returns : goal.returns
returns c =
    let t = YieldsList-end (numbered_given 8 c.args.n c.args.points.now {s = c.into_iter-i-iterator.result} (omega arith) (omega arith) (cc) (cc) (cc)) c.loop-i.yielded c.loop-i.i-iterator c.loop-i.yielded_by c.next.result c.next.new.self c.in-None.is c.next.ensures.steps in
    let e : length c.loop-i.yielded ≡ c.args.n = omega (arith, t.1, numbered_long 8 c.args.n c.args.points.now) in
    subst (λ (i : ℕ). Rests c.args.k i c.args.points.now c.loop-i.rests) e c.loop-i.invariant.1
