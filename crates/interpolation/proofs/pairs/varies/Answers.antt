-- `pairs::varies` meets its contract: the points seen so far have the same coordinate.
use Rattle.std.proofs.Common.{◌≡◌, ℕ, ◌+◌, ◌*◌, ◌<◌, List, length, get_or, drop, subst, ap, sym, ◌∙◌, arith}
use Rattle.std.proofs.lemmas.Bool.{true≢false}
use Rattle.std.proofs.lemmas.Iterator.Consumers.{YieldsList-turn, YieldsList-end}
use Rattle.std.proofs.lemmas.List.{length_push, get_or-take, get_or-drop}
use Rattle.residue.proofs.Chunks.{rows_given, row_turn}
use Rattle.residue.proofs.Places.{length_groups}
use Rattle.interpolation.specs.Pairs.{Constant}
use Rattle.interpolation.proofs.PairSearch.{constant_more}
use Rattle.interpolation.proofs.pairs.varies.Goals as goal

pub loop-point-init : goal.loop-point-init
loop-point-init c = λ j h. absurd (omega arith)

pub returns-then-point-k : goal.returns-then-point-k
returns-then-point-k c e = absurd (true≢false e)

pub loop-point-preserved : goal.loop-point-preserved
loop-point-preserved c =
    let t = row_turn 8 c.args.n c.args.points.now _ _ (YieldsList-turn (rows_given 8 c.args.n c.args.points.now (omega arith) c.requires.1 (cc) (cc)) c.loop-point.yielded c.loop-point.point-iterator c.loop-point.yielded_by c.next.result c.next.new.self c.in-Some.point c.in-Some.is c.next.ensures.steps) in
    let k = c.args.k in
    let low : k < 8 = omega arith in
    let i = length c.loop-point.yielded in
    let P = c.args.points.now in
    let e : get_or P (8 * i + k) 0 ≡ get_or P k 0 =
    sym (get_or-take 8 (drop (8 * i) P) k 0 low ∙ get_or-drop (8 * i) P k 0) ∙ ap (λ (x : List ℕ). get_or x k 0) (sym t.1) ∙ c.if-point-k.false in
    rw (length_push c.loop-point.yielded c.in-Some.point) (constant_more k i P low e c.loop-point.invariant)

pub returns : goal.returns
returns c e =
    let t = YieldsList-end (rows_given 8 c.args.n c.args.points.now (omega arith) c.requires.1 (cc) (cc)) c.loop-point.yielded c.loop-point.point-iterator c.loop-point.yielded_by c.next.result c.next.new.self c.in-None.is c.next.ensures.steps in
    let u : length c.loop-point.yielded ≡ c.args.n = omega (arith, t.1, length_groups 8 c.args.n c.args.points.now) in
    subst (λ (i : ℕ). Constant c.args.k i c.args.points.now) u c.loop-point.invariant
