-- `pairs::only_difference` meets its contract: of the places seen so far the only one that differs is kept.
use Rattle.std.proofs.Common.{length, sym, ◌∙◌, arith}
use Rattle.std.proofs.lemmas.Iterator.Consumers.{YieldsList-turn, YieldsList-end}
use Rattle.std.proofs.lemmas.List.{length_push}
use Rattle.interpolation.proofs.Turns.{pairs_long, pairs_given, pair_turn}
use Rattle.interpolation.proofs.Differences.{only_same, only_first, two_differ, only_told}
use Rattle.interpolation.proofs.pairs.only_difference.Goals as goal

pub loop-i-init : goal.loop-i-init
loop-i-init c = λ j h. absurd (omega arith)

pub returns-then-is_some : goal.returns-then-is_some
returns-then-is_some c =
    let a = c.args.a.now in
    let b = c.args.b.now in
    let turn = pair_turn a b (omega arith) _ _ _ _
    (YieldsList-turn (pairs_given a b (omega arith) c.into_iter-i-iterator.result (cc) (cc) (cc)) c.loop-i.yielded c.loop-i.i-iterator c.loop-i.yielded_by c.next.result c.next.new.self (c.in-Some.i, (c.in-Some.x, c.in-Some.y)) c.in-Some.is c.next.ensures.steps) in
    λ k h. two_differ a b c.requires.0 c.requires.1 k (length c.loop-i.yielded) c.loop-i.only (sym c.is_some.ensures ∙ c.if-is_some.true)
    (λ e. c.if-x-y.true (turn.1.1.0 ∙ e ∙ sym turn.1.1.1)) c.loop-i.invariant

pub loop-i-preserved-then-x-y : goal.loop-i-preserved-then-x-y
loop-i-preserved-then-x-y c =
    let a = c.args.a.now in
    let b = c.args.b.now in
    let turn = pair_turn a b (omega arith) _ _ _ _
    (YieldsList-turn (pairs_given a b (omega arith) c.into_iter-i-iterator.result (cc) (cc) (cc)) c.loop-i.yielded c.loop-i.i-iterator c.loop-i.yielded_by c.next.result c.next.new.self (c.in-Some.i, (c.in-Some.x, c.in-Some.y)) c.in-Some.is c.next.ensures.steps) in
    let p = length_push c.loop-i.yielded (c.in-Some.i, (c.in-Some.x, c.in-Some.y)) in
    let d = only_first a b (length c.loop-i.yielded) c.loop-i.only (sym c.is_some.ensures ∙ c.if-is_some.false) (λ e. c.if-x-y.true (turn.1.1.0 ∙ e ∙ sym turn.1.1.1)) c.loop-i.invariant in
    rw (p, turn.1.0) d

pub loop-i-preserved : goal.loop-i-preserved
loop-i-preserved c =
    let a = c.args.a.now in
    let b = c.args.b.now in
    let turn = pair_turn a b (omega arith) _ _ _ _
    (YieldsList-turn (pairs_given a b (omega arith) c.into_iter-i-iterator.result (cc) (cc) (cc)) c.loop-i.yielded c.loop-i.i-iterator c.loop-i.yielded_by c.next.result c.next.new.self (c.in-Some.i, (c.in-Some.x, c.in-Some.y)) c.in-Some.is c.next.ensures.steps) in
    let p = length_push c.loop-i.yielded (c.in-Some.i, (c.in-Some.x, c.in-Some.y)) in
    rw p (only_same a b (length c.loop-i.yielded) c.loop-i.only (sym turn.1.1.0 ∙ c.if-x-y.false ∙ turn.1.1.1) c.loop-i.invariant)

pub returns : goal.returns
returns c =
    let a = c.args.a.now in
    let b = c.args.b.now in
    let end = YieldsList-end (pairs_given a b (omega arith) c.into_iter-i-iterator.result (cc) (cc) (cc)) c.loop-i.yielded c.loop-i.i-iterator c.loop-i.yielded_by c.next.result c.next.new.self c.in-None.is c.next.ensures.steps in
    λ k h. only_told a b c.requires.0 c.requires.1 k (length c.loop-i.yielded) c.loop-i.only (omega (arith, end.1, pairs_long a b (omega arith))) h c.loop-i.invariant
