-- `candidate::least` meets its contract. The best rank so far is the least of the next products of the variables looked at.
use mathlib.Core.Path.{refl, ap₂, ◌∙◌}
use Prim.Native.Nat.{ℕ, ◌+◌, ◌<◌}
use borrow.Author.Rules.{rules}
use native.Mathlib.Omega.{arith}
use lib.ListN.{length, get_or, take, length-take}
use lib.Seq.{get_or-take}
use Rattle.std.proofs.lemmas.List.{length_push}
use Rattle.std.proofs.lemmas.Slice.Zip.{zip_turn}
use Rattle.monomial.specs.Candidate.{lesser, least_of}
use Rattle.monomial.proofs.candidate.Turns.{least_shut, least_open, lesser_is, ord_min_is}
use Rattle.monomial.proofs.candidate.least.Goals as goal

pub loop-passed-init : goal.loop-passed-init
unfolding least_of
loop-passed-init c = refl

pub loop-passed-preserved-then-t-found : goal.loop-passed-preserved-then-t-found
loop-passed-preserved-then-t-found c =
    let s = c.args in
    let l = c.loop-passed in
    let n : ℕ = length l.yielded in
    let t = zip_turn (take s.m s.at.now) s.steps.now l.yielded _ _ c.next.new.self _ (cc) (cc) l.yielded_by _ c.in-Some.is c.next.ensures.steps in
    let k : n < s.m = omega (arith, t.0, length-take s.m s.at.now) in
    let e = t.2 0 ∙ get_or-take s.m s.at.now n 0 k in
    rw (length_push l.yielded (c.in-Some.passed, c.in-Some.step))
    (least_open s.found s.ranks.now s.steps.now s.at.now n l.invariant (omega (arith, e))
    (lesser_is l.best _ c.map_or.result c.map_or.ensures (λ b h. search rules ∙ ord_min_is b _)
    ∙ ap₂ (λ (i x : ℕ). lesser l.best (get_or s.ranks.now i 0 + x)) e (t.3 0)))

pub loop-passed-preserved : goal.loop-passed-preserved
loop-passed-preserved c =
    let s = c.args in
    let l = c.loop-passed in
    let n : ℕ = length l.yielded in
    let t = zip_turn (take s.m s.at.now) s.steps.now l.yielded _ _ c.next.new.self _ (cc) (cc) l.yielded_by _ c.in-Some.is c.next.ensures.steps in
    let k : n < s.m = omega (arith, t.0, length-take s.m s.at.now) in
    let e = t.2 0 ∙ get_or-take s.m s.at.now n 0 k in
    rw (length_push l.yielded (c.in-Some.passed, c.in-Some.step)) (least_shut s.found s.ranks.now s.steps.now s.at.now n l.invariant (omega (arith, e)))
