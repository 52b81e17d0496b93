-- `parity::put_terms` meets its contract: the set of the terms seen so far.
use Rattle.std.proofs.Common.{ℕ, ◌<◌, length, refl, ap, ◌∙◌, arith}
use Rattle.std.proofs.lemmas.Iterator.Consumers.{YieldsList-turn, YieldsList-end}
use Rattle.std.proofs.lemmas.List.{length_push}
use Rattle.residue.proofs.Chunks.{row_long}
use Rattle.interpolation.specs.Parity.{byte_of, toggled}
use Rattle.interpolation.proofs.Turns.{terms_given, term_turn, terms_long}
use Rattle.interpolation.proofs.ParityLaws.{byte_lt, terms_none, terms_more, terms_all}
use Rattle.interpolation.proofs.parity.put_terms.Goals as goal

pub loop-c-init : goal.loop-c-init
loop-c-init c = terms_none c.args.coefficients.now c.args.exponents.now c.args.polynomial.now c.requires.polynomial_value

pub byte_of-requires : goal.byte_of-requires
byte_of-requires c =
    let t = term_turn c.args.coefficients.now c.args.exponents.now c.requires.exponents_len _ _ _
    (YieldsList-turn (terms_given c.args.coefficients.now c.args.exponents.now c.requires.exponents_len c.into_iter-c-iterator.result (cc) (cc) (cc)) c.loop-c.yielded c.loop-c.c-iterator c.loop-c.yielded_by c.next.result c.next.new.self (c.in-Some.c, c.in-Some.monomial) c.in-Some.is c.next.ensures.steps) in
    ap length t.1.1 ∙ row_long 8 (length c.args.coefficients.now) c.args.exponents.now (length c.loop-c.yielded) t.0 (omega arith)

pub toggle-requires : goal.toggle-requires
toggle-requires c =
    let t = term_turn c.args.coefficients.now c.args.exponents.now c.requires.exponents_len _ _ _
    (YieldsList-turn (terms_given c.args.coefficients.now c.args.exponents.now c.requires.exponents_len c.into_iter-c-iterator.result (cc) (cc) (cc)) c.loop-c.yielded c.loop-c.c-iterator c.loop-c.yielded_by c.next.result c.next.new.self (c.in-Some.c, c.in-Some.monomial) c.in-Some.is c.next.ensures.steps) in
    let long = ap length t.1.1 ∙ row_long 8 (length c.args.coefficients.now) c.args.exponents.now (length c.loop-c.yielded) t.0 (omega arith) in
    (rw t.1.0 (c.requires.below (length c.loop-c.yielded) t.0), rw c.byte_of.ensures (byte_lt c.in-Some.monomial.now (omega arith)), c.loop-c.invariant.0)

pub loop-c-preserved : goal.loop-c-preserved
loop-c-preserved c =
    let cs = c.args.coefficients.now in
    let i = length c.loop-c.yielded in
    let t = term_turn c.args.coefficients.now c.args.exponents.now c.requires.exponents_len _ _ _
    (YieldsList-turn (terms_given c.args.coefficients.now c.args.exponents.now c.requires.exponents_len c.into_iter-c-iterator.result (cc) (cc) (cc)) c.loop-c.yielded c.loop-c.c-iterator c.loop-c.yielded_by c.next.result c.next.new.self (c.in-Some.c, c.in-Some.monomial) c.in-Some.is c.next.ensures.steps) in
    let long = ap length t.1.1 ∙ row_long 8 (length cs) c.args.exponents.now i t.0 (omega arith) in
    let b : c.byte_of.result < 256 = rw c.byte_of.ensures (byte_lt c.in-Some.monomial.now (omega arith)) in
    rw (length_push c.loop-c.yielded (c.in-Some.c, c.in-Some.monomial))
    (terms_more cs c.args.exponents.now i 8 c.byte_of.result c.loop-c.polynomial _ t.0 (c.requires.below i t.0) refl (omega arith) (c.byte_of.ensures ∙ ap byte_of t.1.1) b
    (c.toggle.ensures ∙ ap (λ (x : ℕ). toggled x c.byte_of.result c.loop-c.polynomial) t.1.0) c.loop-c.invariant)

pub returns : goal.returns
returns c =
    let t = YieldsList-end (terms_given c.args.coefficients.now c.args.exponents.now c.requires.exponents_len c.into_iter-c-iterator.result (cc) (cc) (cc)) c.loop-c.yielded c.loop-c.c-iterator c.loop-c.yielded_by c.next.result c.next.new.self c.in-None.is c.next.ensures.steps in
    terms_all c.args.coefficients.now c.args.exponents.now (length c.loop-c.yielded) c.loop-c.polynomial
    (omega (arith, t.1, terms_long c.args.coefficients.now c.args.exponents.now c.requires.exponents_len)) c.loop-c.invariant
