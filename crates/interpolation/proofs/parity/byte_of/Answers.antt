-- `parity::byte_of` meets its contract: the byte of the last variables, as many as have been seen.
use Rattle.std.proofs.Common.{◌≡◌, ℕ, ◌+◌, ◌*◌, ◌-◌, ◌<◌, length, get_or, drop, sym, ap, ap₂, ◌∙◌, arith}
use Rattle.std.proofs.lemmas.List.{length_push, length-reverse, get_or-reverse, get_or_default}
use Rattle.std.proofs.lemmas.Iterator.Adapters.{YieldsList-from_rev_slice}
use Rattle.std.proofs.lemmas.Iterator.Consumers.{YieldsList-turn, YieldsList-end}
use Rattle.interpolation.specs.Parity.{occurring, byte_of}
use Rattle.interpolation.proofs.ParityLaws.{occurring_le, byte_none, byte_bound, byte_more, byte_all}
use Rattle.interpolation.proofs.parity.byte_of.Goals as goal

pub loop-e-init : goal.loop-e-init
loop-e-init c = (omega arith, byte_none c.args.a.now c.requires)

pub overflow_mul-byte : goal.overflow_mul-byte
overflow_mul-byte c =
    record { fits = omega (arith, byte_bound c.args.a.now c.requires (length c.loop-e.yielded) c.loop-e.byte c.loop-e.invariant.1) }

pub overflow_add-byte : goal.overflow_add-byte
overflow_add-byte c = record {
  fits = omega (arith, byte_bound c.args.a.now c.requires (length c.loop-e.yielded) c.loop-e.byte c.loop-e.invariant.1, c.occurs.ensures, occurring_le c.in-Some.e.now);
}

pub loop-e-preserved : goal.loop-e-preserved
loop-e-preserved c =
    let a = c.args.a.now in
    let k = length c.loop-e.yielded in
    let turn = YieldsList-turn (YieldsList-from_rev_slice a cc) c.loop-e.yielded _ c.loop-e.yielded_by _ _ c.in-Some.e c.in-Some.is c.next.ensures.steps in
    let h : k < 8 = omega (arith, turn.0, length-reverse a) in
    let j : length a - 1 - k ≡ 7 - k = omega arith in
    let e = turn.1 ∙ get_or-reverse a k c.in-Some.e.now (omega arith) ∙ ap (λ (i : ℕ). get_or a i c.in-Some.e.now) j
    ∙ get_or_default a (7 - k) c.in-Some.e.now 0 (omega arith) in
    let p = length_push c.loop-e.yielded c.in-Some.e in (
      omega arith,
      ap₂ (λ (b x : ℕ). b * 2 + x) c.loop-e.invariant.1 (c.occurs.ensures ∙ ap occurring e) ∙ byte_more a k c.requires h
          ∙ ap (λ (n : ℕ). byte_of (drop (8 - n) a)) (sym p),
    )

pub returns : goal.returns
returns c =
    let a = c.args.a.now in
    let end = YieldsList-end (YieldsList-from_rev_slice a cc) c.loop-e.yielded _ c.loop-e.yielded_by _ _ c.in-None.is c.next.ensures.steps in
    byte_all a c.requires (length c.loop-e.yielded) c.loop-e.byte (omega (arith, end.1, length-reverse a)) c.loop-e.invariant.1
