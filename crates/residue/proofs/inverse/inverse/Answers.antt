-- `inverse::inverse` meets its contract. The search along the rest of the primes is the whole search, and the inverses of the ith start at `start`.
use mathlib.Core.Path.{◌≡◌, refl, sym, ap, ◌∙◌}
use mathlib.Core.Bool.{true}
use Prim.Native.Nat.{ℕ, ◌+◌}
use native.Mathlib.Omega.{arith}
use lib.ListN.{get_or}
use Rattle.residue.specs.Modulus.{primes, is_modulus}
use Rattle.residue.proofs.level.Moduli.{search_end, search_on, search_hit, prime_small}
use Rattle.residue.proofs.inverse.Inverses.{inverses, start_small, start_more, inside, entry_is, inverse_is, no_modulus, no_residue}
use Rattle.residue.proofs.inverse.inverse.Goals as goal

pub returns-then-p-x : goal.returns-then-p-x
returns-then-p-x c = sym (no_residue _ _ c.if-p-x.true)

pub loop-prime-init : goal.loop-prime-init
unfolding is_modulus
loop-prime-init c = (refl, refl)

pub overflow_add-result : goal.overflow_add-result
unfolding primes
overflow_add-result c =
    let l = c.loop-prime in
    let e = l.invariant.0 in
    omega (arith, inside l.prime-index c.args.p c.args.x c.loop-prime-test.true c.if-prime-p.true c.if-p-x.false)

pub bounds-start : goal.bounds-start
unfolding primes
bounds-start c =
    let l = c.loop-prime in
    let e = l.invariant.0 in
    omega (arith, inside l.prime-index c.args.p c.args.x c.loop-prime-test.true c.if-prime-p.true c.if-p-x.false)

-- the search has found p, which is a modulus then, and the entry is the inverse of x
pub returns-then-prime-p : goal.returns-then-prime-p
unfolding primes
returns-then-prime-p c =
    let l = c.loop-prime in
    let i = l.prime-index in
    let p = c.args.p in
    let x = c.args.x in
    let turn = c.loop-prime-test.true in
    let found : is_modulus p ≡ true = sym l.invariant.1 ∙ search_hit primes p i turn c.if-prime-p.true in
    ap (λ (k : ℕ). get_or inverses (k + x) 0) l.invariant.0 ∙ entry_is i p x turn c.if-prime-p.true c.if-p-x.false
    ∙ sym (inverse_is p x found c.if-p-x.false)

pub overflow_add-start : goal.overflow_add-start
unfolding primes
overflow_add-start c =
    let l = c.loop-prime in
    let e = l.invariant.0 in
    omega (arith, start_small l.prime-index l.auto.prime-index-end, prime_small l.prime-index)

pub loop-prime-preserved : goal.loop-prime-preserved
unfolding primes
loop-prime-preserved c =
    let l = c.loop-prime in
    let i = l.prime-index in (
      ap (λ (k : ℕ). k + get_or primes i 0) l.invariant.0 ∙ sym (start_more i c.loop-prime-test.true),
      sym (search_on primes _ i c.loop-prime-test.true c.if-prime-p.false) ∙ l.invariant.1,
    )

pub returns : goal.returns
unfolding primes
returns c =
    let l = c.loop-prime in
    sym (no_modulus _ _ (sym l.invariant.1 ∙ search_end primes _ l.prime-index (omega arith)))
