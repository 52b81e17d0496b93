-- `value::value` meets its contract: the product is the value of the exponents passed, modulo p.
use mathlib.Core.Path.{ap₂, ◌∙◌}
use Prim.Native.Nat.{ℕ, ◌^◌, ◌%◌}
use native.Mathlib.Nat.{mod-lt}
use native.Mathlib.Omega.{arith}
use lib.ListN.{length}
use Rattle.std.proofs.lemmas.List.{length_push}
use Rattle.std.proofs.lemmas.Slice.Zip.{zip_turn}
use Rattle.monomial.proofs.Loops.{value_again}
use Rattle.monomial.proofs.value.value.Goals as goal

pub loop-x-preserved : goal.loop-x-preserved
loop-x-preserved c =
    let P = c.args.point.now in
    let a = c.args.a.now in
    let l = c.loop-x in
    let t = zip_turn P a l.yielded _ _ c.next.new.self _ (cc) (cc) l.yielded_by _ c.in-Some.is c.next.ensures.steps in
    let e = length_push l.yielded (c.in-Some.x, c.in-Some.e) in (
      rw c.mul-product.ensures (mod-lt _ (omega arith)),
      rw (c.mul-product.ensures, e)
          (value_again c.args.p P a (length l.yielded) l.product l.invariant.1 t.0 t.1
          (c.power.ensures ∙ ap₂ (λ (x k : ℕ). (x ^ k) % c.args.p) (t.2 0) (t.3 0))),
    )
