-- `arithmetic::power` meets its contract. The product so far, times what is left of the power of the square, is the whole power.
use mathlib.Core.Path.{◌≡◌, ◌∙◌}
use mathlib.Core.Logic.{⊎_elim}
use Prim.Native.Nat.{◌<◌}
use native.Mathlib.Nat.{mod-lt}
use native.Mathlib.Omega.{arith}
use Rattle.residue.proofs.arithmetic.Reduction.{kept}
use Rattle.residue.proofs.arithmetic.Powers.{even, odd, whole}
use Rattle.residue.proofs.arithmetic.power.Goals as goal

pub loop-left-preserved : goal.loop-left-preserved
loop-left-preserved c = let l = c in
    let p = l.args.p in
    let two : 0 < p = omega arith in
    let sq = c.mul-square.ensures in
    let low : c.mul-square.result < p = rw sq (mod-lt _ two) in
    ⊎_elim
    (λ w. let e = w.product-is ∙ w.mul-product.ensures in (rw e (mod-lt _ two), (low, odd _ _ _ l.loop-left.invariant.1.1 sq w.if-left-eq1.true e)))
    (λ w. (rw w.product-is l.loop-left.invariant.0, (low, even _ _ _ l.loop-left.invariant.1.1 sq w.if-left-eq1.false w.product-is)))
    c.if-left-eq1.branch-raw

pub returns : goal.returns
returns c = let l = c in
    let e : l.loop-left.left ≡ 0 = omega arith in
    kept _ _ l.loop-left.invariant.0 ∙ whole _ _ _ e l.loop-left.invariant.1.1
