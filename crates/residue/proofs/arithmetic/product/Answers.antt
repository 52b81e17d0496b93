-- `arithmetic::product` meets its contract. While k bits are left, the sum is the product with the number which the bits above them spell.
use mathlib.Core.Path.{ap₂, ◌∙◌}
use Prim.Native.Nat.{ℕ, ◌+◌, ◌%◌}
use native.Mathlib.Nat.{mod-lt}
use native.Mathlib.Omega.{arith}
use Rattle.residue.proofs.arithmetic.Doubling.{no_bits, one_bit, all_bits}
use Rattle.residue.proofs.arithmetic.product.Goals as goal

pub loop-k-init : goal.loop-k-init
loop-k-init c = no_bits c.args.p c.args.x c.args.y c.args.bits (omega arith) c.requires.x_lt_p.1

pub double-requires-clause-x_lt_p : goal.double-requires-clause-x_lt_p
double-requires-clause-x_lt_p c = rw c.loop-k.invariant (mod-lt _ (omega arith))

pub loop-k-preserved : goal.loop-k-preserved
loop-k-preserved c =
    let a = c.args in
    c.add-sum.ensures ∙ ap₂ (λ (u v : ℕ). (u + v) % a.p) c.double.ensures c.chosen.ensures
    ∙ one_bit a.p a.x a.y c.loop-k.k c.loop-k.sum c.loop-k-test.true c.loop-k.invariant

pub returns : goal.returns
returns c = c.loop-k.invariant ∙ all_bits c.args.p c.args.x c.args.y c.loop-k.k (omega arith)
