-- `arithmetic::product` meets its contract. While k bits are left, the sum is the product with the number which the bits above them spell.
use mathlib.Core.Path.{◌≡◌}
use Prim.Native.Nat.{◌*◌, ◌/◌, ◌%◌, ◌^◌}
use Rattle.residue.proofs.arithmetic.product.Given as goal

abbrev pub invariant-loop-k : goal.invariant-loop-k
invariant-loop-k l = l.sum ≡ (l.x * (l.y / 2 ^ l.k)) % l.p
