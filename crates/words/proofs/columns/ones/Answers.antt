-- `columns::ones` meets its contract.
use mathlib.Core.Path.{refl, ap}
use Prim.Native.Nat.{ℕ, ◌-◌}
use native.Mathlib.Omega.{arith}
use lib.Pow.{pow_pos}
use Rattle.residue.proofs.BitLaws.{shift_one}
use Rattle.words.proofs.columns.ones.Goals as goal

pub returns-then-n-eq64 : goal.returns-then-n-eq64
returns-then-n-eq64 c = rw c.if-n-eq64.true refl

pub overflow_sub-result : goal.overflow_sub-result
overflow_sub-result c = omega (arith, shift_one c.args.n (omega arith), pow_pos c.args.n)

pub returns : goal.returns
returns c = ap (λ (x : ℕ). x - 1) (shift_one c.args.n (omega arith))
