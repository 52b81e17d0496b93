-- `bytes::all_zero` meets its contract: the largest is 0 exactly where all are.
use mathlib.Core.Path.{◌≡◌, ap, ◌∙◌}
use Prim.Native.Nat.{ℕ, max}
use lib.Dec.{eqb}
use Rattle.std.proofs.Common.{rules}
use Rattle.std.specs.List.{fold}
use Rattle.residue.proofs.bytes.AllZero.{largest_zero}
use Rattle.residue.proofs.bytes.all_zero.Goals as goal

pub returns : goal.returns
returns c =
    let largest : c.fold.result ≡ fold max 0 c.args.a.now = search rules in
    ap (λ (m : ℕ). eqb m 0) largest ∙ largest_zero 0 c.args.a.now
