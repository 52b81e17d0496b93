-- `exponents::rows` meets its contract: the library's chunks are the groups.
use mathlib.Core.Path.{ap, ◌∙◌}
use mathlib.Core.List.{List}
use Prim.Native.Nat.{ℕ, ◌*◌}
use native.Mathlib.Omega.{arith}
use lib.ListN.{take}
use lib.Seq.{length-take-le}
use Rattle.std.specs.Simd.{first_chunks}
use Rattle.monomial.proofs.exponents.Divisors.{chunks_front}
use Rattle.monomial.proofs.exponents.rows.Goals as goal

pub returns-clause-value : goal.returns-clause-value
returns-clause-value c =
    let k : ℕ = c.args.k in
    let t : List ℕ = c.args.table.now in
    let n = length-take-le (8 * k) t c.requires in
    c.as_chunks.ensures.front ∙ ap (λ (j : ℕ). first_chunks 8 j (take (8 * k) t)) (omega arith) ∙ chunks_front k t
