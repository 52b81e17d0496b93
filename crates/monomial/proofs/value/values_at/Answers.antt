-- `value::values_at` meets its contract. The loop has written the values before its index.
use mathlib.Core.Path.{ap, ◌∙◌}
use mathlib.Core.List.{List, []}
use Prim.Native.Nat.{ℕ, ◌%◌}
use native.Mathlib.Omega.{arith}
use lib.ListN.{get_or}
use Rattle.residue.specs.Layout.{groups}
use Rattle.residue.proofs.vector.Filled.{filled_none, filled_more}
use Rattle.residue.proofs.Places.{length_groups}
use Rattle.residue.proofs.bytes.Copies.{mapped}
use Rattle.monomial.specs.Monomial.{monomial_at}
use Rattle.monomial.proofs.value.values_at.Goals as goal

pub loop-i-init : goal.loop-i-init
loop-i-init c = filled_none _ _

pub loop-i-preserved : goal.loop-i-preserved
loop-i-preserved c =
    let s = c.args in
    let f : ℕ → ℕ = λ j. monomial_at s.point.now (get_or (groups 8 s.k s.monomials.now) j []) % s.p in
    filled_more f c.loop-i.i s.values.now c.loop-i.values c.loop-i.invariant _ (omega arith)
    (c.value.ensures ∙ ap (λ (rows : List (List ℕ)). monomial_at s.point.now (get_or rows c.loop-i.i []) % s.p) c.rows-a-items.ensures.value)

pub returns : goal.returns
returns c =
    let s = c.args in
    let t = groups 8 s.k s.monomials.now in
    let n = length_groups 8 s.k s.monomials.now in
    c.loop-i.invariant ∙ mapped (λ a. monomial_at s.point.now a % s.p) [] t s.values.now c.loop-i.i (omega arith) (omega arith)
