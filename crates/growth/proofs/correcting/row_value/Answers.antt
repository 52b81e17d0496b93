-- `correcting::row_value` meets its contract.
use mathlib.Core.Path.{ap₂, ◌∙◌}
use Prim.Native.Nat.{ℕ, ◌+◌, ◌%◌}
use native.Mathlib.Nat.{mod-add-mod, add-mod-mod}
use Rattle.residue.specs.Vector.{dot_of}
use Rattle.monomial.specs.Monomial.{monomial_at}
use Rattle.growth.specs.Growing.{row_value_at}
use Rattle.growth.proofs.correcting.row_value.Goals as goal

pub returns : goal.returns
unfolding row_value_at
returns c = let s = c in
    c.add.ensures ∙ ap₂ (λ (x y : ℕ). (x + y) % s.args.p) c.value.ensures c.dot.ensures
    ∙ mod-add-mod (monomial_at s.args.point.now s.args.lead.now) s.args.p (dot_of s.args.coefficients.now s.args.values.now % s.args.p)
    ∙ add-mod-mod (monomial_at s.args.point.now s.args.lead.now) (dot_of s.args.coefficients.now s.args.values.now) s.args.p
