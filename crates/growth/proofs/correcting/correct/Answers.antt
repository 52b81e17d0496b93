-- `correcting::correct` meets its contract.
use mathlib.Core.Path.{◌≡◌, ap, ◌∙◌}
use Prim.Native.Nat.{ℕ, ◌*◌, ◌-◌, ◌%◌}
use native.Mathlib.Omega.{arith}
use Rattle.residue.specs.Vector.{add_scaled}
use Rattle.growth.specs.Growing.{row_value_at, factor_of, corrected_by, corrected_row}
use Rattle.growth.proofs.Writes.{value_below}
use Rattle.growth.proofs.correcting.correct.Goals as goal

pub mul-requires-clause-x_lt_p : goal.mul-requires-clause-x_lt_p
mul-requires-clause-x_lt_p c = let a = c.args.addition.now in (rw c.row_value-v.ensures (value_below _ _ _ _ _ (omega arith)), omega arith)

pub returns : goal.returns
unfolding factor_of corrected_row
returns c =
    let a = c.args.addition.now in
    let cs = c.args.coefficients.now in
    let v : ℕ = row_value_at a.p a.point.now a.values.now c.args.lead.now cs in
    let e : c.neg-factor.result ≡ factor_of a.p a.inverse v =
    c.neg-factor.ensures ∙ ap (λ (z : ℕ). (a.p - z) % a.p) (c.mul.ensures ∙ ap (λ (z : ℕ). (z * a.inverse) % a.p) c.row_value-v.ensures) in record {
      coefficients_after = c.put_corrected.ensures.coefficients_after ∙ ap (λ (f : ℕ). add_scaled a.p f cs a.gone.now) e;
      row_after = c.put_corrected.ensures.row_after ∙ ap (λ (f : ℕ). corrected_by a.p a.place f a.gone.now cs) e;
    }
