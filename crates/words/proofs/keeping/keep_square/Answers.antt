-- `keeping::keep_square` meets its contract.
use mathlib.Core.Path.{ap, ◌∙◌}
use mathlib.Core.List.{List}
use Prim.Native.Nat.{ℕ, ◌-◌}
use Rattle.residue.specs.Layout.{with_place}
use native.Mathlib.Omega.{arith}
use Rattle.residue.specs.Words.{bits_of}
use Rattle.residue.proofs.BitLaws.{shift_one}
use Rattle.words.proofs.keeping.keep_square.Goals as goal

pub returns : goal.returns
returns c = let a = c in
    let e = c in record { leads_after = e.keep_eight.ensures ∙ ap (λ (l : List ℕ). with_place 8 a.args.r l a.args.leads.now) e.squared.ensures; coefficients_after = c.keep_row.ensures ∙ ap (λ (w : ℕ). with_place 64 a.args.r (bits_of 64 w) a.args.coefficients.now) (shift_one (a.args.place - 1) (omega arith)) }
