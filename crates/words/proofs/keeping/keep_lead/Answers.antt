-- `keeping::keep_lead` meets its contract.
use mathlib.Core.Path.{ap, ◌∙◌}
use mathlib.Core.List.{List}
use Prim.Native.Nat.{ℕ}
use Rattle.residue.specs.Layout.{with_place}
use Rattle.words.proofs.keeping.keep_lead.Goals as goal

pub returns : goal.returns
returns c = let a = c in
    let e = c in record { leads_after = e.keep_eight.ensures ∙ ap (λ (l : List ℕ). with_place 8 a.args.r l a.args.leads.now) e.spread.ensures; coefficients_after = c.keep_row.ensures; passed = c.pass_multiples.ensures }
