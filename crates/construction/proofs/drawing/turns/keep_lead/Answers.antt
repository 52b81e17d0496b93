-- `drawing::turns::keep_lead` meets its contract.
use mathlib.Core.Path.{ap, ◌∙◌}
use Prim.Native.Nat.{ℕ, ◌+◌, ◌*◌, ◌-◌}
use native.Mathlib.Nat.{add-sub_cancel_left}
use lib.ListN.{take, drop}
use Rattle.residue.specs.Layout.{over}
use Rattle.residue.proofs.Replaced.{put_place}
use Rattle.construction.proofs.drawing.turns.keep_lead.Goals as goal
use Rattle.construction.proofs.drawing.turns.keep_lead.Goals.{After-slice_known-4-1, Start}

-- where the parameters come in, from the end
abbrev start : After-slice_known-4-1 → Start
start c = (goal.at.After-slice_known-4-1 c).Start

pub returns : goal.returns
returns c = let a = (start (goal.at.returns c).After-slice_known-4-1).args in
    let k : ℕ = 64 * a.r + 64 - 64 * a.r in record {
      leads_after = put_place 8 a.r (8 * a.r + 8 - 8 * a.r) a.exponents.now a.leads.now (add-sub_cancel_left (8 * a.r) 8) c.copy.ensures;
      coefficients_after = put_place 64 a.r k (take a.found (drop a.n a.work.now)) a.coefficients.now (add-sub_cancel_left (64 * a.r) 64)
          (c.copy-2.ensures ∙ ap (λ (j : ℕ). over (take j (drop a.n a.work.now)) (take k (drop (64 * a.r) a.coefficients.now))) (add-sub_cancel_left a.n a.found));
    }
