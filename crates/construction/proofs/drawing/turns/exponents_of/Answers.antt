-- `drawing::turns::exponents_of` meets its contract.
use mathlib.Core.Path.{◌≡◌, ap, ◌∙◌}
use mathlib.Core.List.{List, []}
use Prim.Native.Nat.{ℕ, ◌*◌}
use native.Mathlib.Omega.{arith}
use lib.ListN.{get_or, take, drop}
use lib.Seq.{get_or-take, get_or-drop}
use Rattle.residue.proofs.Places.{groups_at}
use Rattle.monomial.specs.Monomial.{times_variable}
use Rattle.construction.proofs.drawing.turns.exponents_of.Goals as goal
use Rattle.construction.proofs.drawing.turns.exponents_of.Goals.{After-rows}

-- the standard monomial's exponents
read : (c : After-rows) → get_or c.rows.result.now c.args.product.now.standard [] ≡ take 8 (drop (8 * c.args.product.now.standard) c.args.standard.now)
read c =
    let t : ℕ = c.args.product.now.standard in
    ap (λ (rows : List (List ℕ)). get_or rows t []) c.rows.ensures.value ∙ groups_at 8 64 t c.args.standard.now [] (omega arith)

pub overflow_add-exponents : goal.overflow_add-exponents
overflow_add-exponents c =
    let k : ℕ = c.args.product.now.variable in
    let at : ℕ = 8 * c.args.product.now.standard in
    let t = c.args.standard.now in
    omega (arith, ap (λ (a : List ℕ). get_or a k 0) (read (goal.at.overflow_add-exponents c).After-rows) ∙ get_or-take 8 (drop at t) k 0 (omega arith) ∙ get_or-drop at t k 0)

pub returns : goal.returns
returns c = ap (times_variable c.args.product.now.variable) (read (goal.at.returns c).After-rows)
