-- `weights::weighs_first` meets its contract: the first weights are gone through, and the others are 0.
use mathlib.Core.Path.{◌≡◌, refl, sym, ap, ◌∙◌}
use Prim.Native.Nat.{ℕ, ◌-◌}
use native.Mathlib.Omega.{arith}
use borrow.Author.Rules.{rules}
use borrow.Author.Tests.{tests}
use lib.ListN.{take, drop, length-drop}
use lib.Seq.{take_all}
use mathlib.Core.List.{List}
use Rattle.std.specs.List.{list_all}
use Rattle.std.proofs.lemmas.Iterator.{YieldsList-from_slice}
use Rattle.std.proofs.lemmas.Iterator.Search.{all_from_yields_List}
use Rattle.residue.specs.Lists.{all_zero}
use Rattle.points.proofs.weights.Weights.{in_weights, weighs_both}
use Rattle.points.proofs.weights.weighs_first.Goals as goal
use Rattle.points.proofs.weights.weighs_first.Goals.{After-all}

gone_through : (c : After-all) → c.all.result ≡ list_all in_weights (take c.args.m c.args.weights.now)
gone_through c =
    all_from_yields_List {s = c.iter.result} in_weights c.all.new.self _ _ c.all.ensures.ran (YieldsList-from_slice (take c.args.m c.args.weights.now) cc)
    (λ x r q k. search (rules, tests))

pub returns-then-all : goal.returns-then-all
returns-then-all c =
    let m : ℕ = c.args.m in
    let w : List ℕ = c.args.weights.now in
    let first = sym (gone_through (goal.at.returns-then-all c).After-all) ∙ c.if-all.true in
    c.all_zero.ensures ∙ ap all_zero (take_all (8 - m) (drop m w) (simp length-drop (omega arith))) ∙ sym (weighs_both m w (omega arith) ∙ rw first refl)

pub returns-else-all : goal.returns-else-all
returns-else-all c =
    let m : ℕ = c.args.m in
    let w : List ℕ = c.args.weights.now in
    let first = sym (gone_through (goal.at.returns-else-all c).After-all) ∙ c.if-all.false in
    c.if-all.false ∙ sym (weighs_both m w (omega arith) ∙ rw first refl)
