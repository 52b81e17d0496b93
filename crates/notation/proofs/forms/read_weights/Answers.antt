-- `forms::read_weights` meets its contract. The weights from `at` on, kept behind those so far, are all that is to be kept.
use mathlib.Core.Path.{ap, ◌∙◌}
use mathlib.Core.List.{List}
use Prim.Native.Nat.{ℕ, ◌+◌, ◌-◌}
use native.Mathlib.Nat.{sub-zero}
use native.Mathlib.Omega.{arith}
use lib.ListN.{drop}
use Rattle.notation.specs.Forms.{weights_of}
use Rattle.notation.specs.Said.{weight_said, order_said}
use Rattle.notation.proofs.Numbers.{order_says}
use Rattle.notation.proofs.forms.WeightsRead.{keeps, keeps_all, keeps_broken, keeps_more, keeps_rest, keeps_done}
use Rattle.notation.proofs.forms.read_weights.Goals as goal

pub loop-i-init : goal.loop-i-init
loop-i-init c = let a = c.args in record {
  within = omega arith;
  kept = ap (λ (k : ℕ). keeps 0 a.weights.now (weights_of k a.content.now)) (sub-zero a.names)
      ∙ keeps_all a.weights.now (weights_of a.names a.content.now) c.requires;
}

pub returns-in_err-weight : goal.returns-in_err-weight
unfolding order_said weight_said
returns-in_err-weight c = let l = c.loop-i in
    rw c.from_residual.ensures (order_says (keeps_broken c.args.content.now l.weights l.at l.i _ c.loop-i-test.true c.in_err-weight.ensures.fact_1 ∙ l.invariant.kept))

pub loop-i-preserved : goal.loop-i-preserved
unfolding weight_said
loop-i-preserved c = let l = c.loop-i in
    let t = c.args.content.now in
    let weight = c.in_ok-weight.field-0 in record {
      within = c.in_ok-weight.ensures.fact_2;
      kept = ap (λ (r : List ℕ). keeps (l.i + 1) r (weights_of (c.args.names - (l.i + 1)) (drop weight.next t))) c.keep_weight.ensures
          ∙ keeps_more t l.weights l.at l.i _ c.loop-i-test.true _ _ c.in_ok-weight.ensures.fact_1 ∙ l.invariant.kept;
    }

pub returns-then-at-content : goal.returns-then-at-content
unfolding order_said
returns-then-at-content c = let l = c.loop-i in
    order_says (keeps_rest c.args.content.now l.weights l.at l.i _ (omega arith) c.if-at-content.true ∙ l.invariant.kept)

pub returns : goal.returns
unfolding order_said
returns c = let l = c.loop-i in
    order_says (keeps_done c.args.content.now l.weights l.at l.i _ (omega arith) c.if-at-content.false ∙ l.invariant.kept)
