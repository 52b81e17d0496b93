-- `parity::low_mask` meets its contract: the mask of the first k variables.
use Rattle.std.proofs.Common.{◌≡◌, ℕ, ◌<◌, List, length, take, sym, ap, ◌∙◌, arith}
use Rattle.std.proofs.lemmas.List.{length-take-le, get_or-take}
use Rattle.residue.specs.Words.{word_of}
use Rattle.interpolation.specs.Parity.{values_at}
use Rattle.interpolation.proofs.MaskLaws.{low_none, low_same, low_more, shift_lt}
use Rattle.interpolation.proofs.parity.low_mask.Goals as goal
use Rattle.interpolation.proofs.parity.low_mask.Goals.{then-x-ne0, else-x-ne0}

six : (P : List ℕ) → length P ≡ 8 → length (take 6 P) ≡ 6
six P e = length-take-le 6 P (omega arith)

pub loop-k-init : goal.loop-k-init
loop-k-init c = (omega arith, low_none _ 0)

pub overflow_shl-mask-then-x-ne0 : goal.overflow_shl-mask-then-x-ne0
overflow_shl-mask-then-x-ne0 c = shift_lt c.args.point.now c.loop-k.k (omega (arith, six _ c.requires.0))

pub loop-k-preserved : goal.loop-k-preserved
loop-k-preserved c =
    let P = c.args.point.now in
    let k = c.loop-k.k in
    let h : k < 6 = omega (arith, six _ c.requires.0) in
    let e = get_or-take 6 P k 0 h in
    let b = c.requires.1 k (omega arith) in
    elim c.if-x-ne0.branch [
      | then-x-ne0 w ↦ (omega arith, w.mask-is ∙ low_more P k c.loop-k.mask h (omega (arith, w.if-x-ne0.true)) c.loop-k.invariant.1)
      | else-x-ne0 w ↦ (omega arith, w.mask-is ∙ c.loop-k.invariant.1 ∙ low_same P k (sym e ∙ w.if-x-ne0.false))
    ]

pub returns : goal.returns
returns c =
    let e : c.loop-k.k ≡ 6 = omega (arith, six _ c.requires.0) in
    c.loop-k.invariant.1 ∙ ap (λ (k : ℕ). word_of (values_at k c.args.point.now)) e
