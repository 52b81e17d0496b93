-- `model::put_model` meets its contract.
use mathlib.Core.Path.{◌≡◌, sym, ap, ◌∙◌}
use mathlib.Core.List.{List, ◌++◌}
use Prim.Native.Nat.{ℕ, ◌≤◌}
use lib.ListN.{length, take, drop, replicate}
use lib.Seq.{length-take-le, take_at, drop_at}
use Rattle.residue.specs.Layout.{fill, over}
use Rattle.residue.proofs.Layouts.{answered}
use Rattle.residue.proofs.Replaced.{zeros_long}
use Rattle.steps.proofs.model.put_model.Goals as goal

cleared : (out new : List ℕ) → 512 ≤ length out → new ≡ replicate (length (take 512 out)) 0 → new ≡ replicate 512 0
cleared out new h e = e ∙ ap (λ (k : ℕ). replicate k 0) (length-take-le 512 out h)

front_long : (out new : List ℕ) → 512 ≤ length out → new ≡ replicate (length (take 512 out)) 0 → 512 ≡ length (take 512 (new ++ drop 512 out))
front_long out new h e = let z = zeros_long new 512 (cleared out new h e) in sym (ap length (take_at new (drop 512 out) 512 z) ∙ z)

over_cleared : (out new found genes : List ℕ) → 512 ≤ length out → new ≡ replicate (length (take 512 out)) 0 → found ≡ fill 512 genes
    → found ++ drop 512 (new ++ drop 512 out) ≡ over (fill 512 genes) out
over_cleared out new found genes h e f =
    ap (λ (t : List ℕ). found ++ t) (drop_at new (drop 512 out) 512 (zeros_long new 512 (cleared out new h e))) ∙ answered 512 genes out found f

pub slice_bounds-clear-end-2 : goal.slice_bounds-clear-end-2
slice_bounds-clear-end-2 c = let s = c in sym (length-take-le 512 s.args.out.now s.requires.in_bounds)

pub slice_bounds-put_genes-end-2 : goal.slice_bounds-put_genes-end-2
slice_bounds-put_genes-end-2 c = let s = c in front_long s.args.out.now _ s.requires.in_bounds c.clear.ensures

pub put_genes-requires : goal.put_genes-requires
put_genes-requires c = let s = c in
    let z = cleared s.args.out.now _ s.requires.in_bounds c.clear.ensures in record { le_p = s.requires.le_p; rows_len = s.requires.rows_len; multiplied = s.requires.multiplied; below = s.requires.below; genes_value = take_at _ _ 512 (zeros_long _ 512 z) ∙ z }

pub returns : goal.returns
returns c = let s = c in
    over_cleared s.args.out.now _ _ _ s.requires.in_bounds c.clear.ensures c.put_genes.ensures
