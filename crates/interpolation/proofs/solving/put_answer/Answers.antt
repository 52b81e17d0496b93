-- `solving::put_answer` meets its contract.
use mathlib.Core.Path.{sym, ap, ◌∙◌}
use mathlib.Core.List.{List, map}
use Prim.Native.Nat.{ℕ, ◌-◌, ◌%◌}
use native.Mathlib.Omega.{arith}
use native.Mathlib.Nat.{le_of_eq, le_trans}
use lib.ListN.{replicate, length-map}
use Rattle.residue.specs.Layout.{over}
use Rattle.residue.proofs.Places.{over_zeros}
use Rattle.interpolation.proofs.solving.put_answer.Goals as goal

pub put_negatives-requires : goal.put_negatives-requires
put_negatives-requires c = let k = c in
    let s = k in record { p_bound = s.requires.p_bound; below = s.requires.below; from_in_bounds = le_trans s.requires.from_len_bound.0 (le_of_eq (sym (k.clear.auto.to ∙ s.requires.from_len_bound.1))) }

pub shape_of-out : goal.shape_of-out
shape_of-out c = c.put_negatives.auto.to ∙ c.clear.auto.to

pub returns : goal.returns
returns c = let w = c in
    let k = w in
    let s = k in
    let r : List ℕ = map (λ x. (s.args.p - x) % s.args.p) s.args.from.now in
    let n = length-map s.args.from.now (λ x. (s.args.p - x) % s.args.p) in
    w.put_negatives.ensures ∙ ap (over r) (k.clear.ensures ∙ ap (λ (j : ℕ). replicate j 0) s.requires.from_len_bound.1) ∙ over_zeros r 64 (omega arith)
