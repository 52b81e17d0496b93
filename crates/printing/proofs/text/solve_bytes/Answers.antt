-- `text::solve_bytes` meets its contract.
use mathlib.Core.Path.{sym, ◌∙◌, ap, subst}
use mathlib.Core.List.{List}
use Prim.Native.Nat.{ℕ}
use native.Mathlib.Omega.{arith}
use lib.ListN.{length}
use Rattle.residue.specs.Vector.{Below}
use Rattle.residue.specs.Layout.{fill, over, length_fill}
use Rattle.residue.proofs.Layouts.{over_all, below_fill}
use Rattle.residue.proofs.Places.{over_zeros}
use Rattle.interpolation.specs.Solving.{solution}
use Rattle.printing.proofs.text.solve_bytes.Goals as goal

pub solve-requires : goal.solve-requires
solve-requires c = let s = c in
    let w = c.copy.ensures ∙ over_zeros s.args.values.now 128 (omega arith) in
    let l = ap (λ (z : List ℕ). length z) w ∙ length_fill 128 s.args.values.now in
    let o = ap (λ (z : List ℕ). length z) s.requires.out_value in record { le_p = s.requires.le_p; n_bound = (s.requires.n_bound.0, l, omega arith); n_in_bounds = (omega arith, omega arith); multiplied = (s.requires.multiplied.0, subst (Below s.args.p) (sym w) (below_fill s.args.p 128 s.args.values.now (omega arith) s.requires.values_len.1)); by_index = s.requires.multiplied.1 }

pub returns : goal.returns
returns c = let copied = c in
    let s = copied in
    let w = copied.copy.ensures ∙ over_zeros s.args.values.now 128 (omega arith) in
    let o = ap (λ (z : List ℕ). length z) s.requires.out_value in
    let solved = fill 64 (solution s.args.p s.args.n s.args.rows.now s.args.pivots.now copied.copy.new.to) in
    ◌∙◌ {b = over solved s.args.out.now} c.solve.ensures.out_after (over_all solved s.args.out.now (length_fill 64 _ ∙ sym o))
    ∙ ap (λ (z : List ℕ). fill 64 (solution s.args.p s.args.n s.args.rows.now s.args.pivots.now z)) w
