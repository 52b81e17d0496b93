-- `rows::keep` meets its contract.
use mathlib.Core.Path.{◌≡◌, refl, sym, ap, subst, ◌∙◌}
use mathlib.Core.List.{List}
use Prim.Native.Nat.{ℕ, ◌+◌, ◌*◌, ◌-◌}
use native.Mathlib.Omega.{arith}
use lib.ListN.{length, get_or}
use Rattle.residue.specs.Inverse.{inverse_of}
use Rattle.residue.specs.Vector.{Below}
use Rattle.elimination.specs.Rows.{pivot_row}
use Rattle.elimination.specs.Elimination.{multiples_of}
use Rattle.residue.proofs.Replaced.{part_long, put_whole}
use Rattle.elimination.proofs.rows.Kept.{pivot_row_length, pivot_row_below}
use Rattle.elimination.proofs.reducing.Multiples.{block_length}
use Rattle.elimination.proofs.rows.keep.Goals as goal
use Rattle.elimination.proofs.rows.keep.Goals.{Start}

-- the row that is kept
module _ (s : Start) where
  abbrev made : List ℕ
  made = pivot_row s.args.p (s.args.n + s.args.found) (inverse_of s.args.p (get_or s.args.work.now s.args.at 0)) s.args.work.now

  made_long : length made ≡ 128
  made_long = pivot_row_length s.args.p (s.args.n + s.args.found) _ s.args.work.now (omega arith) ∙ s.requires.at_lt_n.1.1

  made_below : Below s.args.p made
  made_below = pivot_row_below s.args.p (s.args.n + s.args.found) _ s.args.work.now (omega arith) (omega arith) s.requires.below

pub put_multiples-requires : goal.put_multiples-requires
put_multiples-requires c = let s = c in
    let e = c.normalise.ensures in record { le_p = s.requires.le_p; row_len = (ap length e ∙ made_long (goal.at.put_multiples-requires s).Start, part_long (1152 * s.args.found) (1152 * s.args.found + 1152 - 1152 * s.args.found) 1152 s.args.rows.now (omega arith) s.requires.block_size_in_bounds.0); below = subst (Below s.args.p) (sym e) (made_below (goal.at.put_multiples-requires s).Start) }

pub returns : goal.returns
returns c = let s = c in
    let e = c.normalise.ensures in record {
      work_after = e;
      rows_after = put_whole 1152 s.args.found (1152 * s.args.found + 1152 - 1152 * s.args.found) _ s.args.rows.now (omega arith) s.requires.block_size_in_bounds.0
          (block_length s.args.p (made (goal.at.returns s).Start) (made_long (goal.at.returns s).Start)) (c.put_multiples.ensures ∙ ap (multiples_of s.args.p) e);
      pivots_after = refl;
    }
