-- `drawing::turns::reduce` meets its contract.
use mathlib.Core.Path.{◌≡◌, sym, ap, subst, ◌∙◌}
use mathlib.Core.List.{◌++◌}
use native.Mathlib.Omega.{arith}
use lib.ListN.{length, take, drop}
use lib.Seq.{length-take-le}
use Rattle.residue.specs.Vector.{Below}
use Rattle.elimination.specs.Elimination.{eliminated, cancellations}
use Rattle.residue.specs.Layout.{fill, length_fill}
use Rattle.residue.proofs.vector.Vectors.{below_take}
use Rattle.residue.proofs.Layouts.{below_fill, over_all}
use Rattle.residue.proofs.Replaced.{zeros_long, load}
use Rattle.construction.proofs.drawing.turns.reduce.Goals as goal
use Rattle.construction.proofs.drawing.turns.reduce.Goals.{After-copy, Start}

-- the values and their place in the row are of one length
same_fronts : (s : Start) → length (take s.args.n s.args.own.now) ≡ length (take s.args.n s.args.work.now)
same_fronts s =
    length-take-le s.args.n s.args.own.now (omega arith)
    ∙ sym (length-take-le s.args.n s.args.work.now (omega (arith, zeros_long s.args.work.now 128 s.requires.work_value)))

-- the row is loaded
module _ (q : After-copy) where
  abbrev start : Start
  start = (goal.at.After-copy q).Start

  loaded : q.copy.new.to ++ drop start.args.n start.args.work.now ≡ fill 128 (take start.args.n start.args.own.now)
  loaded = load start.args.own.now start.args.work.now start.args.n start.requires.work_value (omega arith) (omega arith) (q.copy.ensures ∙ over_all (take start.args.n start.args.own.now) (take start.args.n start.args.work.now) (same_fronts start))

pub eliminate-requires : goal.eliminate-requires
eliminate-requires c = let q = c in
    let s = start (goal.at.eliminate-requires q).After-copy in record {
      le_p = (s.requires.le_p.0.0, s.requires.le_p.0.1, omega arith);
      zero_behind = s.requires.zero_behind;
      work_len = ap length (loaded (goal.at.eliminate-requires q).After-copy) ∙ length_fill 128 (take s.args.n s.args.own.now);
      found_in_bounds = (omega arith, omega arith);
      multiplied = (
        s.requires.below.1,
        subst (Below s.args.p) (sym (loaded (goal.at.eliminate-requires q).After-copy))
            (below_fill s.args.p 128 (take s.args.n s.args.own.now) (omega arith) (below_take s.args.p s.args.n s.args.own.now s.requires.below.0)),
      );
      by_index = λ t h. omega (arith, s.requires.by_index t h);
    }

pub returns : goal.returns
returns c = let e = c in
    let q = e in
    let a = (start (goal.at.returns q).After-copy).args in record { work_after = e.eliminate.ensures.work_after ∙ ap (eliminated a.p a.rows.now a.pivots.now a.found) (loaded (goal.at.returns q).After-copy); value = e.eliminate.ensures.value ∙ ap (cancellations a.p a.rows.now a.pivots.now a.found) (loaded (goal.at.returns q).After-copy) }
