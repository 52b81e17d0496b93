-- `pairs::is_needed` meets its contract: a variable that is the same in all points has no pair.
use native.Mathlib.Omega.{arith}
use Rattle.interpolation.proofs.PairSearch.{constant_none}
use Rattle.interpolation.proofs.pairs.is_needed.Goals as goal

pub returns : goal.returns
returns c = let d = c in
    let s = d in
    constant_none s.args.n s.args.points.now s.args.values.now (omega arith) s.args.k (d.varies.ensures c.if-varies.false)
