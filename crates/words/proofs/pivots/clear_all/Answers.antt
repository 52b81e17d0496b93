-- `pivots::clear_all` meets its contract.
use mathlib.Core.Path.{◌≡◌}
use native.Mathlib.Omega.{arith}
use Rattle.words.specs.Packed.{words}
use Rattle.words.proofs.ClearLaws.{cleared_none, cleared_more}
use Rattle.words.proofs.pivots.clear_all.Goals as goal

pub loop-j-init : goal.loop-j-init
loop-j-init c = (omega arith, cleared_none _ _ _)

pub loop-j-preserved : goal.loop-j-preserved
loop-j-preserved c = let l = c in
    (omega arith, cleared_more _ _ _ _ _ _ l.loop-j.invariant.1 (words c.lost-left.result.column c.lost-left.result.polynomial) (omega arith) (omega arith) c.lost-left.ensures)

pub returns : goal.returns
returns c = let e : c.loop-j.j ≡ c.args.k = omega arith in rw (← e) c.loop-j.invariant.1
