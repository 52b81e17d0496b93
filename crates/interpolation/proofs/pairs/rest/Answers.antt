-- `pairs::rest` meets its contract: the key is what the coordinate counts and the key with it left out.
use mathlib.Core.Path.{◌≡◌, ◌∙◌}
use Prim.Native.Nat.{◌+◌, ◌*◌}
use native.Mathlib.Omega.{arith}
use lib.ListN.{get_or}
use Rattle.interpolation.specs.Pairs.{rest_of}
use Rattle.interpolation.proofs.Chains.{left_out}
use Rattle.interpolation.proofs.pairs.rest.Goals as goal
use Rattle.interpolation.proofs.pairs.rest.Goals.{After-shared_slice_known-2-1, Start}

pub overflow_cast-result : goal.overflow_cast-result
overflow_cast-result c = omega (arith, c.shared_slice_known-2-1.given c.args.k)

module _ (c : After-shared_slice_known-2-1) where
  abbrev start : Start
  start = (goal.at.After-shared_slice_known-2-1 c).Start

  parted : c.key.result ≡ start.args.weight * get_or start.args.point.now start.args.k 0 + rest_of start.args.k start.args.point.now
  parted = c.key.ensures ∙ left_out start.args.point.now start.args.k start.args.weight start.requires.2 start.requires.0 start.requires.1

pub overflow_mul-result : goal.overflow_mul-result
overflow_mul-result c = omega (arith, parted (goal.at.overflow_mul-result c).After-shared_slice_known-2-1, c.key.type_inv)

pub overflow_sub-result : goal.overflow_sub-result
overflow_sub-result c = omega (arith, parted (goal.at.overflow_sub-result c).After-shared_slice_known-2-1)

pub returns : goal.returns
returns c = omega (arith, parted (goal.at.returns c).After-shared_slice_known-2-1)
