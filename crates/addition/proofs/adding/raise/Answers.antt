-- `adding::raise` meets its contract.
use native.Mathlib.Omega.{arith}
use Rattle.addition.proofs.adding.raise.Goals as goal

pub overflow_add-counts : goal.overflow_add-counts
overflow_add-counts c = omega (arith, c.requires.place_in_bounds.1, (c.slice_known-1.given c.args.place).fits)
