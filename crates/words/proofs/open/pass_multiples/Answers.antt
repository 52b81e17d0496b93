-- `open::pass_multiples` meets its contract.
use lib.Pow.{pow_pos}
use Rattle.words.proofs.SetBits.{drop_lowest}
use Prim.Native.Nat.{◌+◌, ◌*◌, ◌-◌, ◌<◌}
use lib.Bits.{and_lt}
use Rattle.words.proofs.Orthogonal.{lowest_lt}
use native.Mathlib.Omega.{arith}
use lib.Count.{count_trailing_zeros}
use Rattle.words.proofs.MultipleLaws.{common_none, common_more, passed_multiples, row_set}
use Rattle.words.proofs.open.pass_multiples.Goals as goal
use Rattle.words.proofs.open.pass_multiples.Goals.{In-loop-left}

pub loop-left-init : goal.loop-left-init
loop-left-init c = (c.ranges.byte.fits, common_none _ _)

-- the variable of the lowest bit left
low : (i : In-loop-left) → count_trailing_zeros 8 i.loop-left.left < 8
low i = lowest_lt 8 i.loop-left.left i.loop-left.invariant.0 i.loop-left-test.true

pub overflow_cast-from : goal.overflow_cast-from
overflow_cast-from c = record { fits = omega (arith, lowest_lt 8 c.loop-left.left c.loop-left.invariant.0 c.loop-left-test.true) }

pub overflow_mul-from : goal.overflow_mul-from
overflow_mul-from c = record { fits = omega (arith, lowest_lt 8 c.loop-left.left c.loop-left.invariant.0 c.loop-left-test.true) }

pub overflow_add-from : goal.overflow_add-from
overflow_add-from c = record { fits = omega (arith, low (goal.at.overflow_add-from c).In-loop-left) }

pub offset_bounds-multiples-from : goal.offset_bounds-multiples-from
offset_bounds-multiples-from c = record { fits = omega (arith, low (goal.at.offset_bounds-multiples-from c).In-loop-left) }

pub slice_bounds-meet-end-in-loop-left : goal.slice_bounds-meet-end-in-loop-left
slice_bounds-meet-end-in-loop-left c = omega (arith, low (goal.at.slice_bounds-meet-end-in-loop-left c).In-loop-left)

pub loop-left-smaller : goal.loop-left-smaller
loop-left-smaller c = let i = c in
    let l = i in
    omega (arith, drop_lowest 8 l.loop-left.left l.loop-left.invariant.0 i.loop-left-test.true, pow_pos (count_trailing_zeros 8 l.loop-left.left))

pub loop-left-preserved : goal.loop-left-preserved
loop-left-preserved c = let i = c in
    let l = i in
    let a = l in (
      and_lt 8 _ _ l.loop-left.invariant.0 (omega (arith, l.loop-left.invariant.0)),
      common_more _ l.loop-left.left a.args.multiples.now _ _ _ l.loop-left.invariant.1 l.loop-left.invariant.0 i.loop-left-test.true
          (λ j h. row_set (count_trailing_zeros 8 l.loop-left.left) j (4 * count_trailing_zeros 8 l.loop-left.left + 4 - 4 * count_trailing_zeros 8 l.loop-left.left) a.args.multiples.now h (omega arith)) c.meet.ensures,
    )

pub returns : goal.returns
returns c = let l = c in passed_multiples _ l.loop-left.left _ _ _ _ (omega arith) l.loop-left.invariant.1 c.join.ensures
