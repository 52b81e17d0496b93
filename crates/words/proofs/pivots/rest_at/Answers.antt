-- `pivots::rest_at` meets its contract.
use Prim.Native.Nat.{◌<◌}
use native.Mathlib.Omega.{arith}
use lib.Bits.{and_lt}
use lib.Count.{count_trailing_zeros, trailing_le}
use lib.ListN.{length, get_or}
use lib.Pow.{pow_pos}
use Rattle.words.specs.Packed.{words}
use Rattle.words.proofs.Orthogonal.{lowest_set, lowest_lt}
use Rattle.words.proofs.SetBits.{drop_lowest}
use Rattle.words.proofs.LeftLaws.{leaving_all, leaving_none, leaving_on, in_pivots}
use Rattle.words.proofs.pivots.rest_at.Goals as goal
use Rattle.words.proofs.pivots.rest_at.Goals.{In-loop-left}

-- the pivot of the lowest bit left is in the tables
row_in_lem : (i : In-loop-left) → let l = i in
    (get_or l.args.rows.now (count_trailing_zeros 64 l.loop-left.left) 0 < length l.args.columns.now)
    × (get_or l.args.rows.now (count_trailing_zeros 64 l.loop-left.left) 0 < length l.args.polynomials.now)
row_in_lem i =
    let l = i in
    let b = in_pivots _ _ _ _ _ l.loop-left.left (words l.loop-left.column l.loop-left.polynomial) l.loop-left.invariant.1 (count_trailing_zeros 64 l.loop-left.left)
    (lowest_set 64 l.loop-left.left l.loop-left.invariant.0 i.loop-left-test.true) in
    (l.requires.in_columns _ b, l.requires.in_polynomials _ b)

pub loop-left-init : goal.loop-left-init
loop-left-init c = (and_lt 64 _ _ c.ranges.own.fits c.ranges.pivots.fits, leaving_all _ _ _ _ _)

pub overflow_cast-j : goal.overflow_cast-j
overflow_cast-j c = omega (arith, trailing_le 64 c.loop-left.left)

pub bounds-rows-left : goal.bounds-rows-left
bounds-rows-left c = let i = c in omega (arith, lowest_lt 64 i.loop-left.left i.loop-left.invariant.0 i.loop-left-test.true, i.requires.long)

pub overflow_cast-j-in-loop-left : goal.overflow_cast-j-in-loop-left
overflow_cast-j-in-loop-left c = omega (arith, c.shared_slice_known-1.given (count_trailing_zeros 64 c.loop-left.left))

pub offset_bounds-columns-j : goal.offset_bounds-columns-j
offset_bounds-columns-j c = omega (arith, c.shared_slice_known-1.given (count_trailing_zeros 64 c.loop-left.left))

pub bounds-columns-j : goal.bounds-columns-j
bounds-columns-j c = omega (arith, row_in_lem (goal.at.bounds-columns-j c).In-loop-left)

pub offset_bounds-polynomials-j : goal.offset_bounds-polynomials-j
offset_bounds-polynomials-j c = omega (arith, c.shared_slice_known-1.given (count_trailing_zeros 64 c.loop-left.left))

pub bounds-polynomials-j : goal.bounds-polynomials-j
bounds-polynomials-j c = omega (arith, row_in_lem (goal.at.bounds-polynomials-j c).In-loop-left)

pub loop-left-smaller : goal.loop-left-smaller
loop-left-smaller c = let l = c in omega (arith, drop_lowest 64 l.loop-left.left l.loop-left.invariant.0 c.loop-left-test.true, pow_pos (count_trailing_zeros 64 l.loop-left.left))

pub loop-left-preserved : goal.loop-left-preserved
loop-left-preserved c = let l = c in (
  and_lt 64 l.loop-left.left _ l.loop-left.invariant.0 (omega arith),
  leaving_on _ _ _ _ _ l.loop-left.left (words l.loop-left.column l.loop-left.polynomial) l.loop-left.invariant.1 l.loop-left.invariant.0 c.loop-left-test.true,
)

pub returns : goal.returns
returns c = leaving_none _ _ _ _ _ (words _ _) (rw (← c.loop-left-test.false) c.loop-left.invariant.1)
