-- `pivots::examine` meets its contract.
use mathlib.Core.Path.{ap, ◌∙◌}
use Prim.Native.Nat.{◌+◌, ◌*◌, ◌/◌, ◌<◌}
use native.Mathlib.Omega.{arith}
use lib.Count.{count_trailing_zeros, trailing_le}
use Rattle.words.specs.Packed.{Words, words}
use Rattle.residue.proofs.BitLaws.{shift_one}
use Rattle.words.proofs.Orthogonal.{lowest_lt}
use Rattle.words.proofs.ExamineLaws.{kept_rows, left_is, examined_lead, examined_pivot}
use Rattle.words.proofs.pivots.examine.Goals as goal
use Rattle.words.proofs.pivots.examine.Goals.{Else-left-eq0}

pub rest_at-left-requires : goal.rest_at-left-requires
rest_at-left-requires c = let a = c in kept_rows _ _ _ _ _ a.requires.some_kept.0 a.requires.some_kept.1 a.requires.k_bound a.requires.pivots_long

pub returns-then-left-eq0 : goal.returns-then-left-eq0
returns-then-left-eq0 c = examined_lead _ _ _ _ _ _ (words _ _) c.rest_at-left.ensures c.if-left-eq0.true

-- a pivot more has its room
room : (c : Else-left-eq0) → c.args.k < 64
room c =
    let a = c in
    a.requires.some_kept.2 (λ z. c.if-left-eq0.false (ap (λ (w : Words). w.column) (left_is _ _ _ _ _ a.requires.some_kept.0 a.requires.some_kept.1 _ (words _ _) c.rest_at-left.ensures) ∙ z))

pub overflow_cast-place : goal.overflow_cast-place
overflow_cast-place c = record { fits = omega (arith, trailing_le 64 c.rest_at-left.result.column) }

pub overflow_shl-polynomial : goal.overflow_shl-polynomial
overflow_shl-polynomial c = room (goal.at.overflow_shl-polynomial c).Else-left-eq0

pub clear_all-requires : goal.clear_all-requires
clear_all-requires c = let r = c in record { place_bound = lowest_lt 64 r.rest_at-left.result.column c.rest_at-left.type_inv.1.1.0.1 c.if-left-eq0.false; k_in_bounds = omega (arith, room (goal.at.clear_all-requires c).Else-left-eq0); k_in_bounds_2 = omega (arith, room (goal.at.clear_all-requires c).Else-left-eq0) }

-- the new pivot's place is one of a word
place_in : (c : Else-left-eq0)
    → count_trailing_zeros 64 c.rest_at-left.result.column < 64
place_in c = lowest_lt 64 c.rest_at-left.result.column c.rest_at-left.type_inv.1.1.0.1 c.if-left-eq0.false

pub bounds-rows-place : goal.bounds-rows-place
bounds-rows-place c = omega (arith, place_in (goal.at.bounds-rows-place c).Else-left-eq0, c.requires.pivots_long.0)

pub bounds-columns-k : goal.bounds-columns-k
bounds-columns-k c = omega (arith, room (goal.at.bounds-columns-k c).Else-left-eq0, c.clear_all.ensures.long_columns, c.requires.pivots_long.1.0)

pub bounds-polynomials-k : goal.bounds-polynomials-k
bounds-polynomials-k c = omega (arith, room (goal.at.bounds-polynomials-k c).Else-left-eq0, c.clear_all.ensures.long_polynomials, c.requires.pivots_long.1.1)

pub overflow_shl-mark : goal.overflow_shl-mark
overflow_shl-mark c = place_in (goal.at.overflow_shl-mark c).Else-left-eq0

pub returns : goal.returns
returns c = let a = c in
    let r = c in
    examined_pivot _ _ _ _ _ _ (words r.rest_at-left.result.column r.rest_at-left.result.polynomial) r.rest_at-left.ensures c.if-left-eq0.false c.rest_at-left.type_inv.1.1.0.1
    _ _ (shift_one _ (room (goal.at.returns c).Else-left-eq0)) (shift_one _ (place_in (goal.at.returns c).Else-left-eq0)) _ _
    ((a.args.k + 1) / 2 * 2) (omega arith) c.clear_all.ensures (room (goal.at.returns c).Else-left-eq0) a.requires.pivots_long
