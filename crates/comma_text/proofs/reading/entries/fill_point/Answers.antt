-- `entries::fill_point` meets its contract. The first j residues are written and spelled by the key; the levels behind them are to be read from `from` on.
use Prim.Native.Nat.{◌*◌, ◌^◌, ◌<◌}
use native.Mathlib.Omega.{arith}
use Rattle.residue.proofs.bytes.Keys.{digits_fit}
use Rattle.comma_text.proofs.reading.entries.EntryFilled.{start, level_there, step, point_done}
use Rattle.comma_text.proofs.reading.entries.fill_point.Goals as goal
use Rattle.comma_text.proofs.reading.entries.fill_point.Goals.{After-residue_at-level, After-unwrap_or-residue, At-loop-j, Start}

-- The places: what is given before the loop, and the loop before a level that was read in it.
abbrev given : At-loop-j → Start
given l = (goal.at.At-loop-j l).Start

abbrev turn : After-residue_at-level → At-loop-j
turn r = (goal.at.After-residue_at-level r).At-loop-j

-- the key has room for one digit more, and the residue is one
key_small : (r : After-residue_at-level) → (turn r).loop-j.key < 2 ^ (8 * 7)
key_small r = digits_fit 7 (omega (arith, r.loop-j-test.true, (given (turn r)).requires.at_in_bounds.3)) (turn r).loop-j.invariant.small

byte : (c : After-unwrap_or-residue) → c.unwrap_or-residue.result < 256
byte c = omega arith

pub loop-j-init : goal.loop-j-init
loop-j-init c = start _ _ _ _ _ c.requires.at_in_bounds.0 c.requires.fact

pub residue_at-level-requires : goal.residue_at-level-requires
residue_at-level-requires c = record { at_in_bounds = (c.loop-j.invariant.within, (given (goal.at.residue_at-level-requires c).At-loop-j).requires.at_in_bounds.4); fact = level_there _ _ _ _ _ _ _ _ _ _ c.loop-j.invariant c.loop-j-test.true }

pub overflow_mul-key : goal.overflow_mul-key
overflow_mul-key c = omega (arith, key_small (goal.at.overflow_mul-key c).After-residue_at-level)

pub overflow_add-key : goal.overflow_add-key
overflow_add-key c = omega (arith, key_small (goal.at.overflow_add-key c).After-residue_at-level, byte (goal.at.overflow_add-key c).After-unwrap_or-residue, c.from.ensures)

pub loop-j-preserved : goal.loop-j-preserved
loop-j-preserved c = let r = (goal.at.loop-j-preserved c).After-residue_at-level in
    let l = turn r in
    rw c.from.ensures (step _ _ _ _ _ _ _ _ _ _ l.loop-j.invariant r.residue_at-level.result r.residue_at-level.ensures c.is_some-inside.result c.is_some-inside.ensures
    c.unwrap_or-residue.result c.unwrap_or-residue.ensures c.loop-j-test.true (given l).requires.at_in_bounds.1 (byte (goal.at.loop-j-preserved c).After-unwrap_or-residue))

pub returns : goal.returns
returns c = let whole = point_done _ _ _ _ _ _ _ _ _ _ c.loop-j.invariant c.loop-j-test.false (given (goal.at.returns c).At-loop-j).requires.at_in_bounds.3 in record { fact_1 = whole.0; fact_2 = whole.1 }
