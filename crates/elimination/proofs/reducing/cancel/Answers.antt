-- `reducing::cancel` meets its contract.
use mathlib.Core.Path.{◌≡◌, sym, ap, ap₂, subst, ◌∙◌}
use mathlib.Core.List.{List}
use Prim.Native.Nat.{ℕ, suc, ◌+◌, ◌*◌, ◌-◌, ◌/◌, ◌%◌, ◌<◌, ◌≤◌}
use native.Mathlib.Omega.{arith}
use lib.ListN.{length, get_or, take, drop}
use lib.Seq.{length-take-le}
use lib.Bits.{bit_and, and_mask}
use lib.Dec.{eqb}
use mathlib.Core.Bool.{cond}
use Rattle.residue.specs.Vector.{Below, add_scaled, scaled}
use Rattle.elimination.specs.Elimination.{ZeroFrom}
use Rattle.residue.proofs.vector.Vectors.{scaled_length, scaled_below}
use Rattle.elimination.proofs.reducing.Multiples.{small_row, digit_row, Digits, ones, fours, sixteens, scaled_zero, added_scaled, added_more}
use Rattle.elimination.proofs.reducing.Eliminated.{cancel_none, cancel_some, counted_none, counted_one}
use Rattle.elimination.proofs.reducing.cancel.Goals as goal
use Rattle.elimination.proofs.reducing.cancel.Goals.{After-multiple-high, After-multiple-low, After-multiple-middle, Start}

-- the digits of a factor
low_digit : (c : ℕ) → bit_and c 3 ≡ c % 4
low_digit c = and_mask c 2

middle_digit : (c : ℕ) → bit_and (c / 4) 3 ≡ c / 4 % 4
middle_digit c = and_mask (c / 4) 2

-- at the start
module _ (s : Start) where
  abbrev row : List ℕ
  row = take 128 s.args.block.now

  row_long : length row ≡ 128
  row_long = length-take-le 128 s.args.block.now (omega arith)

  pos : 0 < s.args.p
  pos = omega arith

  abbrev factor : ℕ
  factor = s.args.p - get_or s.args.work.now s.args.at 0

  entry : get_or s.args.work.now s.args.at 0 < s.args.p
  entry = s.requires.block_len.2 s.args.at (omega arith)

  -- where the factor is the number of a multiple
  single : (k : ℕ) → k < 4 → (n : ℕ) → n ≡ 128 → take n (drop (128 * k) s.args.block.now) ≡ scaled s.args.p (suc k) row
  single k h n e =
      ap (λ (m : ℕ). take m (drop (128 * k) s.args.block.now)) e
      ∙ small_row s.args.p row row_long pos s.args.block.now s.args.zeros.now s.requires.zeros_value.1 s.requires.zeros_value.0 k h

  -- what a digit names
  named : {new : List ℕ} (digit first unit : ℕ) → digit ≤ 3 → first ≤ 6 → Digits first unit
      → new ≡ cond (eqb digit 0) s.args.zeros.now (take 128 (drop (128 * (first + digit - 1)) s.args.block.now)) → new ≡ scaled s.args.p (digit * unit) row
  named digit first unit h f rule e =
      e ∙ digit_row s.args.p row row_long pos s.args.block.now s.args.zeros.now s.requires.zeros_value.1 s.requires.zeros_value.0 digit first unit h f rule

  -- a row of this form can be added
  module _ (c : ℕ) {new : List ℕ} (is : new ≡ scaled s.args.p c row) where
    long : length new ≡ 128
    long = ap length is ∙ scaled_length s.args.p c row ∙ row_long

    below : Below s.args.p new
    below = subst (Below s.args.p) (sym is) (scaled_below s.args.p c row pos)

    zeroed : ZeroFrom s.args.width new
    zeroed = subst (ZeroFrom s.args.width) (sym is) (scaled_zero s.args.p c s.args.width row pos row_long s.requires.zeros_value.2)

-- the three rows that the digits name
low : (c : After-multiple-low) → c.multiple-low.result.now ≡ scaled c.args.p (bit_and (factor (goal.at.After-multiple-low c).Start) 3 * 1) (row (goal.at.After-multiple-low c).Start)
low c = let s = c in named (goal.at.After-multiple-low s).Start (bit_and (factor (goal.at.After-multiple-low s).Start) 3) 0 1 (omega (arith, low_digit (factor (goal.at.After-multiple-low s).Start))) (omega arith) ones c.multiple-low.ensures

middle : (c : After-multiple-middle) → c.multiple-middle.result.now ≡ scaled c.args.p (bit_and (factor (goal.at.After-multiple-middle c).Start / 4) 3 * 4) (row (goal.at.After-multiple-middle c).Start)
middle c = let s = c in named (goal.at.After-multiple-middle s).Start (bit_and (factor (goal.at.After-multiple-middle s).Start / 4) 3) 3 4 (omega (arith, middle_digit (factor (goal.at.After-multiple-middle s).Start))) (omega arith) fours c.multiple-middle.ensures

high : (c : After-multiple-high) → c.multiple-high.result.now ≡ scaled c.args.p (factor (goal.at.After-multiple-high c).Start / 16 * 16) (row (goal.at.After-multiple-high c).Start)
high c = let s = c in named (goal.at.After-multiple-high s).Start (factor (goal.at.After-multiple-high s).Start / 16) 6 16 (omega arith) (omega arith) sixteens c.multiple-high.ensures

pub returns-then-x-eq0 : goal.returns-then-x-eq0
returns-then-x-eq0 c = let s = c in record { work_after = sym (cancel_none s.args.p (row (goal.at.returns-then-x-eq0 s).Start) s.args.at s.args.work.now c.if-x-eq0.true); value = counted_none c.if-x-eq0.true }

pub gain-requires : goal.gain-requires
gain-requires c = let s = c in
    let is = single (goal.at.gain-requires s).Start (factor (goal.at.gain-requires s).Start - 1) (omega (arith, entry (goal.at.gain-requires s).Start)) (128 * (factor (goal.at.gain-requires s).Start - 1) + 128 - 128 * (factor (goal.at.gain-requires s).Start - 1)) (omega arith) in record { le_p = (s.requires.le_p.0, s.requires.le_p.1); width_le_work_size = (s.requires.le_p.2, s.requires.block_len.1, long (goal.at.gain-requires s).Start _ is); below = (s.requires.block_len.2, below (goal.at.gain-requires s).Start _ is); zero_from = zeroed (goal.at.gain-requires s).Start _ is }

pub returns-then-p-le5 : goal.returns-then-p-le5
returns-then-p-le5 c = let g = c in
    let s = c in
    let is = single (goal.at.returns-then-p-le5 s).Start (factor (goal.at.returns-then-p-le5 s).Start - 1) (omega (arith, entry (goal.at.returns-then-p-le5 s).Start)) (128 * (factor (goal.at.returns-then-p-le5 s).Start - 1) + 128 - 128 * (factor (goal.at.returns-then-p-le5 s).Start - 1)) (omega arith) in
    let e : suc (factor (goal.at.returns-then-p-le5 s).Start - 1) ≡ factor (goal.at.returns-then-p-le5 s).Start = omega (arith, entry (goal.at.returns-then-p-le5 s).Start) in
    let some = c.if-x-eq0.false in record {
      work_after = g.gain.ensures ∙ ap (add_scaled s.args.p 1 s.args.work.now) is ∙ added_scaled s.args.p (suc (factor (goal.at.returns-then-p-le5 s).Start - 1)) s.args.work.now (row (goal.at.returns-then-p-le5 s).Start)
          ∙ ap (λ (k : ℕ). add_scaled s.args.p k s.args.work.now (row (goal.at.returns-then-p-le5 s).Start)) e ∙ sym (cancel_some s.args.p (row (goal.at.returns-then-p-le5 s).Start) s.args.at s.args.work.now some);
      value = counted_one some;
    }

pub gain_three-requires : goal.gain_three-requires
gain_three-requires c = let s = c in
    let a = low (goal.at.gain_three-requires c).After-multiple-low in
    let b = middle (goal.at.gain_three-requires c).After-multiple-middle in
    let d = high (goal.at.gain_three-requires c).After-multiple-high in record { le_p = (s.requires.le_p.0, s.requires.le_p.1); width_le_work_size = (s.requires.le_p.2, s.requires.block_len.1, long (goal.at.gain_three-requires s).Start _ a, long (goal.at.gain_three-requires s).Start _ b, long (goal.at.gain_three-requires s).Start _ d); below = (s.requires.block_len.2, below (goal.at.gain_three-requires s).Start _ a, below (goal.at.gain_three-requires s).Start _ b, below (goal.at.gain_three-requires s).Start _ d); zero_from = (zeroed (goal.at.gain_three-requires s).Start _ a, zeroed (goal.at.gain_three-requires s).Start _ b, zeroed (goal.at.gain_three-requires s).Start _ d) }

pub returns : goal.returns
returns c = let g = c in
    let s = c in
    let p : ℕ = s.args.p in
    let w : List ℕ = s.args.work.now in
    let c0 : ℕ = bit_and (factor (goal.at.returns s).Start) 3 * 1 in
    let c1 : ℕ = bit_and (factor (goal.at.returns s).Start / 4) 3 * 4 in
    let c2 : ℕ = factor (goal.at.returns s).Start / 16 * 16 in
    let e : c0 + c1 + c2 ≡ factor (goal.at.returns s).Start = omega (arith, low_digit (factor (goal.at.returns s).Start), middle_digit (factor (goal.at.returns s).Start)) in
    let some = c.if-x-eq0.false in record {
      work_after = g.gain_three.ensures
          ∙ ap₂ (λ (u v : List ℕ). add_scaled p 1 u v)
          (ap₂ (λ (u v : List ℕ). add_scaled p 1 u v) (ap (add_scaled p 1 w) (low (goal.at.returns c).After-multiple-low) ∙ added_scaled p c0 w (row (goal.at.returns s).Start)) (middle (goal.at.returns c).After-multiple-middle) ∙ added_more p c0 c1 w (row (goal.at.returns s).Start))
          (high (goal.at.returns c).After-multiple-high)
          ∙ added_more p (c0 + c1) c2 w (row (goal.at.returns s).Start) ∙ ap (λ (k : ℕ). add_scaled p k w (row (goal.at.returns s).Start)) e
          ∙ sym (cancel_some p (row (goal.at.returns s).Start) s.args.at w some);
      value = counted_one some;
    }
