-- `correcting::put_corrected` meets its contract.
use mathlib.Core.Path.{◌≡◌, refl, sym, ap, ◌∙◌}
use mathlib.Core.List.{List, ◌++◌}
use Prim.Native.Nat.{ℕ, ◌+◌, ◌-◌}
use native.Mathlib.Omega.{arith}
use lib.ListN.{length, set, take, drop}
use Rattle.residue.specs.Vector.{add_scaled}
use Rattle.residue.specs.Layout.{fill}
use Rattle.residue.proofs.vector.Vectors.{add_scaled_length}
use Rattle.monomial.specs.Insert.{inserted_at}
use Rattle.growth.specs.Growing.{corrected_by}
use Rattle.growth.proofs.Writes.{put_corrected_lem}
use Rattle.growth.proofs.correcting.put_corrected.Goals as goal
use Rattle.growth.proofs.correcting.put_corrected.Goals.{After-slice_known-5-1, Start}

-- the sum is 64 residues
module _ (s : Start) (S : List ℕ) (e : S ≡ add_scaled s.args.p s.args.factor s.args.coefficients.now s.args.gone.now) where
  even : length s.args.coefficients.now ≡ length s.args.gone.now
  even = s.requires.gone_len.1 ∙ sym s.requires.gone_len.0

  long : length S ≡ 64
  long = ap length e ∙ add_scaled_length s.args.p s.args.factor s.args.coefficients.now s.args.gone.now even ∙ s.requires.gone_len.1

-- the row as it is left
module _ (c : After-slice_known-5-1) where
  abbrev start : Start
  start = (goal.at.After-slice_known-5-1 c).Start

  abbrev one : List ℕ
  one = c.copy.new.to

  abbrev two : List ℕ
  two = set one start.args.place start.args.factor

  abbrev ys : List ℕ
  ys = c.copy-2.new.to

  abbrev size : ℕ
  size = length two - (start.args.place + 1)

  whole : take (start.args.place + 1) two ++ (ys ++ drop size (drop (start.args.place + 1) two)) ≡ corrected_by start.args.p start.args.place start.args.factor start.args.gone.now start.args.coefficients.now
  unfolding corrected_by
  whole =
      let s = start in
      let S = c.add_scaled.new.dst in
      let e = c.add_scaled.ensures in
      put_corrected_lem s.args.place s.args.factor size S s.args.row.now one two ys (omega arith) (long s S e) s.requires.gone_len.2 refl
      c.copy.ensures refl c.copy-2.ensures
      ∙ ap (λ (z : List ℕ). fill 64 (inserted_at s.args.place s.args.factor z)) e

pub returns : goal.returns
returns c = record { coefficients_after = c.add_scaled.ensures; row_after = whole (goal.at.returns c).After-slice_known-5-1 }
