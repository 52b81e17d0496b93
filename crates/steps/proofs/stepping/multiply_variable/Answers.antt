-- `stepping::multiply_variable` meets its contract.
use mathlib.Core.Path.{subst, ◌≡◌, sym, ap, ◌∙◌}
use mathlib.Core.List.{List}
use Prim.Native.Nat.{ℕ}
use native.Mathlib.Omega.{arith}
use lib.ListN.{take, replicate, length}
use Rattle.residue.specs.Vector.{Below, pointwise}
use Rattle.residue.specs.Layout.{over}
use Rattle.interpolation.proofs.Interpolants.{front_of}
use Rattle.steps.specs.Stepping.{factors_of}
use Rattle.steps.proofs.stepping.StepLaws.{factors_long, factors_below}
use Rattle.steps.proofs.stepping.multiply_variable.Goals as goal
use Rattle.steps.proofs.stepping.multiply_variable.Goals.{Start}

-- the factors at the front of the local table
front : (s : Start) (found : List ℕ)
    → found ≡ over (factors_of s.args.k (length s.args.values.now) s.args.standard.now s.args.powers.now) (replicate 64 0)
    → take (length s.args.values.now) found ≡ factors_of s.args.k (length s.args.values.now) s.args.standard.now s.args.powers.now
front s found e = let a = s.args in let n : ℕ = length a.values.now in
    front_of (factors_of a.k n a.standard.now a.powers.now) found 64 n e (factors_long a.p n a.k a.standard.now a.values.now a.powers.now)

pub slice_bounds-multiply-end : goal.slice_bounds-multiply-end
slice_bounds-multiply-end c = let s = c in
    sym (ap length (front (goal.at.slice_bounds-multiply-end s).Start _ c.put_factors.ensures) ∙ factors_long s.args.p (length s.args.values.now) s.args.k s.args.standard.now s.args.values.now s.args.powers.now)

pub multiply-requires : goal.multiply-requires
multiply-requires c = let s = c in
    let f = front (goal.at.multiply-requires s).Start _ c.put_factors.ensures in
    let n : ℕ = length s.args.values.now in
    let long = factors_long s.args.p n s.args.k s.args.standard.now s.args.values.now s.args.powers.now in record {
      le_p = (s.requires.le_p.0, s.requires.le_p.1);
      dst_len = sym (ap length f ∙ long);
      below = s.requires.below.1;
      below_2 = subst (Below s.args.p) (sym f)
          (factors_below s.args.p n s.args.k s.args.standard.now s.args.values.now s.args.powers.now s.requires.le_p.2 (omega (arith, s.requires.le_p)) s.requires.below.0);
    }

pub returns : goal.returns
returns c = let s = c in
    c.multiply.ensures ∙ ap (pointwise s.args.p s.args.values.now) (front (goal.at.returns s).Start _ c.put_factors.ensures)
