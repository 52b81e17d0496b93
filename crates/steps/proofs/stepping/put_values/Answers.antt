-- `stepping::put_values` meets its contract. The loop has multiplied by the powers of the first k coordinates.
use mathlib.Core.Path.{ap₂, subst, ◌≡◌, refl, sym, ap, ◌∙◌}
use mathlib.Core.List.{List}
use Prim.Native.Nat.{ℕ, ◌<◌}
use native.Mathlib.Omega.{arith}
use lib.ListN.{length}
use Rattle.residue.specs.Vector.{Below, pointwise}
use Rattle.residue.specs.Layout.{length_fill}
use Rattle.steps.specs.Stepping.{factors_of, values_at}
use Rattle.steps.proofs.stepping.StepLaws.{powers_below, values_long, values_below, values_none, values_more}
use Rattle.steps.proofs.stepping.put_values.Goals as goal
use Rattle.steps.proofs.stepping.put_values.Goals.{At-loop-k, Start}

abbrev start : At-loop-k → Start
start l = (goal.at.At-loop-k l).Start

long : (l : At-loop-k) → length l.loop-k.values ≡ length (start l).args.values.now
long l = let a = (start l).args in ap length l.loop-k.invariant.1 ∙ values_long a.p l.loop-k.k (length a.values.now) a.standard.now a.state.now

pub put_powers-requires : goal.put_powers-requires
put_powers-requires c = let s = c in record { le_p = (s.requires.le_p.0, s.requires.le_p.1, s.requires.le_p.3); state_len = (s.requires.state_len.0, s.requires.state_len.1, refl) }

pub loop-k-init : goal.loop-k-init
loop-k-init c = let s = c in
    (omega arith, s.requires.values_value ∙ values_none s.args.p (length s.args.values.now) s.args.standard.now s.args.state.now s.requires.le_p.0)

pub slice_bounds-multiply_variable-end : goal.slice_bounds-multiply_variable-end
slice_bounds-multiply_variable-end c = sym (ap length c.put_powers.ensures ∙ length_fill 2048 _)

pub multiply_variable-requires : goal.multiply_variable-requires
multiply_variable-requires c = let l = c in
    let s = start (goal.at.multiply_variable-requires l).At-loop-k in
    let a = s.args in
    let table = l.put_powers.ensures in
    let positive : 0 < a.p = omega (arith, s.requires.le_p) in record {
      le_p = (s.requires.le_p.0, s.requires.le_p.1, omega (arith, s.requires.le_p), ap length table ∙ length_fill 2048 _);
      values_in_bounds = (omega (arith, long (goal.at.multiply_variable-requires l).At-loop-k, s.requires.values_in_bounds, s.requires.by_index, s.requires.state_len, s.requires.values_value), omega (arith, long (goal.at.multiply_variable-requires l).At-loop-k, s.requires.values_in_bounds, s.requires.by_index, s.requires.state_len, s.requires.values_value));
      below = (
        powers_below a.p a.state.now a.exponents s.requires.le_p.3 _ table positive,
        subst (Below a.p) (sym l.loop-k.invariant.1) (values_below a.p l.loop-k.k (length a.values.now) a.standard.now a.state.now positive),
      );
    }

pub loop-k-preserved : goal.loop-k-preserved
loop-k-preserved c = let l = c in
    let s = start (goal.at.loop-k-preserved l).At-loop-k in
    let a = s.args in
    let n : ℕ = length a.values.now in
    let table = l.put_powers.ensures in
    let powers : List ℕ = l.put_powers.new.powers in (
      omega arith,
      c.multiply_variable.ensures
          ∙ ap₂ (λ (v : List ℕ) (k : ℕ). pointwise a.p v (factors_of l.loop-k.k k a.standard.now powers)) l.loop-k.invariant.1 (long (goal.at.loop-k-preserved l).At-loop-k)
          ∙ values_more a.p n l.loop-k.k a.standard.now a.state.now powers a.exponents s.requires.state_len.0 (omega (arith, s.requires.le_p)) s.requires.values_in_bounds.0 s.requires.le_p.3 s.requires.by_index table,
    )

pub shape_of-values : goal.shape_of-values
shape_of-values c = long (goal.at.shape_of-values c).At-loop-k

pub returns : goal.returns
returns c = let l = c in
    let a = (start (goal.at.returns l).At-loop-k).args in
    let e : l.loop-k.k ≡ a.m = omega arith in
    l.loop-k.invariant.1 ∙ ap (λ (k : ℕ). values_at a.p k (length a.values.now) a.standard.now a.state.now) e
