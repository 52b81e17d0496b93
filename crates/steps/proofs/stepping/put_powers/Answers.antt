-- `stepping::put_powers` meets its contract. The loop has written the powers with exponents below e, and holds the e-th.
use mathlib.Core.Path.{ap₂, subst, ◌≡◌, sym, ap, ◌∙◌}
use mathlib.Core.List.{List}
use Prim.Native.Nat.{◌^◌, ◌<◌, ℕ, ◌+◌, ◌*◌, ◌-◌}
use native.Mathlib.Omega.{arith}
use lib.ListN.{take, drop, length-map, length}
use lib.Seq.{length-take-le}
use Rattle.residue.specs.Vector.{Below, pointwise}
use Rattle.residue.specs.Layout.{over, fill, in_places, length_fill}
use Rattle.residue.proofs.Layouts.{below_fill}
use Rattle.residue.proofs.Places.{over_zeros}
use Rattle.residue.proofs.Replaced.{part_long, zeros_long}
use Rattle.steps.specs.Stepping.{powers_of}
use Rattle.steps.proofs.stepping.StepLaws.{remainders_low, raised_none, raised_more, raised_front, powers_none, powers_more}
use Rattle.steps.proofs.stepping.put_powers.Goals as goal
use Rattle.steps.proofs.stepping.put_powers.Goals.{At-loop-e, Start}

abbrev start : At-loop-e → Start
start l = (goal.at.At-loop-e l).Start

long : (l : At-loop-e) → length l.loop-e.powers ≡ 2048
long l = ap length l.loop-e.invariant.1 ∙ length_fill 2048 _

power_long : (l : At-loop-e) → length l.loop-e.power ≡ 16
power_long l = ap length l.loop-e.invariant.2 ∙ length-map (fill 16 (start l).args.state.now) _ ∙ length_fill 16 _

base_is : (l : At-loop-e) → l.copy.new.to ≡ fill 16 (start l).args.state.now
base_is l = l.copy.ensures ∙ over_zeros (start l).args.state.now 16 (omega arith)

row_long : (l : At-loop-e) → l.loop-e.e < (start l).args.exponents
    → length (take (8 * l.loop-e.e + 8 - 8 * l.loop-e.e) (drop (8 * l.loop-e.e) l.loop-e.powers)) ≡ 8
row_long l h = part_long (8 * l.loop-e.e) (8 * l.loop-e.e + 8 - 8 * l.loop-e.e) 8 l.loop-e.powers (omega arith) (omega (arith, long l))

pub loop-e-init : goal.loop-e-init
loop-e-init c = let s = c in
    let z = length_fill 16 s.args.state.now in
    (omega arith, s.requires.state_len.2 ∙ powers_none s.args.p s.args.state.now, raised_none s.args.p 16 (fill 16 s.args.state.now) (omega arith) z)

pub slice_bounds-power-end : goal.slice_bounds-power-end
slice_bounds-power-end c = omega (arith, power_long (goal.at.slice_bounds-power-end c).At-loop-e)

pub slice_bounds-copy-end-in-loop-e : goal.slice_bounds-copy-end-in-loop-e
slice_bounds-copy-end-in-loop-e c = sym (length-take-le 8 c.loop-e.power (omega (arith, power_long (goal.at.slice_bounds-copy-end-in-loop-e c).At-loop-e)))

pub slice_bounds-copy-end-in-loop-e-2 : goal.slice_bounds-copy-end-in-loop-e-2
slice_bounds-copy-end-in-loop-e-2 c = omega (arith, long (goal.at.slice_bounds-copy-end-in-loop-e-2 c).At-loop-e)

pub copy-requires-in-loop-e : goal.copy-requires-in-loop-e
copy-requires-in-loop-e c = let l = c in
    omega (arith, row_long (goal.at.copy-requires-in-loop-e l).At-loop-e (omega arith), length-take-le 8 l.loop-e.power (omega (arith, power_long (goal.at.copy-requires-in-loop-e l).At-loop-e)))

pub slice_bounds-multiply-end : goal.slice_bounds-multiply-end
slice_bounds-multiply-end c = sym (power_long (goal.at.slice_bounds-multiply-end c).At-loop-e)

pub slice_bounds-multiply-end-in-loop-e : goal.slice_bounds-multiply-end-in-loop-e
slice_bounds-multiply-end-in-loop-e c = let l = c in sym (ap length (base_is (goal.at.slice_bounds-multiply-end-in-loop-e l).At-loop-e) ∙ length_fill 16 _)

pub multiply-requires : goal.multiply-requires
multiply-requires c = let l = c in
    let s = start (goal.at.multiply-requires l).At-loop-e in
    let P = s.args.state.now in
    let positive : 0 < s.args.p = omega arith in record { le_p = (omega arith, omega arith); dst_len = power_long (goal.at.multiply-requires l).At-loop-e ∙ sym (ap length (base_is (goal.at.multiply-requires l).At-loop-e) ∙ length_fill 16 P); below = subst (Below s.args.p) (sym l.loop-e.invariant.2) (remainders_low s.args.p (λ x. x ^ l.loop-e.e) (fill 16 P) positive); below_2 = subst (Below s.args.p) (sym (base_is (goal.at.multiply-requires l).At-loop-e)) (below_fill s.args.p 16 P positive s.requires.state_len.1) }

pub loop-e-preserved : goal.loop-e-preserved
loop-e-preserved c = let called = c in
    let l = called in
    let s = start (goal.at.loop-e-preserved l).At-loop-e in
    let P = s.args.state.now in
    let e : ℕ = l.loop-e.e in (
      omega arith,
      powers_more s.args.p P e (8 * e + 8 - 8 * e) l.loop-e.powers _ s.requires.state_len.0 (omega arith) l.loop-e.invariant.1 (omega arith)
          (called.copy-in-loop-e.ensures ∙ ap (λ (r : List ℕ). over r (take (8 * e + 8 - 8 * e) (drop (8 * e) l.loop-e.powers))) (ap (take 8) l.loop-e.invariant.2 ∙ raised_front s.args.p e P s.requires.state_len.0)),
      c.multiply.ensures ∙ ap₂ (pointwise s.args.p) l.loop-e.invariant.2 (base_is (goal.at.loop-e-preserved l).At-loop-e) ∙ raised_more s.args.p e (fill 16 P),
    )

pub shape_of-powers : goal.shape_of-powers
shape_of-powers c = long (goal.at.shape_of-powers c).At-loop-e ∙ sym (zeros_long _ 2048 (start (goal.at.shape_of-powers c).At-loop-e).requires.state_len.2)

pub returns : goal.returns
returns c = let l = c in
    let s = start (goal.at.returns l).At-loop-e in
    let d : l.loop-e.e ≡ s.args.exponents = omega arith in
    l.loop-e.invariant.1 ∙ ap (λ (k : ℕ). fill 2048 (in_places 8 (powers_of s.args.p s.args.state.now k))) d
