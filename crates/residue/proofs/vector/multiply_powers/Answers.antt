-- `vector::multiply_powers` meets its contract. At each place the product so far, times what is left of the power of the square, is the whole.
use mathlib.Core.Path.{◌≡◌, refl, sym, ap, subst, ◌∙◌}
use mathlib.Core.Logic.{⊎_elim}
use mathlib.Core.List.{List}
use Prim.Native.Nat.{ℕ, ◌*◌, ◌/◌, ◌%◌, ◌<◌}
use native.Mathlib.Omega.{arith}
use lib.ListN.{length, get_or}
use lib.Seq.{ext_get_or}
use Rattle.residue.specs.Vector.{Below, pointwise, squares_left}
use Rattle.residue.proofs.arithmetic.Reduction.{kept}
use Rattle.residue.proofs.arithmetic.Powers.{even, odd, whole}
use Rattle.residue.proofs.vector.Vectors.{pointwise_length, pointwise_at, pointwise_below, powered_length, powered_at, squares_turn, squares_none}
use Rattle.residue.proofs.vector.multiply_powers.Invariants.{Left}
use Rattle.residue.proofs.vector.multiply_powers.Goals as goal

-- a turn, at an odd and at an even exponent
module _ (p e : ℕ) (dst₀ base₀ dst base base' : List ℕ) (left : ℕ) (z : 0 < p) (h : Left p e dst₀ base₀ dst base left) (squared : base' ≡ pointwise p base base) where
  base_long : length base' ≡ length dst₀
  base_long = ap length squared ∙ pointwise_length p base base refl ∙ h.1

  base_below : Below p base'
  base_below = subst (Below p) (sym squared) (pointwise_below p base base refl z)

  base_at : (i : ℕ) → i < length dst₀ → get_or base' i 0 ≡ (get_or base i 0 * get_or base i 0) % p
  base_at i l = ap (λ (r : List ℕ). get_or r i 0) squared ∙ pointwise_at p base base refl i (omega (arith, h.1))

  left_over : 0 < left → squares_left p (left / 2) base' ≡ squares_left p e base₀
  left_over some = ap (squares_left p (left / 2)) squared ∙ sym (squares_turn p left base some) ∙ h.5

  odd_turn : (dst' : List ℕ) → left % 2 ≡ 1 → dst' ≡ pointwise p dst base → Left p e dst₀ base₀ dst' base' (left / 2)
  odd_turn dst' o m =
      let same = h.0 ∙ sym h.1 in (
        ap length m ∙ pointwise_length p dst base same ∙ h.0,
        base_long,
        subst (Below p) (sym m) (pointwise_below p dst base same z),
        base_below,
        λ i l. odd (get_or dst i 0) (get_or base i 0) left (h.4 i l) (base_at i l) o (ap (λ (r : List ℕ). get_or r i 0) m ∙ pointwise_at p dst base same i (omega (arith, h.0))),
        left_over (omega arith),
      )

  even_turn : 0 < left → (dst' : List ℕ) → (left % 2 ≡ 1 → ⊥) → dst' ≡ dst → Left p e dst₀ base₀ dst' base' (left / 2)
  even_turn some dst' o m = (
    ap length m ∙ h.0,
    base_long,
    subst (Below p) (sym m) h.2,
    base_below,
    λ i l. even (get_or dst i 0) (get_or base i 0) left (h.4 i l) (base_at i l) o (ap (λ (r : List ℕ). get_or r i 0) m),
    left_over some,
  )

pub loop-left-preserved : goal.loop-left-preserved
loop-left-preserved c = let l = c in
    let s = l in
    let z : 0 < s.args.p = omega arith in
    let q = c.square.ensures in
    ⊎_elim
    (λ w. odd_turn s.args.p s.args.e s.args.dst.now s.args.base.now l.loop-left.dst l.loop-left.base _ l.loop-left.left z l.loop-left.invariant q _ w.if-left-eq1.true (w.dst-is ∙ w.multiply.ensures))
    (λ w. even_turn s.args.p s.args.e s.args.dst.now s.args.base.now l.loop-left.dst l.loop-left.base _ l.loop-left.left z l.loop-left.invariant q (omega arith) _ w.if-left-eq1.false w.dst-is)
    c.if-left-eq1.branch-raw

pub returns : goal.returns
returns c = let l = c in
    let s = l in
    let same = s.requires.dst_len in
    let e : l.loop-left.left ≡ 0 = omega arith in record {
      dst_after = ext_get_or 0 l.loop-left.dst _ (l.loop-left.invariant.0 ∙ sym (powered_length s.args.p s.args.e s.args.dst.now s.args.base.now same))
          (λ i h. let k : i < length s.args.dst.now = omega (arith, l.loop-left.invariant.0) in
          kept _ _ (l.loop-left.invariant.2 i h) ∙ whole (get_or l.loop-left.dst i 0) (get_or l.loop-left.base i 0) l.loop-left.left e (l.loop-left.invariant.4 i k)
          ∙ sym (powered_at s.args.p s.args.e s.args.dst.now s.args.base.now same i k));
      base_after = squares_none s.args.p l.loop-left.left l.loop-left.base e ∙ l.loop-left.invariant.5;
    }
