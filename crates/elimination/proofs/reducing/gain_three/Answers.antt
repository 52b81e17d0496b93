-- `reducing::gain_three` meets its contract. The loop has written the entries before i, each as the definition has it.
use mathlib.Core.Path.{◌≡◌, ap, ◌∙◌}
use mathlib.Core.List.{List}
use Prim.Native.Nat.{ℕ, ◌+◌, ◌%◌, ◌<◌, ◌≤◌}
use native.Mathlib.Omega.{arith}
use lib.ListN.{length, get_or}
use Rattle.residue.specs.Vector.{Below, add_scaled}
use Rattle.elimination.specs.Elimination.{ZeroFrom}
use Rattle.residue.proofs.vector.Filled.{filled_none, own, filled_more, filled_part}
use Rattle.residue.proofs.vector.Vectors.{add_scaled_length, add_scaled_below}
use Rattle.elimination.proofs.reducing.Multiples.{added_at, added_none}
use Rattle.elimination.proofs.reducing.gain_three.Invariants.{entry}
use Rattle.elimination.proofs.reducing.gain_three.Goals as goal
use Rattle.elimination.proofs.reducing.gain_three.Goals.{At-loop-i, Start}

-- rows of 128, added one after the other
module _ (p : ℕ) (z : 0 < p) (w a b c : List ℕ) (lw : length w ≡ 128) (la : length a ≡ 128) (lb : length b ≡ 128) (lc : length c ≡ 128) where
  abbrev first : List ℕ
  first = add_scaled p 1 w a

  abbrev second : List ℕ
  second = add_scaled p 1 first b

  first_long : length first ≡ 128
  first_long = add_scaled_length p 1 w a (omega arith) ∙ lw

  second_long : length second ≡ 128
  second_long = add_scaled_length p 1 first b (omega (arith, first_long)) ∙ first_long

  three_long : length (add_scaled p 1 second c) ≡ length w
  three_long = add_scaled_length p 1 second c (omega (arith, second_long)) ∙ omega (arith, second_long)

  three_at : (i : ℕ) → i < 128 → get_or (add_scaled p 1 second c) i 0 ≡ entry p w a b c i
  three_at i h =
      added_at p second c (omega (arith, second_long)) i (omega (arith, second_long))
      ∙ ap (λ (x : ℕ). (x + get_or c i 0) % p) (added_at p first b (omega (arith, first_long)) i (omega (arith, first_long)) ∙ ap (λ (x : ℕ). (x + get_or b i 0) % p) (added_at p w a (omega arith) i (omega arith)))

  three_none : (width : ℕ) → Below p w → ZeroFrom width a → ZeroFrom width b → ZeroFrom width c → (i : ℕ) → width ≤ i → i < 128 → get_or (add_scaled p 1 second c) i 0 ≡ get_or w i 0
  three_none width below ha hb hc i k h =
      added_none p second c (omega (arith, second_long)) (add_scaled_below p 1 first b (omega (arith, first_long)) z) i (omega (arith, second_long)) (hc i k h)
      ∙ added_none p first b (omega (arith, first_long)) (add_scaled_below p 1 w a (omega arith) z) i (omega (arith, first_long)) (hb i k h)
      ∙ added_none p w a (omega arith) below i (omega arith) (ha i k h)

-- at the loop's head
module _ (l : At-loop-i) where
  abbrev start : Start
  start = (goal.at.At-loop-i l).Start

  abbrev g : ℕ → ℕ
  g = entry start.args.p start.args.dst.now start.args.a.now start.args.b.now start.args.c.now

  here : get_or l.loop-i.dst l.loop-i.i 0 ≡ get_or start.args.dst.now l.loop-i.i 0
  here = own g l.loop-i.i start.args.dst.now l.loop-i.dst l.loop-i.invariant.1 0

pub loop-i-init : goal.loop-i-init
loop-i-init c = (omega arith, filled_none _ _)

pub add-requires : goal.add-requires
add-requires c = let l = c in
    let s = start (goal.at.add-requires l).At-loop-i in record { p_bound = s.requires.le_p.1; x_lt_p = (rw (here (goal.at.add-requires l).At-loop-i) (s.requires.below.0 l.loop-i.i (omega arith)), s.requires.below.1 l.loop-i.i (omega arith)) }

pub loop-i-preserved : goal.loop-i-preserved
loop-i-preserved c = let l = c in
    let a = (start (goal.at.loop-i-preserved l).At-loop-i).args in
    let i : ℕ = l.loop-i.i in
    let one = c.add.ensures ∙ ap (λ (d : ℕ). (d + get_or a.a.now i 0) % a.p) (here (goal.at.loop-i-preserved l).At-loop-i) in
    let two = c.add-in-loop-i.ensures ∙ ap (λ (d : ℕ). (d + get_or a.b.now i 0) % a.p) one in
    (omega arith, filled_more (g (goal.at.loop-i-preserved l).At-loop-i) i a.dst.now l.loop-i.dst l.loop-i.invariant.1 c.add-in-loop-i-2.result (omega arith) (c.add-in-loop-i-2.ensures ∙ ap (λ (d : ℕ). (d + get_or a.c.now i 0) % a.p) two))

pub returns : goal.returns
returns c = let l = c in
    let s = start (goal.at.returns l).At-loop-i in
    let a = s.args in
    let n = s.requires.width_le_work_size in
    l.loop-i.invariant.1
    ∙ filled_part (g (goal.at.returns l).At-loop-i) l.loop-i.i _ a.dst.now 0 (three_long a.p (omega arith) a.dst.now a.a.now a.b.now a.c.now n.1 n.2 n.3 n.4)
    (λ i h k. three_at a.p (omega arith) a.dst.now a.a.now a.b.now a.c.now n.1 n.2 n.3 n.4 i (omega arith))
    (λ i h k. three_none a.p (omega arith) a.dst.now a.a.now a.b.now a.c.now n.1 n.2 n.3 n.4 a.width s.requires.below.0
    s.requires.zero_from.0 s.requires.zero_from.1 s.requires.zero_from.2 i (omega arith) (omega arith))
