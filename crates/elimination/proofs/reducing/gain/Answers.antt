-- `reducing::gain` meets its contract: each entry before the width is as the definition has it, and those behind stay, to which 0 is added.
use Rattle.std.proofs.Common.{rules, arith, ◌≡◌, ◌∙◌, sym, ap, ap₂, ℕ, ◌+◌, ◌-◌, ◌%◌, ◌<◌, ◌≤◌, List, ◌++◌, length, get_or, take, drop, length-append, length-drop, get_or-drop}
use native.Mathlib.Decide.{dec_lt}
use lib.ListN.{get_or-append}
use lib.Seq.{length-take-le, get_or-take, get_or-append_right, ext_get_or}
use Rattle.residue.specs.Vector.{Below, add_scaled}
use Rattle.residue.proofs.vector.Vectors.{add_scaled_length}
use Rattle.elimination.proofs.reducing.Multiples.{added_at, added_none}
use Rattle.elimination.proofs.reducing.gain.Goals as goal

-- the front of the sum is made, and the row that is added is 0 behind it
module _ (p width : ℕ) (a b front : List ℕ) (same : length a ≡ length b) (room : width ≤ length a) (long : length front ≡ width) where
  gained : Below p a → ((i : ℕ) → width ≤ i → i < length a → get_or b i 0 ≡ 0)
      → ((i : ℕ) → i < width → get_or front i 0 ≡ (get_or (take width a) i 0 + get_or (take width b) i 0) % p) → front ++ drop width a ≡ add_scaled p 1 a b
  gained low zero made = ext_get_or 0 (front ++ drop width a) (add_scaled p 1 a b) (whole ∙ sym (add_scaled_length p 1 a b same)) (λ i h. at i (omega (arith, whole)) (dec_lt i width))
    where
      whole : length (front ++ drop width a) ≡ length a
      whole = omega (arith, length-append front (drop width a), length-drop width a)

      at : (i : ℕ) → i < length a → Dec (i < width) → get_or (front ++ drop width a) i 0 ≡ get_or (add_scaled p 1 a b) i 0
      at i h (yes k) =
          get_or-append front (drop width a) 0 i (omega arith) ∙ made i k
          ∙ ap₂ (λ (x y : ℕ). (x + y) % p) (get_or-take width a i 0 k) (get_or-take width b i 0 k) ∙ sym (added_at p a b same i h)
      at i h (no k) =
          let e : width + (i - length front) ≡ i = omega (arith, k) in
          get_or-append_right front (drop width a) i 0 (omega (arith, k)) ∙ get_or-drop width a (i - length front) 0 ∙ ap (λ (j : ℕ). get_or a j 0) e
          ∙ sym (added_none p a b same low i h (zero i (omega (arith, k)) h))

pub returns : goal.returns
returns c =
    let a = c.args in
    let r = c.requires in
    let same : length a.dst.now ≡ length a.row.now = omega arith in
    let room : a.width ≤ length a.dst.now = omega arith in
    let front = length-take-le a.width a.dst.now room in
    gained a.p a.width a.dst.now a.row.now c.each_with.new.dst same room (c.each_with.auto.dst ∙ front) r.below.0
    (λ i h k. r.zero_from i h (omega arith)) (λ i h. let f = c.each_with.ensures i (omega arith) in search rules)
