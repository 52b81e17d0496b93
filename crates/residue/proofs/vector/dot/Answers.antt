-- `vector::dot` meets its contract. The sum so far is that of the products before the index.
use mathlib.Core.Path.{◌≡◌, sym, ap, ap₂, subst, ◌∙◌}
use mathlib.Core.List.{List, ◌++◌}
use Prim.Native.Nat.{ℕ, ◌+◌, ◌*◌, ◌%◌, ◌<◌}
use native.Mathlib.Nat.{mod-lt}
use native.Mathlib.Omega.{arith}
use lib.ListN.{length, get_or, take, replicate, length-take, get_or-append}
use lib.Seq.{get_or-take}
use Rattle.residue.specs.Vector.{Below, pointwise, dot_of}
use Rattle.residue.specs.Layout.{over}
use Rattle.residue.proofs.Congruence.{reduce, ◌plus◌}
use Rattle.residue.proofs.Layouts.{take_over}
use Rattle.residue.proofs.arithmetic.Reduction.{kept}
use Rattle.residue.proofs.vector.Vectors.{dot_more, pointwise_length, pointwise_at}
use Rattle.residue.proofs.vector.dot.Goals as goal

-- the front of the products is a when they are made
front : (a l : List ℕ) → l ≡ over a (replicate 256 0) → take (length a) l ≡ a
front a l e = ap (take (length a)) e ∙ take_over a (replicate 256 0)

-- each product, in front of what else stands there
item : (p : ℕ) (a b l made t : List ℕ) → length a ≡ length b → l ≡ over a (replicate 256 0) → made ≡ pointwise p (take (length a) l) b
    → (i : ℕ) → i < length a → get_or (take (length a) (made ++ t)) i 0 ≡ (get_or a i 0 * get_or b i 0) % p
item p a b l made t same e m i h =
    let f : made ≡ pointwise p a b = m ∙ ap (λ (k : List ℕ). pointwise p k b) (front a l e) in
    let n : length made ≡ length a = ap length f ∙ pointwise_length p a b same in
    get_or-take (length a) (made ++ t) i 0 h ∙ get_or-append made t 0 i (omega arith) ∙ ap (λ (k : List ℕ). get_or k i 0) f
    ∙ pointwise_at p a b same i h

pub multiply-requires-clause-below : goal.multiply-requires-clause-below
multiply-requires-clause-below c = subst (Below c.args.p) (sym (front c.args.a.now _ c.copy.ensures)) c.requires.below

pub loop-x-init : goal.loop-x-init
unfolding dot_of
loop-x-init c = kept c.args.p 0 (omega arith)

pub add-total-requires-clause-x_lt_p : goal.add-total-requires-clause-x_lt_p
add-total-requires-clause-x_lt_p c =
    let a = c.args in
    let h : c.loop-x.x-index < length a.a.now = omega (arith, length-take {A = ℕ}) in (
      rw c.loop-x.invariant (mod-lt _ (omega arith)),
      rw (item a.p a.a.now a.b.now _ _ _ c.requires.a_len c.copy.ensures c.multiply.ensures c.loop-x.x-index h) (mod-lt _ (omega arith)),
    )

pub loop-x-preserved : goal.loop-x-preserved
loop-x-preserved c =
    let a = c.args in
    let i = c.loop-x.x-index in
    let h : i < length a.a.now = omega (arith, length-take {A = ℕ}) in
    let e = dot_more a.a.now a.b.now i h (omega arith) in
    let both = (reduce a.p (dot_of (take i a.a.now) (take i a.b.now)) plus reduce a.p (get_or a.a.now i 0 * get_or a.b.now i 0)).same in
    c.add-total.ensures
    ∙ ap₂ (λ (u v : ℕ). (u + v) % a.p) c.loop-x.invariant
    (item a.p a.a.now a.b.now _ _ _ c.requires.a_len c.copy.ensures c.multiply.ensures i h)
    ∙ both ∙ ap (λ (u : ℕ). u % a.p) (sym e)
