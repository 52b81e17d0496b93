-- `vector::add_scaled` meets its contract: each entry is as the definition has it, of which the product is reduced already.
use Rattle.std.proofs.Common.{rules, ◌≡◌, ◌∙◌, ◌+◌, ◌*◌, ◌%◌, get_or}
use native.Mathlib.Nat.{add-mod-mod}
use Rattle.residue.specs.Vector.{add_scaled}
use Rattle.residue.proofs.vector.Vectors.{joined_is}
use Rattle.residue.proofs.vector.add_scaled.Goals as goal

pub returns : goal.returns
unfolding add_scaled
returns c =
    let a = c.args in
    joined_is (λ x y. (x + a.c * y) % a.p) a.dst.now a.src.now c.each_with.new.dst c.requires.dst_len c.each_with.auto.dst
    (λ i h.
    let f = c.each_with.ensures i h in
    let e : get_or c.each_with.new.dst i 0 ≡ (get_or a.dst.now i 0 + (a.c * get_or a.src.now i 0) % a.p) % a.p = search rules in
    e ∙ add-mod-mod _ _ _)
