-- `vector::multiply` meets its contract: each entry is as the definition has it, by few bits or by more.
use Rattle.std.proofs.Common.{rules, ◌*◌, ◌%◌}
use Rattle.residue.specs.Vector.{pointwise}
use Rattle.residue.proofs.vector.Vectors.{joined_is}
use Rattle.residue.proofs.vector.multiply.Goals as goal

pub returns-then-p-le7 : goal.returns-then-p-le7
unfolding pointwise
returns-then-p-le7 c =
    let a = c.args in
    joined_is (λ x y. (x * y) % a.p) a.dst.now a.src.now c.each_with.new.dst c.requires.dst_len c.each_with.auto.dst
    (λ i h. let f = c.each_with.ensures i h in search rules)

pub returns-else-p-le7 : goal.returns-else-p-le7
unfolding pointwise
returns-else-p-le7 c =
    let a = c.args in
    let r = c.each_with-else-p-le7 in
    joined_is (λ x y. (x * y) % a.p) a.dst.now a.src.now r.new.dst c.requires.dst_len r.auto.dst (λ i h. let f = r.ensures i h in search rules)
