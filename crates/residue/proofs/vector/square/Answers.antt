-- `vector::square` meets its contract: each entry is as the definition has it.
use Rattle.std.proofs.Common.{rules, refl, ◌*◌, ◌%◌}
use Rattle.residue.specs.Vector.{pointwise}
use Rattle.residue.proofs.vector.Vectors.{joined_is}
use Rattle.residue.proofs.vector.square.Goals as goal

pub returns : goal.returns
unfolding pointwise
returns c =
    let a = c.args in
    joined_is (λ x y. (x * y) % a.p) a.dst.now a.dst.now c.each.new.dst refl c.each.auto.dst (λ i h. let f = c.each.ensures i h in search rules)
