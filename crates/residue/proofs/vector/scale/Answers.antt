-- `vector::scale` meets its contract: each entry is as the definition has it.
use Rattle.std.proofs.Common.{rules, ◌*◌, ◌%◌}
use Rattle.residue.specs.Vector.{scaled}
use Rattle.residue.proofs.vector.Vectors.{mapped_is}
use Rattle.residue.proofs.vector.scale.Goals as goal

pub returns : goal.returns
unfolding scaled
returns c =
    let a = c.args in
    mapped_is (λ x. (a.c * x) % a.p) a.dst.now c.each.new.dst c.each.auto.dst (λ i h. let f = c.each.ensures i h in search rules)
