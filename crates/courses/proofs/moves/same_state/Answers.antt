-- `moves::same_state` meets its contract: keys are equal where the 8 bytes are.
use mathlib.Core.Path.{◌≡◌, refl, sym, ap, ◌∙◌}
use Prim.Native.Nat.{ℕ, ◌+◌, ◌*◌, ◌-◌}
use native.Mathlib.Omega.{arith}
use lib.ListN.{take, drop}
use Rattle.residue.specs.Vector.{Below}
use Rattle.residue.specs.Lists.{key_of}
use Rattle.residue.proofs.vector.Vectors.{below_take, below_drop}
use Rattle.residue.proofs.Replaced.{part_long}
use Rattle.points.proofs.places.PointPlaces.{keys_told}
use Rattle.courses.proofs.moves.same_state.Goals as goal

pub returns : goal.returns
returns c = let s = c in
    let i = s.args.i in
    let j = s.args.j in
    let t = s.args.records.now in
    let bytes : Below 256 t = λ k h. (c.shared_slice_known-1.given k).fits in
    let width : 8 * i + 8 - 8 * i ≡ 8 = omega arith in
    sym (keys_told (take 8 (drop (8 * i) t)) t j (below_take 256 8 (drop (8 * i) t) (below_drop 256 (8 * i) t bytes)) bytes
    (part_long (8 * i) 8 8 t refl (omega arith)) (omega arith)
    (c.key.ensures ∙ ap (λ (k : ℕ). key_of 8 (take k (drop (8 * i) t))) width) c.key-2.ensures)
