-- `tables::rows` meets its contract: the library's chunks are the groups.
use mathlib.Core.Path.{◌≡◌, refl, ap, ap₂, ◌∙◌}
use mathlib.Core.List.{List, ◌∷◌}
use Prim.Native.Nat.{ℕ, zero, suc, ◌+◌, ◌*◌, ◌/◌}
use native.Mathlib.Nat.{mul-div_cancel_left}
use native.Mathlib.Omega.{arith}
use lib.ListN.{take, drop}
use lib.Seq.{length-take-le, take-take}
use Rattle.std.proofs.lemmas.List.{drop-take}
use Rattle.std.specs.Simd.{first_chunks}
use Rattle.residue.specs.Layout.{groups}
use Rattle.writing.proofs.tables.rows.Goals as goal

-- the first k chunks of the front of a table are its first k groups
chunks_front : (w k : ℕ) (t : List ℕ) → first_chunks w k (take (w * k) t) ≡ groups w k t
unfolding groups
chunks_front w zero t = refl
chunks_front w (suc k) t =
    let e : w * suc k ≡ w + w * k = omega arith in
    rw e
    (ap₂ (λ (x : List ℕ) (l : List (List ℕ)). x ∷ l) (take-take w (w + w * k) t (omega arith)) (ap (first_chunks w k) (drop-take w (w * k) t) ∙ chunks_front w k (drop w t)))

pub returns-clause-value : goal.returns-clause-value
returns-clause-value g c =
    let w : ℕ = g.row.W in
    let k : ℕ = c.args.k in
    let t : List ℕ = c.args.table.now in
    let n = length-take-le (w * k) t c.requires.room in
    c.as_chunks.ensures.front ∙ ap (λ (j : ℕ). first_chunks w j (take (w * k) t)) (ap (λ (j : ℕ). j / w) n ∙ mul-div_cancel_left k c.requires.width) ∙ chunks_front w k t
