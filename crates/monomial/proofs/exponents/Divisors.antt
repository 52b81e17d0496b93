-- Divisors: a test of all pairs of exponents, and the monomials of a table.
use mathlib.Core.Path.{◌≡◌, refl, ap, ap₂, ◌∙◌}
use mathlib.Core.Bool.{◌&&◌}
use mathlib.Core.List.{List, ◌∷◌}
use Prim.Native.Nat.{ℕ, zero, suc, ◌+◌, ◌*◌}
use native.Mathlib.Omega.{arith}
use lib.Dec.{leb}
use lib.ListN.{length, take, drop}
use lib.Seq.{take-take}
use Rattle.std.proofs.lemmas.List.{drop-take}
use Rattle.std.specs.List.{zip, list_all}
use Rattle.std.specs.Simd.{first_chunks}
use Rattle.residue.specs.Layout.{groups}
use Rattle.monomial.specs.Monomial.{divides}
use Rattle.monomial.proofs.Algebra.Products.{Aligned, nil, cons, aligned}

pub all_divide : (a b : List ℕ) → length a ≡ length b → list_all (λ (p : ℕ × ℕ). leb p.0 p.1) (zip a b) ≡ divides a b
all_divide a b e = go (aligned a b e)
  where
    go : {a b : List ℕ} → Aligned a b → list_all (λ (p : ℕ × ℕ). leb p.0 p.1) (zip a b) ≡ divides a b
    go nil = refl
    go (cons {x} {y} e) = ap (λ r. leb x y && r) (go e)

-- the first k chunks of the front of a table are its first k groups
pub chunks_front : (k : ℕ) (t : List ℕ) → first_chunks 8 k (take (8 * k) t) ≡ groups 8 k t
unfolding groups
chunks_front zero t = refl
chunks_front (suc k) t =
    let e : 8 * suc k ≡ 8 + 8 * k = omega arith in
    rw e
    (ap₂ (λ (x : List ℕ) (l : List (List ℕ)). x ∷ l) (take-take 8 (8 + 8 * k) t (omega arith)) (ap (first_chunks 8 k) (drop-take 8 (8 * k) t) ∙ chunks_front k (drop 8 t)))
