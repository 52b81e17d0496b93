-- Lists of levels: the search for one out of range, and the residues, which are below p.
use mathlib.Core.Path.{◌≡◌, refl, sym, ◌∙◌, ap, subst}
use mathlib.Core.Bool.{Bool, true, false, cond}
use mathlib.Core.List.{List}
use Prim.Native.Nat.{ℕ, suc, ◌+◌, ◌-◌, ◌%◌, ◌^◌, ◌<◌, ◌≤◌}
use native.Mathlib.Numerals.{add-one}
use native.Mathlib.Nat.{mod-lt}
use native.Mathlib.Omega.{arith}
use lib.IntN.{ℤ, pos, negsuc, nat_abs}
use lib.Signed.{mag}
use lib.ListN.{length, get_or, drop}
use lib.Seq.{drop-cons, drop-length}
use lib.Dec.{T, eqb, ltb}
use borrow.Author.Tests.{lt-ltb, le-ltb}
use mir.Syntax.{w8}
use mir.Val.{to_z, of_z}
use mir.Facts.{to_z-of_z}
use Rattle.residue.specs.Level.{residue_of}
use Rattle.std.proofs.Common.{Some, None}
use Rattle.residue.specs.Vector.{Below}
use Rattle.residue.proofs.vector.Vectors.{map_at}
use Rattle.specification.specs.Levels.{level_number, is_residue, in_range, residues}
use Rattle.specification.specs.Instance.{reduced}
use Rattle.specification.proofs.agreement.Points.{residues_same}

-- an element of a slice of signed bytes, as a function has it that is handed it
pub handed : (z : ℤ) → mag z < 2 ^ 7 → to_z w8 (of_z w8 z) ≡ z
handed z h = to_z-of_z {w = w8} (record { sfits = h })

-- a level has a residue exactly where its size is below p
inside : (p : ℕ) (z : ℤ) → is_residue (residue_of p z) ≡ ltb (nat_abs z) p
unfolding is_residue residue_of
inside p z = by_sign z
  where
    chosen : (b : Bool) (x : ℕ) → eqb (level_number (cond b (Some x) None)) 0 ≡ b
    chosen true x = refl
    chosen false x = refl

    by_sign : (z : ℤ) → is_residue (residue_of p z) ≡ ltb (nat_abs z) p
    by_sign (pos k) = chosen (ltb k p) k
    by_sign (negsuc k) = chosen (ltb (suc k) p) (p - suc k)

-- the level at i has one or none, or there is no further level
module _ (p : ℕ) (zs : List ℤ) (i : ℕ) (d : ℤ) (h : i < length zs) where
  pub range_on : nat_abs (get_or zs i d) < p → in_range p (drop (i + 1) zs) ≡ in_range p (drop i zs)
  unfolding in_range
  range_on l = rw (add-one, drop-cons zs i d h) (rw (inside p (get_or zs i d), lt-ltb (nat_abs (get_or zs i d)) p l) refl)

  pub range_stop : p ≤ nat_abs (get_or zs i d) → false ≡ in_range p (drop i zs)
  unfolding in_range
  range_stop l = rw (drop-cons zs i d h) (rw (inside p (get_or zs i d), le-ltb (nat_abs (get_or zs i d)) p l) refl)

pub range_end : (p : ℕ) (zs : List ℤ) (i : ℕ) → i ≡ length zs → true ≡ in_range p (drop i zs)
unfolding in_range
range_end p zs i e = rw (e, drop-length)

-- residues are below p
pub below_reduced : (q : ℕ) (l : List ℕ) → reduced q l ≡ l → Below (suc q) l
below_reduced q l e i h = subst (λ (x : ℕ). x < suc q) (sym (map_at (λ x. x % suc q) l 0 0 i h) ∙ ap (λ (k : List ℕ). get_or k i 0) e) (mod-lt (get_or l i 0) (omega arith))

pub residues_below : (p : ℕ) (zs : List ℤ) → 0 < p → T (in_range p zs) → Below p (residues p zs)
residues_below p zs z t =
    let e : suc (p - 1) ≡ p = omega arith in
    subst (λ (n : ℕ). Below n (residues p zs)) e (below_reduced (p - 1) (residues p zs) (residues_same p zs z t))
