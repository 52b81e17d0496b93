-- Levels: which residue a level has, and the signed byte of a byte.
use mathlib.Core.Path.{◌≡◌, refl, ap}
use mathlib.Core.Bool.{Bool, true, false, cond, true≢false}
use Prim.Native.Nat.{ℕ, suc, ◌-◌, ◌<◌, ◌≤◌}
use native.Mathlib.Nat.{not-suc-le-zero}
use native.Mathlib.Omega.{arith}
use lib.IntN.{ℤ, pos, negsuc, nat_abs}
use lib.Signed.{lt_z}
use lib.Dec.{ltb}
use mir.Syntax.{w8}
use mir.Val.{to_z}
use borrow.Author.Tests.{ltb-true, lt-ltb, le-ltb}
use Rattle.residue.specs.Level.{residue_of, signed_of}
use Rattle.std.proofs.Common.{Some, None}

-- by a level's size n and its sign: a negative level in range has p added, any other in range is kept, and outside the range there is no residue
module _ (p n : ℕ) where
  pub of_negative : (z : ℤ) → n ≡ nat_abs z → lt_z z (pos 0) ≡ true → n < p → Some (p - n) ≡ residue_of p z
  unfolding residue_of
  of_negative (pos k) e s h = absurd (not-suc-le-zero (ltb-true k 0 s))
  of_negative (negsuc k) e s h = simp (lt-ltb (suc k) p (omega arith), e)

  pub of_kept : (z : ℤ) → n ≡ nat_abs z → lt_z z (pos 0) ≡ false → n < p → Some n ≡ residue_of p z
  unfolding residue_of
  of_kept (pos k) e s h = simp (lt-ltb k p (omega arith), e)
  of_kept (negsuc k) e s h = absurd (true≢false s)

  pub of_outside : (z : ℤ) → n ≡ nat_abs z → p ≤ n → None ≡ residue_of p z
  unfolding residue_of
  of_outside (pos k) e h = simp (le-ltb k p (omega arith))
  of_outside (negsuc k) e h = simp (le-ltb (suc k) p (omega arith))

-- the signed byte of the same bits, as a cast reads them
pub signed_is : (b : ℕ) → b < 256 → to_z w8 b ≡ signed_of b
unfolding signed_of
signed_is b h = pick (ltb b 128) refl
  where
    pick : (t : Bool) → ltb b 128 ≡ t → cond t (pos b) (negsuc (256 - suc b)) ≡ cond t (pos b) (negsuc (255 - b))
    pick true e = refl
    pick false e = let d : 256 - suc b ≡ 255 - b = omega arith in ap negsuc d

chosen : (p j r k : ℕ) → (j < p → r < p) → cond (ltb j p) (Some r) None ≡ Some k → k < p
chosen p j r k low = pick (ltb j p) refl
  where
    pick : (b : Bool) → ltb j p ≡ b → cond b (Some r) None ≡ Some k → k < p
    pick true e h =
        let g : r ≡ k = cc in
        let l = low (ltb-true j p e) in
        omega arith
    pick false e h = let z : ◌≡◌ {A = ℕ} 0 1 = cc in absurd (omega arith)

-- a residue is below p
pub residue_below : (p k : ℕ) (z : ℤ) → residue_of p z ≡ Some k → k < p
unfolding residue_of
residue_below p k (pos j) = chosen p j j k (λ h. h)
residue_below p k (negsuc j) = chosen p (suc j) (p - suc j) k (λ h. omega arith)
