-- The signed numbers that an export's contract sees in `&[i8]` are those that the bytes lent by C stand for. A signed byte lies in memory as its bits,
-- `of_z w8`, and is read back from them by `to_z w8`: so the language has it (mir.Val).
use mathlib.Core.Path.{◌≡◌, refl, sym, ◌∙◌, ap, ap₂}
use mathlib.Core.Bool.{Bool, true, false, cond}
use mathlib.Core.List.{List, [], ◌∷◌, map}
use mathlib.Core.Logic.{inl, inr}
use Prim.Native.Nat.{ℕ, suc, ◌-◌}
use native.Mathlib.Omega.{arith}
use lib.IntN.{ℤ, pos, negsuc}
use lib.Dec.{ltb}
use mir.Syntax.{w8}
use mir.Val.{of_z, to_z, SFits, sel}
use mir.Facts.{to_z-of_z}
use Rattle.residue.specs.Lists.{Among}
use Rattle.residue.specs.Level.{signed_of}
use Rattle.misqafur.specs.Bytes.{levels_lent}

-- the byte b, read as a signed one
pub signed_byte : (b : ℕ) → to_z w8 b ≡ signed_of b
unfolding signed_of
signed_byte b = go (ltb b 128)
  where
    go : (c : Bool) → sel c (pos b) (negsuc (256 - suc b)) ≡ cond c (pos b) (negsuc (255 - b))
    go true = refl
    go false = ap negsuc (omega arith)

-- 'plain bytes of the same bits': what is lent as the bytes bs is seen as `levels_lent bs`, and what is seen as zs was lent as the bytes of zs
pub bytes_lent : (bs : List ℕ) → map (to_z w8) bs ≡ levels_lent bs
unfolding levels_lent
bytes_lent [] = refl
bytes_lent (b ∷ bs) = ap₂ (λ (z : ℤ) (l : List ℤ). z ∷ l) (signed_byte b) (bytes_lent bs)

pub levels_seen : (zs : List ℤ) → ((z : ℤ) → Among z zs → SFits w8 z) → levels_lent (map (of_z w8) zs) ≡ zs
unfolding levels_lent
levels_seen [] h = refl
levels_seen (z ∷ zs) h =
    ap₂ (λ (y : ℤ) (l : List ℤ). y ∷ l) (sym (signed_byte (of_z w8 z)) ∙ to_z-of_z {w = w8} (h z (inl refl))) (levels_seen zs (λ y q. h y (inr q)))

-- '255 means -1'
pub byte_255 : signed_of 255 ≡ negsuc 0
unfolding signed_of
byte_255 = refl
