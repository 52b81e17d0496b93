-- The bytes of a word.
use mathlib.Core.Path.{◌≡◌, refl, ap}
use mathlib.Core.List.{[], ◌∷◌}
use Prim.Native.Nat.{ℕ, zero, suc, ◌/◌, ◌%◌}
use native.Mathlib.Omega.{arith}
use lib.ListN.{length}
use Rattle.residue.specs.Words.{bytes_of}

-- eight of them, each by one division
pub eight_bytes : (w : ℕ) → w % 256 ∷ w / 256 % 256 ∷ w / 65536 % 256 ∷ w / 16777216 % 256 ∷ w / 4294967296 % 256 ∷ w / 1099511627776 % 256 ∷ w / 281474976710656 % 256
    ∷ w / 72057594037927936 % 256 ∷ [] ≡ bytes_of 8 w
unfolding bytes_of
eight_bytes w =
    let a : w / 65536 ≡ w / 256 / 256 = omega arith in
    let b : w / 16777216 ≡ w / 65536 / 256 = omega arith in
    let c : w / 4294967296 ≡ w / 16777216 / 256 = omega arith in
    let d : w / 1099511627776 ≡ w / 4294967296 / 256 = omega arith in
    let e : w / 281474976710656 ≡ w / 1099511627776 / 256 = omega arith in
    let f : w / 72057594037927936 ≡ w / 281474976710656 / 256 = omega arith in
    rw (f, e, d, c, b, a)

pub bytes_length : (k w : ℕ) → length (bytes_of k w) ≡ k
unfolding bytes_of
bytes_length zero w = refl
bytes_length (suc k) w = ap suc (bytes_length k (w / 256))
