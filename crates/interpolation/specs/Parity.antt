-- Polynomials modulo 2 as sets of monomials without squares. A value is 0 or 1, so that an exponent of 1 or more counts as 1: a monomial is the byte
-- of its variables, and a set of bytes is four words, a bit for each. No public promise names these definitions.
use Rattle.std.specs.Prelude.{◌≡◌, List, [], ◌∷◌, ◌++◌, map, ℕ, zero, suc, ◌+◌, ◌*◌, ◌/◌, ◌%◌, ◌^◌, length, get_or, set}
use Rattle.std.specs.Int.Bits.{bit_and, bit_xor}
use Rattle.std.specs.Int.Count.{ones}
use Rattle.residue.specs.Congruence.{Mod}
use Rattle.residue.specs.Vector.{dot_of}
use Rattle.residue.specs.Layout.{groups}
use Rattle.residue.specs.Words.{word_of, in_set}

-- 1 for an exponent of 1 or more
abbrev pub occurring : ℕ → ℕ
occurring zero = 0
occurring (suc e) = 1

-- the byte of a monomial: bit k where variable k+1 occurs
unfoldable pub byte_of : List ℕ → ℕ
byte_of e = word_of (map occurring e)

-- a set in which c copies of a byte more are counted, modulo 2
unfoldable pub toggled : ℕ → ℕ → List ℕ → List ℕ
toggled c byte s = set s (byte / 64) (bit_xor (get_or s (byte / 64) 0) (c * 2 ^ (byte % 64)))

-- how many ones a mask leaves of a set
unfoldable pub ones_left : List ℕ → List ℕ → ℕ
ones_left [] mask = 0
ones_left (w ∷ s) [] = 0
ones_left (w ∷ s) (v ∷ mask) = ones (bit_and w v) + ones_left s mask

-- The set of a polynomial: what any mask leaves of it has the parity of the coefficients of the terms whose bytes are in the mask.
pub record SetOf (cs exponents s : List ℕ) : Type 0 where
  pub long : length s ≡ 4
  pub parity : (mask : List ℕ) → length mask ≡ 4 → Mod 2 (ones_left s mask) (dot_of cs (map (λ e. in_set (byte_of e) mask) (groups 8 (length cs) exponents)))

-- the values at a point of the monomials without squares in its first k variables, in the order of their bytes
unfoldable pub values_at : ℕ → List ℕ → List ℕ
values_at zero P = 1 ∷ []
values_at (suc k) P = values_at k P ++ map (λ v. get_or P k 0 * v) (values_at k P)

-- the mask of a point: the bytes that divide it, those whose monomials are 1 there
unfoldable pub mask_of : List ℕ → List ℕ
mask_of P = map word_of (groups 64 4 (values_at 8 P))
