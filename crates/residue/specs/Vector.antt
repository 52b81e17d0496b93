-- Vectors of residues, as lists: one residue an entry.
use Rattle.std.specs.Prelude.{ℕ, zero, suc, ◌+◌, ◌*◌, ◌/◌, ◌%◌, ◌^◌, ◌<◌, length, get_or, eqb, cond}
use mathlib.Core.List.{List, [], ◌∷◌, map, zip_with}

-- each entry is a residue
abbrev pub Below : ℕ → List ℕ → Type 0
Below p l = (i : ℕ) → i < length l → get_or l i 0 < p

-- d + c * s at each place
unfoldable pub add_scaled : ℕ → ℕ → List ℕ → List ℕ → List ℕ
add_scaled p c = zip_with (λ d s. (d + c * s) % p)

-- c times each entry
unfoldable pub scaled : ℕ → ℕ → List ℕ → List ℕ
scaled p c = map (λ x. (c * x) % p)

-- the product at each place
unfoldable pub pointwise : ℕ → List ℕ → List ℕ → List ℕ
pointwise p = zip_with (λ x y. (x * y) % p)

-- the product with a power at each place
unfoldable pub powered : ℕ → ℕ → List ℕ → List ℕ → List ℕ
powered p e = zip_with (λ x y. (x * y ^ e) % p)

-- the sum of the products, not reduced
unfoldable pub dot_of : List ℕ → List ℕ → ℕ
dot_of [] b = 0
dot_of (x ∷ a) [] = 0
dot_of (x ∷ a) (y ∷ b) = x * y + dot_of a b

-- the base of a power by squares once nothing of the exponent e is left: squared as often as e can be halved, fuel times at most
unfoldable pub squares_from : ℕ → ℕ → ℕ → List ℕ → List ℕ
squares_from p zero e base = base
squares_from p (suc fuel) e base = cond (eqb e 0) base (squares_from p fuel (e / 2) (pointwise p base base))

abbrev pub squares_left : ℕ → ℕ → List ℕ → List ℕ
squares_left p e base = squares_from p e e base
