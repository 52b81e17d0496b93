-- The inverse of a residue.
use Rattle.std.specs.Prelude.{ℕ, zero, suc, ◌*◌, ◌%◌, cond, ◌&&◌, ltb, eqb}
use Rattle.residue.specs.Modulus.{is_modulus}

-- the number below n whose product with x is 1 modulo p, or 0 where there is none
unfoldable pub inverse_below : ℕ → ℕ → ℕ → ℕ
inverse_below p x zero = 0
inverse_below p x (suc n) = cond (eqb ((x * n) % p) 1) n (inverse_below p x n)

-- That of 0 is 0; any other residue times its inverse leaves 1 modulo p (docs/SCOPE.md, 'What the desk does'). 0 as well where p is no modulus or x no residue.
unfoldable pub inverse_of : ℕ → ℕ → ℕ
inverse_of p x = cond (is_modulus p && ltb x p) (inverse_below p x p) 0
