-- The moduli.
use Rattle.std.specs.Prelude.{ℕ, Bool, List, [], ◌∷◌, eqb}
use Rattle.residue.specs.Lists.{some}

-- the 18 primes (docs/SCOPE.md, 'What the desk does')
unfoldable pub primes : List ℕ
primes = 2 ∷ 3 ∷ 5 ∷ 7 ∷ 11 ∷ 13 ∷ 17 ∷ 19 ∷ 23 ∷ 29 ∷ 31 ∷ 37 ∷ 41 ∷ 43 ∷ 47 ∷ 53 ∷ 59 ∷ 61 ∷ []

-- p stands in the list
unfoldable pub is_one_of : List ℕ → ℕ → Bool
is_one_of qs p = some (eqb p) qs

-- p is one of the 18; any other modulus is refusal 3
unfoldable pub is_modulus : ℕ → Bool
is_modulus p = is_one_of primes p
