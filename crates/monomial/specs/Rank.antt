-- The rank of a monomial: one number whose order is the monomial order, as long as the total degree is below 65. No public promise names it;
-- the functions that look for the next monomial compare ranks in place of exponents.
use mathlib.Core.List.{List, [], ◌∷◌, ◌++◌, drop_last, map}
use Rattle.std.specs.Prelude.{ℕ, ◌+◌, ◌*◌, ◌^◌, length}
use Rattle.monomial.specs.Monomial.{degree, one, times_variable}
use Rattle.monomial.specs.Order.{Order, lex, grlex, grevlex, weighted, weigh}

-- the sums of the first exponents, from all of them down to the first alone, c added to each
abbrev pub sums_down : ℕ → List ℕ → List ℕ
sums_down c [] = []
sums_down c (x ∷ xs) = sums_down (c + x) xs ++ ((c + x) ∷ [])

-- numbers whose first difference decides as the order does: as many as exponents, and one more under weights, where every exponent stands behind the sum
unfoldable pub key : Order → List ℕ → List ℕ
key lex a = a
key grlex a = degree a ∷ drop_last a
key grevlex a = sums_down 0 a
key (weighted w) a = weigh w a ∷ a

-- the number with these digits to the base 65, the most significant first; the first may be any number
abbrev pub numeral : List ℕ → ℕ
numeral [] = 0
numeral (d ∷ ds) = d * 65 ^ length ds + numeral ds

-- every rank is below this: 8 digits and a sum of at most 99 times 64
abbrev pub rank_bound : ℕ
rank_bound = 2 ^ 61

unfoldable pub rank_of : Order → List ℕ → ℕ
rank_of order a = numeral (key order a)

-- the rank of x_(k+1), one of 8 variables
unfoldable pub variable_rank : Order → ℕ → ℕ
variable_rank order k = rank_of order (times_variable k (one 8))

-- the ranks of x1 to x8
unfoldable pub steps_of : Order → List ℕ
steps_of order = map (variable_rank order) (0 ∷ 1 ∷ 2 ∷ 3 ∷ 4 ∷ 5 ∷ 6 ∷ 7 ∷ [])
