-- Which monomial comes next in drawing up. No public promise names these definitions: they follow the loops of the code.
-- `at` has, for each variable, how many of its products with the standard monomials found are passed: the next one is that with the standard monomial
-- of this index. `ranks` has the ranks of the standard monomials, `steps` those of the variables.
use Rattle.std.specs.Prelude.{Bool, not, cond, ◌&&◌, ◌||◌, List, ℕ, zero, suc, ◌+◌, ◌*◌, eqb, ltb, min, Option, Some, None, take, drop, get_or, set}
use Rattle.monomial.specs.declared.candidate.Parents.{Parents}
use Rattle.monomial.specs.declared.candidate.Candidate.{Candidate}

-- variable k has a next product
abbrev pub is_open : ℕ → List ℕ → ℕ → Bool
is_open found at k = ltb (get_or at k 0) found

-- its rank
abbrev pub rank_at : List ℕ → List ℕ → List ℕ → ℕ → ℕ
rank_at ranks steps at k = get_or ranks (get_or at k 0) 0 + get_or steps k 0

-- the lesser of what was found so far and a number
abbrev pub lesser : Option ℕ → ℕ → ℕ
lesser None r = r
lesser (Some b) r = min b r

module _ (found : ℕ) (ranks steps : List ℕ) where
  -- the least rank of a next product of the first k variables
  unfoldable pub least_of : List ℕ → ℕ → Option ℕ
  least_of at zero = None
  least_of at (suc k) = cond (is_open found at k) (Some (lesser (least_of at k) (rank_at ranks steps at k))) (least_of at k)

  -- variable k has a next product of the rank
  abbrev pub is_of : ℕ → List ℕ → ℕ → Bool
  is_of rank at k = is_open found at k && eqb (rank_at ranks steps at k) rank

  -- the next products of the rank passed, for the first k variables
  unfoldable pub products_passed : ℕ → List ℕ → ℕ → List ℕ
  products_passed rank at zero = at
  products_passed rank at (suc k) =
      cond (is_of rank (products_passed rank at k) k) (set (products_passed rank at k) k (get_or (products_passed rank at k) k 0 + 1))
      (products_passed rank at k)

  -- how many these are, and the last of them: its variable and its standard monomial
  unfoldable pub parents_of : ℕ → List ℕ → ℕ → Parents
  parents_of rank at zero = record { count = 0; variable = 0; standard = 0 }
  parents_of rank at (suc k) =
      cond (is_of rank (products_passed rank at k) k)
      (record { count = (parents_of rank at k).count + 1; variable = k; standard = get_or (products_passed rank at k) k 0 })
      (parents_of rank at k)

-- how many of the first i variables occur in x_(k+1) times a
unfoldable pub occurring_in : List ℕ → ℕ → ℕ → ℕ
occurring_in a k zero = 0
occurring_in a k (suc i) = cond (eqb i k || not (eqb (get_or a i 0) 0)) (occurring_in a k i + 1) (occurring_in a k i)

-- The answer, and the products passed.
pub record Searched : Type 0 where
  pub answer : Option Candidate
  pub positions : List ℕ

abbrev pub search_ends : Option Candidate → List ℕ → Searched
search_ends c at = record { answer = c; positions = at }

-- it is a product for each of the variables that occur in it
abbrev pub is_whole : List ℕ → Parents → Bool
is_whole standard p = eqb p.count (occurring_in (take 8 (drop (8 * p.standard) standard)) p.variable 8)

module _ (m found : ℕ) (standard ranks steps : List ℕ) where
  -- what is done at the least rank, and `again` from the products then passed
  unfoldable pub at_least : Option ℕ → List ℕ → (List ℕ → Searched) → Searched
  at_least None at again = search_ends None at
  at_least (Some rank) at again =
      let p = parents_of found ranks steps rank at m in
      let a = products_passed found ranks steps rank at m in
      cond (is_whole standard p) (search_ends (Some (record { variable = p.variable; standard = p.standard; rank = rank })) a) (again a)

  -- with a bound on the number of turns
  unfoldable pub next_from : ℕ → List ℕ → Searched
  next_from zero at = search_ends None at
  next_from (suc turns) at = at_least (least_of found ranks steps at m) at (λ a. next_from turns a)

  -- each turn passes one product at least, and there are m * found
  unfoldable pub next_of : List ℕ → Searched
  next_of at = next_from (suc (m * found)) at
