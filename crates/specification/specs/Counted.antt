-- Points with their counts (docs/SCOPE.md, 'Replicates'; request M-106): one notion for tables, adding, withdrawing, drawing up and the reference list.
use Rattle.std.specs.Prelude.{Bool, cond, ◌&&◌, List, [], ◌∷◌, map, ℕ, suc, ◌-◌, length, eqb, leb, ltb}
use Rattle.residue.specs.Lists.{some, sum_over, same_list}
use Rattle.specification.specs.Refusal.{Case}

-- Points, each with its count, in order of arrival.
abbrev pub Counted : Type 0
Counted = List (List ℕ × ℕ)

abbrev pub points_of : Counted → List (List ℕ)
points_of L = map (λ q. q.0) L

abbrev pub counts_of : Counted → List ℕ
counts_of L = map (λ q. q.1) L

-- '1 to 255 for each state'
unfoldable pub is_count : ℕ → Bool
is_count k = leb 1 k && leb k 255

-- 'Adding a state already present raises its count'; a new one comes last, with 1
unfoldable pub entered : List ℕ → Counted → Counted
entered P [] = (P, 1) ∷ []
entered P (q ∷ L) = cond (same_list P q.0) ((q.0, suc q.1) ∷ L) (q ∷ entered P L)

-- 'withdrawing lowers it, and at 0 the state goes': later ones move up one place
unfoldable pub lowered : List ℕ → Counted → Counted
lowered P [] = []
lowered P (q ∷ L) = cond (same_list P q.0) (cond (eqb (q.1 - 1) 0) L ((q.0, q.1 - 1) ∷ L)) (q ∷ lowered P L)

-- points one after the other, repeated ones among them: each stands where it came first, with the number of its occurrences
unfoldable pub entered_all : List (List ℕ) → Counted → Counted
entered_all [] L = L
entered_all (P ∷ S) L = entered_all S (entered P L)

unfoldable pub gathered : List (List ℕ) → Counted
gathered S = entered_all S []

-- What is refused of points that a call would leave: more than 64 of them, 'distinct states', and directly after it a replicate beyond 255.
unfoldable pub overfull : Counted → List Case
overfull L = (ltb 64 (length L), 8) ∷ (some (ltb 255) (counts_of L), 13) ∷ []

-- Beside what calls do: the count of a point, 0 where it is not there; how many times it stands in a list; how many points stand before the first that
-- equals it.
unfoldable pub count_of : List ℕ → Counted → ℕ
count_of P [] = 0
count_of P (q ∷ L) = cond (same_list P q.0) q.1 (count_of P L)

unfoldable pub times_in : List ℕ → List (List ℕ) → ℕ
times_in P S = sum_over (λ Q. cond (same_list P Q) 1 0) S

unfoldable pub place_in : List ℕ → List (List ℕ) → ℕ
place_in P [] = 0
place_in P (Q ∷ S) = cond (same_list P Q) 0 (suc (place_in P S))
