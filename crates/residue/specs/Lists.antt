-- Lists of numbers: members, sums, tests and the number that bytes spell. The whole repository uses this one membership relation.
use Rattle.std.specs.Prelude.{◌≡◌, Bool, true, false, ◌&&◌, ◌||◌, ◌⊎◌, List, [], ◌∷◌, ℕ, ◌+◌, zero, suc, ◌*◌, get_or, eqb}

-- a stands in the list
abbrev pub Among : {A : Type 0} → A → List A → Type 0
Among a [] = ⊥
Among a (b ∷ l) = (a ≡ b) ⊎ Among a l

-- the sum of f over the list
abbrev pub sum_over : {A : Type 0} → (A → ℕ) → List A → ℕ
sum_over f [] = 0
sum_over f (a ∷ l) = f a + sum_over f l

-- each of the list passes the test; one of it does. The library's `all` and `any` do not compute in a statement, and these do.
abbrev pub every : {A : Type 0} → (A → Bool) → List A → Bool
every f [] = true
every f (a ∷ l) = f a && every f l

abbrev pub some : {A : Type 0} → (A → Bool) → List A → Bool
some f [] = false
some f (a ∷ l) = f a || some f l

-- two lists of numbers are equal
unfoldable pub same_list : List ℕ → List ℕ → Bool
same_list [] [] = true
same_list [] (b ∷ l) = false
same_list (a ∷ k) [] = false
same_list (a ∷ k) (b ∷ l) = eqb a b && same_list k l

-- the number whose digits to the base 256 the first k entries are
unfoldable pub key_of : ℕ → List ℕ → ℕ
key_of zero l = 0
key_of (suc k) l = 256 * key_of k l + get_or l k 0

-- each number is 0
unfoldable pub all_zero : List ℕ → Bool
all_zero l = every (λ a. eqb a 0) l
