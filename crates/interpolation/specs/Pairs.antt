-- The search for pairs as the code makes it. No public promise names these definitions: they follow the loops whose contracts cite them.
use Rattle.std.specs.Prelude.{◌≡◌, Bool, false, ◌||◌, ◌≢◌, ℕ, zero, suc, ◌*◌, ◌%◌, ◌<◌, ◌≤◌, get_or, set, take, drop}
use mathlib.Core.List.{List, zip}
use Rattle.residue.specs.Layout.{groups}
use Rattle.residue.specs.Lists.{key_of}
use Rattle.specification.specs.Needed.{contrary}

-- the n points of a table, each with its value
abbrev pub valued_in : ℕ → List ℕ → List ℕ → List (List ℕ × ℕ)
valued_in n points values = zip (groups 8 n points) (take n values)

-- a point of a table; with its value
abbrev pub point_at : List ℕ → ℕ → List ℕ
point_at points j = take 8 (drop (8 * j) points)

abbrev pub valued : List ℕ → List ℕ → ℕ → List ℕ × ℕ
valued points values j = (point_at points j, get_or values j 0)

-- the key of a point with variable k left out; these keys of the n points of a table
abbrev pub rest_of : ℕ → List ℕ → ℕ
rest_of k P = key_of 8 (set P k 0)

abbrev pub Rests : ℕ → ℕ → List ℕ → List ℕ → Type 0
Rests k n points rests = (j : ℕ) → j < n → get_or rests j 0 ≡ rest_of k (point_at points j)

-- the chain that a point belongs to, one of 251
abbrev pub chain_of : List ℕ → ℕ → ℕ
chain_of rests j = get_or rests j 0 % 251

-- x is 1 more than the last place before i that belongs to the chain h, or 0 if none does
pub record Last (rests : List ℕ) (h i x : ℕ) : Type 0 where
  pub early : x ≤ i
  pub belongs : (j : ℕ) → x ≡ suc j → chain_of rests j ≡ h
  pub others : (j : ℕ) → x ≤ j → j < i → chain_of rests j ≢ h

-- the first i points are linked, each to the last one before it in its chain
abbrev pub Chained : List ℕ → ℕ → List ℕ → Type 0
Chained rests i before = (j : ℕ) → j < i → Last rests (chain_of rests j) j (get_or before j 0)

-- one of the numbers below i passes the test
unfoldable pub some_below : ℕ → (ℕ → Bool) → Bool
some_below zero f = false
some_below (suc i) f = f i || some_below i f

-- point j is a pair of the variable with point i
abbrev pub contrary_to : ℕ → List ℕ → List ℕ → ℕ → ℕ → Bool
contrary_to k points values i j = contrary k (valued points values j) (valued points values i)

-- the n points have the same coordinate k as the first bytes
abbrev pub Constant : ℕ → ℕ → List ℕ → Type 0
Constant k n points = (j : ℕ) → j < n → get_or (point_at points j) k 0 ≡ get_or points k 0
