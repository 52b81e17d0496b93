-- Needed variables (docs/SCOPE.md, 'Answers': the wiring list; request M-107): those on which every function with the given values at the points depends.
-- p is the modulus, m the number of variables, and variable k+1 is coordinate k. No monomial order is mentioned.
use Rattle.std.specs.Prelude.{◌≡◌, Bool, false, not, cond, ◌&&◌, ◌||◌, ◌≢◌, ◌↔◌, get_or, set, eqb}
use mathlib.Core.List.{List, [], ◌∷◌, ◌++◌, zip}
use Prim.Native.Nat.{ℕ, zero, suc, ◌<◌, compare}
use Rattle.residue.specs.Congruence.{Mod}
use Rattle.residue.specs.Lists.{Among, some, same_list}
use Rattle.monomial.specs.Increasing.{Increasing}
use Rattle.specification.specs.Instance.{Point}

-- two points 'agree in all other genes'
abbrev pub Alike : ℕ → List ℕ → List ℕ → Type 0
Alike k P Q = (j : ℕ) → j ≢ k → get_or P j 0 ≡ get_or Q j 0

-- they 'agree in all other genes, differ in this one'
pub record Apart (k : ℕ) (P Q : List ℕ) : Type 0 where
  pub others : Alike k P Q
  pub here : get_or P k 0 ≢ get_or Q k 0

module _ (p m : ℕ) where
  -- the function f of the points depends on the variable: two arguments that differ in it alone have different results
  abbrev pub Depends : (Point p m → ℕ) → ℕ → Type 0
  Depends f k = (P : Point p m) × (Q : Point p m) × Apart k P.0 Q.0 × (f P ≢ f Q)

  -- f is a function from all points to the residues that has the values φ at the points of S
  pub record Takes (S : List (Point p m)) (φ f : Point p m → ℕ) : Type 0 where
    pub residue : (P : Point p m) → f P < p
    pub values : (P : Point p m) → Among P S → Mod p (f P) (φ P)

  -- 'every function of the genes that has the given values at the states depends on it'
  abbrev pub Needed : List (Point p m) → (Point p m → ℕ) → ℕ → Type 0
  Needed S φ k = (f : Point p m → ℕ) → Takes S φ f → Depends f k

  -- 'two states agree in all other genes, differ in this one, and have different values (values count as residues)'
  abbrev pub Pair : List (Point p m) → (Point p m → ℕ) → ℕ → Type 0
  Pair S φ k = (P : Point p m) × (Q : Point p m) × Among P S × Among Q S × Apart k P.0 Q.0 × ¬ Mod p (φ P) (φ Q)

-- The pair of points, computed. Lists agree in all places but one where they are equal with 0 in it.
unfoldable pub alike : ℕ → List ℕ → List ℕ → Bool
alike k P Q = same_list (set P k 0) (set Q k 0)

unfoldable pub apart : ℕ → List ℕ → List ℕ → Bool
apart k P Q = alike k P Q && not (eqb (get_or P k 0) (get_or Q k 0))

-- two points, each with its value, which is a residue: they differ in the variable alone, and have different values
unfoldable pub contrary : ℕ → List ℕ × ℕ → List ℕ × ℕ → Bool
contrary k a b = apart k a.0 b.0 && not (eqb a.1 b.1)

-- some two of the list do
unfoldable pub pair_in : ℕ → List (List ℕ × ℕ) → Bool
pair_in k [] = false
pair_in k (a ∷ l) = some (contrary k a) l || pair_in k l

-- The wiring list of values, one for each point: the numbers, from 1, of those of the first m variables for which there is a pair, increasing.
unfoldable pub wiring_of : ℕ → List (List ℕ) → List ℕ → List ℕ
wiring_of zero S values = []
wiring_of (suc k) S values = wiring_of k S values ++ cond (pair_in k (zip S values)) (suc k ∷ []) []

-- A list of variables, said and not computed: increasing, and the numbers in it are those of the first m variables of which X holds.
pub record Names (m : ℕ) (X : ℕ → Type 0) (names : List ℕ) : Type 0 where
  pub increasing : Increasing compare names
  pub members : (j : ℕ) → Among j names ↔ ((k : ℕ) × (j ≡ suc k) × (k < m) × X k)

-- Variable k+1 occurs in a combination of monomials with a coefficient that is not 0: the wiring list before M-107 was of the variables that occur in the
-- interpolant. proofs/needed has that every needed variable does.
unfoldable pub occurs : ℕ → List ℕ → List (List ℕ) → Bool
occurs k [] l = false
occurs k (c ∷ cs) [] = false
occurs k (c ∷ cs) (a ∷ l) = not (eqb c 0) && not (eqb (get_or a k 0) 0) || occurs k cs l
