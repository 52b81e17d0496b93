-- The first case that holds, along a list of cases that is judged part after part.
use mathlib.Core.Path.{◌≡◌, refl}
use mathlib.Core.Bool.{Bool, true, false, not, ◌&&◌}
use mathlib.Core.List.{List, [], ◌∷◌, ◌++◌}
use mathlib.Core.Logic.{◌≢◌}
use Prim.Native.Nat.{ℕ}
use native.Mathlib.Omega.{arith}
use lib.Dec.{T, eqb}
use borrow.Author.Tests.{eq-eqb}
use Rattle.residue.proofs.Tests.{and_left, and_right}
use Rattle.specification.specs.Refusal.{Case, first_of}

-- no case has the number 0
abbrev pub numbered : List Case → Bool
numbered [] = true
numbered (c ∷ l) = not (eqb c.1 0) && numbered l

-- no case holds
abbrev pub None : List Case → Type 0
None [] = Unit {0}
None (c ∷ l) = (c.0 ≡ false) × None l

-- the first part has a case that holds
pub first_stop : (l r : List Case) → (first_of 0 l ≡ 0 → ⊥) → first_of 0 l ≡ first_of 0 (l ++ r)
unfolding first_of
first_stop [] r h = absurd (h refl)
first_stop ((true, k) ∷ l) r h = refl
first_stop ((false, k) ∷ l) r h = first_stop l r h

-- it has none
pub none_holds : (l : List Case) → T (numbered l) → first_of 0 l ≡ 0 → None l
unfolding first_of
none_holds [] t e = tt
none_holds ((true, k) ∷ l) t e = absurd (rw (eq-eqb k 0 e) at (and_left (not (eqb k 0)) (numbered l) t))
none_holds ((false, k) ∷ l) t e = (refl, none_holds l (and_right (not (eqb k 0)) (numbered l) t) e)

pub first_on : (l r : List Case) → None l → first_of 0 r ≡ first_of 0 (l ++ r)
unfolding first_of
first_on [] r n = refl
first_on ((true, k) ∷ l) r n = absurd (let z : ◌≡◌ {A = ℕ} 0 1 = cc in omega arith)
first_on ((false, k) ∷ l) r n = first_on l r n.1

-- a last case whose number is not given does not matter
pub but_last : (l : List Case) (b : Bool) (k : ℕ) → first_of 0 (l ++ ((b, k) ∷ [])) ≢ k → first_of 0 (l ++ ((b, k) ∷ [])) ≡ first_of 0 l
unfolding first_of
but_last [] true k n = absurd (n refl)
but_last [] false k n = refl
but_last ((true, j) ∷ l) b k n = refl
but_last ((false, j) ∷ l) b k n = but_last l b k n

-- the refusals on numbers, each test by what it comes to
pub sizes_are : (l : List Case) {a b c a' b' c' : Bool} → a ≡ a' → b ≡ b' → c ≡ c'
    → first_of 0 (l ++ ((a, 6) ∷ (b, 7) ∷ (c, 8) ∷ [])) ≡ first_of 0 (l ++ ((a', 6) ∷ (b', 7) ∷ (c', 8) ∷ []))
sizes_are l e f g = rw (e, f, g)
