-- Refusals: docs/SCOPE.md, 'Refused, in this order of checking'.
use Rattle.std.specs.Prelude.{Bool, cond, List, [], ◌∷◌, ℕ}

-- A case in which a call is refused: whether it holds, and its number.
abbrev pub Case : Type 0
Case = Bool × ℕ

-- the answer of the first case that holds, in the order of checking; `none` where no case does
unfoldable pub first_of : {A : Type 0} → A → List (Bool × A) → A
first_of none [] = none
first_of none (c ∷ l) = cond c.0 c.1 (first_of none l)
