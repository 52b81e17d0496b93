-- Squares of variables, and monomials without them, over any space; what a Boolean space has besides the laws.
use Rattle.std.specs.Prelude.{◌≡◌, Bool, List, ℕ, ◌<◌}
use Rattle.residue.specs.Lists.{some}
use Rattle.specification.specs.Space.{Space, Divides, same}

module _ (D : Space) where
  open D use {q, m, Mono, one, x}

  -- x_(k+1), and its square
  abbrev pub variable : ℕ → Mono
  variable k = x k one

  abbrev pub square : ℕ → Mono
  square k = x k (x k one)

  -- no square of a variable divides it
  abbrev pub Squarefree : Mono → Type 0
  Squarefree a = (k : ℕ) → k < m → ¬ Divides D (square k) a

  -- the modulus is 2, and a square is a variable times something in one way only
  pub record Boolean : Type 0 where
    pub two : q ≡ 1
    pub square_of : {k j : ℕ} {c : Mono} → k < m → j < m → square k ≡ x j c → c ≡ variable k

  -- a stands in the list
  unfoldable pub is_in : Mono → List Mono → Bool
  is_in a l = some (λ b. same D a b) l
