-- The number of a call: the refusals by settings and sizes first, then its own tests.
use mathlib.Core.Path.{◌≡◌, sym, ◌∙◌, ap}
use mathlib.Core.Bool.{Bool, true, false, not, ◌&&◌}
use mathlib.Core.List.{List, [], ◌∷◌, ◌++◌, append_assoc}
use Prim.Native.Nat.{ℕ}
use native.Mathlib.Omega.{arith}
use lib.Dec.{T, eqb}
use borrow.Author.Tests.{eq-eqb}
use Rattle.residue.proofs.Tests.{and_left, and_right}
use Rattle.specification.specs.declared.settings.Settings.{Settings}
use Rattle.specification.specs.Refusal.{Case, first_of}
use Rattle.specification.specs.Settings.{Accepted, settings_cases}
use Rattle.specification.proofs.Cases.{first_stop, first_on}
use Rattle.specification.proofs.agreement.Refusals.{accepted, settings_pass}
use Rattle.specification.proofs.Recognised.{none_of}

-- no case has the number j
abbrev lacks : ℕ → List Case → Bool
lacks j [] = true
lacks j (c ∷ l) = not (eqb c.1 j) && lacks j l

first_lacks : (j : ℕ) (l : List Case) → (j ≡ 0 → ⊥) → T (lacks j l) → first_of 0 l ≡ j → ⊥
unfolding first_of
first_lacks j [] z t e = z (sym e)
first_lacks j ((true, k) ∷ l) z t e = absurd (rw (eq-eqb k j e) at (and_left (not (eqb k j)) (lacks j l) t))
first_lacks j ((false, k) ∷ l) z t e = first_lacks j l z (and_right (not (eqb k j)) (lacks j l) t) e

module _ (s : Settings) (short wrong many : Bool) where
  -- the cases that look at numbers alone
  abbrev pub sizes : List Case
  sizes = (short, 6) ∷ (wrong, 7) ∷ (many, 8) ∷ []

  -- 10 is the tables' alone
  pub sizes_not_10 : first_of 0 (settings_cases s ++ sizes) ≡ 10 → ⊥
  unfolding settings_cases
  sizes_not_10 = first_lacks 10 (settings_cases s ++ sizes) (λ z. omega arith) tt

  -- what it says that none of them holds
  pub record Passed : Type 0 where
    pub none : first_of 0 (settings_cases s) ≡ 0
    pub settings : Accepted s
    pub long : short ≡ false
    pub right : wrong ≡ false
    pub few : many ≡ false

  pub passed : first_of 0 (settings_cases s ++ sizes) ≡ 0 → Passed
  passed e = let n = none_of s sizes tt e in record { none = n.0; settings = accepted s n.0; long = n.1.0; right = n.1.1.0; few = n.1.1.1.0 }

  module _ (rest : List Case) where
    together : (settings_cases s ++ sizes) ++ rest ≡ settings_cases s ++ (sizes ++ rest)
    together = append_assoc (settings_cases s) sizes rest

    -- one of them holds
    pub by_size : (k : ℕ) → k ≡ first_of 0 (settings_cases s ++ sizes) → (k ≡ 0 → ⊥) → k ≡ first_of 0 (settings_cases s ++ (sizes ++ rest))
    by_size k e n = e ∙ first_stop (settings_cases s ++ sizes) rest (λ z. n (e ∙ z)) ∙ ap (first_of 0) together

    -- none does: the call's own tests decide
    pub by_rest : first_of 0 (settings_cases s ++ sizes) ≡ 0 → first_of 0 rest ≡ first_of 0 (settings_cases s ++ (sizes ++ rest))
    by_rest e = let n = none_of s sizes tt e in first_on sizes rest n.1 ∙ sym (settings_pass s n.0 (sizes ++ rest))
