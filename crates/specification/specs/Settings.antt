-- The settings of a call: docs/SCOPE.md, 'What the desk does', and the refusals that look at them alone.
use Rattle.std.specs.Prelude.{◌≡◌, Bool, true, false, not, cond, ◌&&◌, List, [], ◌∷◌, ℕ, zero, suc, ◌≤◌, replicate, eqb, leb, ltb}
use Rattle.residue.specs.Modulus.{is_modulus}
use Rattle.specification.specs.declared.settings.Settings.{Settings}
use Rattle.specification.specs.Refusal.{Case}

-- the weights of orders 0 to 2
abbrev pub no_weights : List ℕ
no_weights = replicate 8 0

-- 'eight weights: 1 to 99 for genes 1 to m, 0 otherwise, all 0 for orders 0 to 2' (request M-109); that they are eight is the type of the settings
unfoldable pub weighs_first : ℕ → List ℕ → Bool
weighs_first zero [] = true
weighs_first (suc m) [] = false
weighs_first zero (w ∷ ws) = eqb w 0 && weighs_first zero ws
weighs_first (suc m) (w ∷ ws) = leb 1 w && (leb w 99 && weighs_first m ws)

unfoldable pub right_weights : Settings → Bool
right_weights s = weighs_first (cond (eqb s.order 3) s.variables 0) s.weights

-- Settings by their numbers, with one of the orders 0 to 2.
abbrev pub settings_of : ℕ → ℕ → ℕ → Settings
settings_of p m order = record { modulus = p; variables = m; order = order; weights = no_weights }

unfoldable pub settings_cases : Settings → List Case
settings_cases s =
    (not (is_modulus s.modulus), 3)
    ∷ (not (leb 1 s.variables && leb s.variables 8), 4)
    ∷ (ltb 3 s.order, 5)
    ∷ (not (right_weights s), 15) ∷ []

-- What settings that no call refuses say.
pub record Accepted (s : Settings) : Type 0 where
  pub modulus : is_modulus s.modulus ≡ true
  pub some : 1 ≤ s.variables
  pub few : s.variables ≤ 8
  pub order : s.order ≤ 3
  pub weights : right_weights s ≡ true
