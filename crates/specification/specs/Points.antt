-- Lists of distinct points under settings: docs/SCOPE.md, 'What the desk does' and 'The sheet'.
use Rattle.std.specs.Prelude.{◌≡◌, List, ℕ, ◌-◌, ◌≤◌, length, T}
use Rattle.residue.specs.Lists.{Among}
use Rattle.specification.specs.declared.settings.Settings.{Settings}
use Rattle.specification.specs.Levels.{no_repeat}
use Rattle.specification.specs.Instance.{reduced}

-- m residues modulo p, as a point under the settings is
pub record IsPoint (s : Settings) (P : List ℕ) : Type 0 where
  pub long : length P ≡ s.variables
  pub same : reduced (s.modulus - 1) P ≡ P

-- At most 64 points, none twice.
pub record Points (s : Settings) (L : List (List ℕ)) : Type 0 where
  pub points : (P : List ℕ) → Among P L → IsPoint s P
  pub once : T (no_repeat L)
  pub few : length L ≤ 64
