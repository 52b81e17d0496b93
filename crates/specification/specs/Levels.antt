-- Levels and their residues: docs/SCOPE.md, 'What the desk does'. A level that is out of range has no residue; 0 stands in its place, and no accepted call
-- has one.
use Rattle.std.specs.Prelude.{Bool, true, not, ◌&&◌, List, [], ◌∷◌, map, ℕ, ℤ, eqb, Option, Some, None, unwrap_or}
use Rattle.residue.specs.Level.{residue_of}
use Rattle.residue.specs.Lists.{every, some, same_list}

-- the number of the list of refusals for each answer
abbrev pub level_number : Option ℕ → ℕ
level_number (Some x) = 0
level_number None = 9

unfoldable pub is_residue : Option ℕ → Bool
is_residue l = eqb (level_number l) 0

unfoldable pub residue_or0 : Option ℕ → ℕ
residue_or0 l = unwrap_or l 0

-- each level is from -(p-1) to p-1
unfoldable pub in_range : ℕ → List ℤ → Bool
in_range p zs = every (λ z. is_residue (residue_of p z)) zs

unfoldable pub residues : ℕ → List ℤ → List ℕ
residues p zs = map (λ z. residue_or0 (residue_of p z)) zs

-- a point stands in a list of points: points are equal when their residues are
unfoldable pub is_among : List ℕ → List (List ℕ) → Bool
is_among P S = some (same_list P) S

-- no point equals an earlier one
unfoldable pub no_repeat : List (List ℕ) → Bool
no_repeat [] = true
no_repeat (P ∷ S) = not (is_among P S) && no_repeat S
