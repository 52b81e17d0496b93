-- Levels: signed bytes, and their residues.
use Rattle.std.specs.Prelude.{ℕ, suc, ◌-◌, cond, ℤ, pos, negsuc, ltb, Option, Some, None}

-- A level below 0 gets its residue by adding p, any other is its own residue; a number not between -(p-1) and p-1 is no level, and refusal 9
-- (docs/SCOPE.md, 'What the desk does'). `negsuc k` is -(k + 1).
unfoldable pub residue_of : ℕ → ℤ → Option ℕ
residue_of p (pos k) = cond (ltb k p) (Some k) None
residue_of p (negsuc k) = cond (ltb (suc k) p) (Some (p - suc k)) None

-- the signed byte of the same bits: 255 means -1
unfoldable pub signed_of : ℕ → ℤ
signed_of b = cond (ltb b 128) (pos b) (negsuc (255 - b))
