-- Levels, values and coefficients as C lends them: 'C hands signed bytes over as unsigned ones of equal bits: 255 means -1' (docs/SCOPE.md, 'What the desk
-- does'). An export takes them as `&[i8]`, and its contract sees a list of signed numbers; proofs/Bytes joins the two.
use Rattle.std.specs.Prelude.{List, map, ℕ, ℤ}
use Rattle.residue.specs.Level.{signed_of}

-- what bytes stand for
unfoldable pub levels_lent : List ℕ → List ℤ
levels_lent bytes = map signed_of bytes
