-- What an answer says: its number, and that there is one.
use mathlib.Core.Path.{◌≡◌, refl, sym, ap, ◌∙◌}
use mathlib.Core.List.{List}
use Prim.Native.Nat.{ℕ}
use lib.ListN.{length, drop}
use Rattle.notation.specs.Fields.{broken}
use Rattle.std.specs.Prelude.{Option, Some, None, IsSome}
use Rattle.comma_text.specs.reading.Records.{level_field, level_at_said, LevelWithin, field_refusal, level_refusal, LevelRead}
use Rattle.comma_text.specs.reading.Records.{header_part, header_said, HeaderWithin, part_refusal, header_refusal, HeaderRead}
use Rattle.comma_text.specs.declared.reading.records.LevelAt.{LevelAt}
use Rattle.comma_text.specs.declared.reading.records.HeaderAt.{HeaderAt}

level_number : (k : ℕ) (text : List ℕ) (r : Option LevelAt) → level_refusal k r ≡ field_refusal k (level_at_said text r)
unfolding level_refusal field_refusal level_at_said
level_number k text (Some l) = refl
level_number k text None = refl

pub level_read : (text : List ℕ) (at : ℕ) (r : Option LevelAt) → level_at_said text r ≡ level_field (drop at text) → LevelWithin (length text) r → LevelRead text at r
level_read text at r e w = record { said = e; number = λ k. level_number k text r ∙ ap (field_refusal k) e; within = w }

header_number : (text weights : List ℕ) (r : Option HeaderAt) → header_refusal r ≡ part_refusal 1 (header_said text weights r)
unfolding header_refusal part_refusal header_said
header_number text weights (Some h) = refl
header_number text weights None = refl

pub header_read : (text weights : List ℕ) (r : Option HeaderAt) → header_said text weights r ≡ header_part text → HeaderWithin (length text) r
    → HeaderRead text weights r
header_read text weights r e w = record { said = e; number = header_number text weights r ∙ ap (part_refusal 1) e; within = w }

-- a field that is not broken says a level
pub some_level : (text : List ℕ) (at : ℕ) (r : Option LevelAt) → LevelRead text at r → (level_field (drop at text) ≡ broken → ⊥) → IsSome r
unfolding level_at_said
some_level text at None h n = absurd (n (sym h.said))
some_level text at (Some l) h n = refl
