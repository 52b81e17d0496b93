-- What is a comma, a break and a doubled quote, and what is none.
use mathlib.Core.Path.{refl}
use mathlib.Core.List.{[], ◌∷◌}
use Rattle.notation.specs.Words.{bytes_of}
use Rattle.notation.specs.Fields.{records_of, records_from, behind_record, record_of, record_from, behind_field, with_first}
use Rattle.notation.specs.Fields.{field_of, unquoted, quoted, with, ending, after_cr, front, is_plain}
use Rattle.notation.specs.Grammar.{IsText, BreaksAfter}
use Rattle.notation.proofs.Grammar.TextFound.{text_grammar, text_breaks}

-- A comma parts fields and a semicolon does not. The last break opens no record, and a blank line is a record of one empty field. CR alone breaks the record in
-- which it stands. A quote inside quotes is doubled.
pub text_examples :
    IsText (bytes_of "a,b\r\n") ((bytes_of "a" ∷ bytes_of "b" ∷ []) ∷ [])
    × IsText (bytes_of "a;b\n\n") ((bytes_of "a;b" ∷ []) ∷ ([] ∷ []) ∷ [])
    × BreaksAfter (bytes_of "a\nb\r") ((bytes_of "a" ∷ []) ∷ [])
    × IsText (bytes_of "\"a\"\"b\"") ((bytes_of "a\"b" ∷ []) ∷ [])
    × BreaksAfter (bytes_of "\"a\"b\"") []
unfolding records_of records_from behind_record record_of record_from behind_field with_first field_of unquoted quoted with ending after_cr front is_plain
text_examples = ((text_grammar _ _).1 refl, (text_grammar _ _).1 refl, (text_breaks _ _).1 refl, (text_grammar _ _).1 refl, (text_breaks _ _).1 refl)
