-- Document 02's example and the one of no state, computed.
use mathlib.Core.Path.{◌≡◌, refl}
use mathlib.Core.Bool.{true, false}
use mathlib.Core.List.{[], ◌∷◌}
use mathlib.Core.Option.{some}
use Rattle.residue.specs.Lists.{every}
use Rattle.notation.specs.Digits.{is_digit, digits_from, decimal_number}
use Rattle.notation.specs.Fields.{with_first, front}
use Rattle.writing.specs.Decimal.{decimal, digits_of}
use Rattle.json_text.specs.Writing.{separated, array, object, member, list_text, rows_text}
use Rattle.json_text.specs.Documents.{written, is_byte, is_table, fitting}
use Rattle.json_text.specs.Reading.{after, done, exactly, number_said, read_number, behind_item, read_items, read_opened, read_array, read_list, read_rows, read_member, read_document, whole, read, is_none}
use Rattle.json_text.specs.Examples.{one_state, no_state, one_document, no_document, text_before, text_between, text_with, faulty_texts, leads_before, leads_behind, leads_with, faulty_leads}

pub one_written : written one_document ≡ one_state
unfolding written object separated member list_text rows_text array decimal digits_of one_state
one_written = refl

pub no_written : written no_document ≡ no_state
unfolding written object separated member list_text rows_text array decimal digits_of no_state
no_written = refl

-- the reader, run on the bytes
pub one_read : read one_state ≡ some one_document
unfolding read whole read_document read_member read_rows read_list read_array read_opened read_items behind_item read_number number_said exactly done after with_first front is_digit digits_from decimal_number is_byte fitting is_table one_state
one_read = refl

pub no_read : read no_state ≡ some no_document
unfolding read whole read_document read_member read_rows read_list read_array read_opened read_items behind_item read_number number_said exactly done after with_first front is_digit digits_from decimal_number is_byte fitting is_table no_state
no_read = refl

-- Each of the faulty texts is refused; the same text with 1 and none is the example, and with 255 it is well formed.
pub faulty_texts_lem : every (λ t. is_none (read t)) faulty_texts ≡ true
unfolding read whole read_document read_member read_rows read_list read_array read_opened read_items behind_item read_number number_said exactly done after with_first front is_digit digits_from decimal_number is_byte fitting is_table is_none faulty_texts text_with text_before text_between
faulty_texts_lem = refl

pub example_parts : text_with (91 ∷ 49 ∷ 93 ∷ []) (91 ∷ 93 ∷ []) [] ≡ one_state
unfolding text_with text_before text_between one_state
example_parts = refl

pub largest_read : is_none (read (text_with (91 ∷ 50 ∷ 53 ∷ 53 ∷ 93 ∷ []) (91 ∷ 93 ∷ []) [])) ≡ false
unfolding read whole read_document read_member read_rows read_list read_array read_opened read_items behind_item read_number number_said exactly done after with_first front is_digit digits_from decimal_number is_byte fitting is_table is_none text_with text_before text_between
largest_read = refl

pub faulty_leads_lem : every (λ t. is_none (read t)) faulty_leads ≡ true
unfolding read whole read_document read_member read_rows read_list read_array read_opened read_items behind_item read_number number_said exactly done after with_first front is_digit digits_from decimal_number is_byte fitting is_table is_none faulty_leads leads_with leads_before leads_behind
faulty_leads_lem = refl

pub leads_parts : leads_with (91 ∷ 91 ∷ 48 ∷ 44 ∷ 48 ∷ 93 ∷ 93 ∷ []) ≡ no_state
unfolding leads_with leads_before leads_behind no_state
leads_parts = refl
