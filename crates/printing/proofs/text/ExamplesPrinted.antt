-- The examples of specs/Examples.antt, computed from the definitions: one claim over their list.
use mathlib.Core.Path.{ap, ◌∙◌}
use mathlib.Core.Bool.{Bool, cond}
use mathlib.Core.List.{List, [], flatten, zip_with, zip}
use Prim.Native.Nat.{ℕ}
use lib.ListN.{length, replicate}
use lib.Dec.{T}
use borrow.Author.Tests.{le-ltb}
use Rattle.residue.specs.Lists.{every, same_list}
use Rattle.residue.specs.Modulus.{primes, is_one_of, is_modulus}
use Rattle.residue.specs.Inverse.{inverse_below, inverse_of}
use Rattle.residue.specs.Level.{residue_of}
use Rattle.residue.specs.Layout.{groups, fill, in_places, over}
use Rattle.residue.proofs.bytes.Equality.{same_is}
use Rattle.residue.proofs.Searches.{each_of}
use Rattle.monomial.specs.Order.{order_of, cmp}
use Rattle.specification.specs.Refusal.{first_of}
use Rattle.specification.specs.Settings.{no_weights, weighs_first, right_weights}
use Rattle.specification.specs.Levels.{is_residue, residue_or0, in_range, residues}
use Rattle.specification.specs.Extension.{slot, minus, without, divided, extended, gap, first, newton, grow}
use Rattle.specification.specs.BasisOf.{basis_of, value_at}
use Rattle.specification.specs.Instance.{monomial_of, point_of}
use Rattle.specification.specs.Counted.{entered, entered_all, gathered}
use Rattle.specification.specs.Tables.{states_table, points_in}
use Rattle.specification.specs.Needed.{alike, apart, contrary, pair_in, wiring_of}
use Rattle.notation.specs.Digits.{is_digit, digits_from, decimal_number}
use Rattle.notation.specs.Fields.{after_cr, ending, front, is_plain, unquoted, with, quoted, field_of}
use Rattle.notation.specs.Fields.{kept, with_first, behind_field, record_from, record_of, behind_record, records_from, records_of}
use Rattle.notation.specs.Forms.{negative, level_of, together, levels_of, entry_of, weight_of, weight_first, behind_weight, weights_of, order_word}
use Rattle.notation.specs.Forms.{header, modulus_and_order, last_field, header_from, header_of}
use Rattle.comma_text.specs.reading.Text.{further, first_fault, is_none, header_in, entry_in, entries_in, form_fault, contents_of}
use Rattle.comma_text.specs.reading.Text.{entry_point, entry_value, is_outside, valued_point, valued_points}
use Rattle.comma_text.specs.reading.Text.{first_outside, first_after, too_many, too_often, first_value, other_value}
use Rattle.comma_text.specs.reading.Text.{short_buffers, header_cases, points_cases, entries_cases, read_cases}
use Rattle.comma_text.specs.reading.Text.{first_values, text_accepted, text_refused, text_decided, read_outcome}
use Rattle.writing.specs.Decimal.{digits_of, decimal}
use Rattle.printing.specs.Lines.{spaced, spaced_numbers, line, labelled, first_line, standard_lines, row_line, row_lines, basis_lines, refusal_line}
use Rattle.printing.specs.Text.{lines_of, lines_read, lines_for, Printed, printed, print_outcome}
use Rattle.printing.specs.Examples.{in_lines, Example, Prints, examples, PrintedExamples}

-- the lines of an example, and whether they are those that it prints
read : Example → List ℕ
read e = lines_read (read_outcome (in_lines e.text) (replicate 512 0) (replicate 64 0) (replicate 64 0) no_weights)

tested : Example → Bool
tested e = same_list (read e) (in_lines e.prints)

of_test : (e : Example) → T (tested e) → Prints e
unfolding read tested Prints print_outcome lines_for
of_test e t buffer h =
    ap (λ (b : Bool). put (cond b [] (read e))) (le-ltb (length buffer) 131072 h) ∙ ap put (same_is (read e) (in_lines e.prints) t)
  where
    put : List ℕ → Printed
    put lines = printed (length lines) (over lines buffer)

all : T (every tested examples)
unfolding read tested lines_read lines_of spaced spaced_numbers line labelled first_line standard_lines row_line row_lines basis_lines refusal_line digits_of decimal
    first_values text_accepted text_refused text_decided read_outcome
    first_outside first_after too_many too_often first_value other_value short_buffers header_cases points_cases entries_cases read_cases
    further first_fault is_none header_in entry_in entries_in form_fault contents_of entry_point entry_value is_outside valued_point valued_points
    negative level_of together levels_of entry_of weight_of weight_first behind_weight weights_of order_word header modulus_and_order last_field header_from header_of
    after_cr ending front is_plain unquoted with quoted field_of kept with_first behind_field record_from record_of
    behind_record records_from records_of is_digit digits_from decimal_number
    alike apart contrary pair_in wiring_of states_table points_in entered entered_all gathered
    monomial_of point_of basis_of value_at slot minus without divided extended gap first newton grow
    is_residue residue_or0 in_range residues first_of weighs_first right_weights order_of cmp groups fill in_places over residue_of
    inverse_below inverse_of primes is_one_of is_modulus same_list flatten zip_with zip
all = tt

pub printed_examples : PrintedExamples
printed_examples e w = of_test e (each_of tested examples all e w)
