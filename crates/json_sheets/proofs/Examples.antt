-- Document 02's example and the one of no state, computed down from the definition of the basis.
use mathlib.Core.Path.{◌≡◌, refl, ap, ◌∙◌}
use Rattle.residue.specs.Lists.{same_list}
use Rattle.residue.specs.Inverse.{inverse_below, inverse_of}
use Rattle.residue.specs.Modulus.{primes, is_one_of, is_modulus}
use Rattle.residue.specs.Layout.{groups, fill, in_places}
use Rattle.monomial.specs.Order.{order_of, cmp}
use Rattle.specification.specs.Extension.{slot, minus, without, divided, extended, gap, first, newton, grow}
use Rattle.specification.specs.BasisOf.{basis_of}
use Rattle.specification.specs.Instance.{monomial_of, point_of}
use Rattle.specification.specs.Tables.{tables_of, states_table, standard_table, leads_table, coefficients_table}
use Rattle.writing.specs.Rows.{in_table}
use Rattle.json_text.specs.Documents.{written}
use Rattle.json_text.specs.Tables.{document_in}
use Rattle.json_text.specs.Examples.{one_state, no_state, one_document, no_document}
use Rattle.json_text.proofs.Examples.{one_written, no_written}
use Rattle.json_sheets.specs.Sheets.{document_of}
use Rattle.json_sheets.specs.Examples.{one_settings, no_settings, one_tables, no_tables}

-- the tables of the points, as a document
pub one_sheet : document_of one_settings 1 1 one_tables ≡ one_document
unfolding document_of document_in one_tables tables_of states_table standard_table leads_table coefficients_table in_table groups fill in_places primes is_one_of is_modulus inverse_below inverse_of order_of cmp same_list slot minus without divided extended gap first newton grow basis_of monomial_of point_of
one_sheet = refl

pub no_sheet : document_of no_settings 0 1 no_tables ≡ no_document
unfolding document_of document_in no_tables tables_of states_table standard_table leads_table coefficients_table in_table groups fill in_places primes is_one_of is_modulus inverse_below inverse_of order_of cmp same_list slot minus without divided extended gap first newton grow basis_of monomial_of point_of
no_sheet = refl

-- So the text of the sheet of one state is document 02's, byte for byte, and that of no state the one expected.
pub one_text : written (document_of one_settings 1 1 one_tables) ≡ one_state
one_text = ap written one_sheet ∙ one_written

pub no_text : written (document_of no_settings 0 1 no_tables) ≡ no_state
no_text = ap written no_sheet ∙ no_written
