-- Recognised tables as a document: it is that of the points that they hold.
use mathlib.Core.Path.{◌≡◌, sym, ◌∙◌, ap}
use mathlib.Core.Bool.{true}
use mathlib.Core.List.{List, map}
use Prim.Native.Nat.{ℕ, ◌≤◌}
use native.Mathlib.Omega.{arith}
use lib.ListN.{length, take, length-map}
use Rattle.residue.specs.Lists.{Among}
use Rattle.residue.specs.Layout.{fill, in_places, begins, length_fill}
use Rattle.residue.proofs.Tests.{of_true}
use Rattle.residue.proofs.Layouts.{fill_cut}
use Rattle.specification.specs.declared.settings.Settings.{Settings}
use Rattle.specification.specs.Polynomial.{Distinct}
use Rattle.specification.specs.BasisOf.{row_of}
use Rattle.specification.specs.Instance.{Monomial}
use Rattle.specification.specs.Tables.{Tables, space_under, points_under, standard_under, leads_under, rows_under, row_count, states_table, standard_table, leads_table, coefficients_table, points_in, held_in, recognised}
use Rattle.residue.specs.Sizes.{counts_size}
use Rattle.specification.proofs.ideal.Lists.{among_map}
use Rattle.specification.proofs.ideal.Basis.{interpolant_fits}
use Rattle.specification.proofs.agreement.Points.{read_count}
use Rattle.specification.specs.Points.{Points}
use Rattle.specification.specs.Settings.{Accepted, weighs_first, right_weights}
use Rattle.specification.proofs.agreement.Drawings.{laws_under, distinct_points, few_rows, standard_count}
use Rattle.specification.proofs.counted.Held.{points_held, counts_held}
use Rattle.specification.proofs.Recognised.{Parts, recognised_parts, read}
use Rattle.writing.specs.Rows.{in_table}
use Rattle.writing.proofs.TableRows.{length_table}
use Rattle.json_text.specs.Documents.{weight_count}
use Rattle.json_text.specs.Tables.{document_in}
use Rattle.json_sheets.specs.Sheets.{document_of, document_under, settings_in, state_count, row_count_in, tables_in, sized}
use Rattle.json_sheets.proofs.TableBack.{begins_with, begins_long, table_read}
use Rattle.json_sheets.proofs.Weights.{weights_filled}

-- Settings that no call refuses, with eight weights as their type has them, and what is recognised under them.
pub record Checked (s : Settings) (n r : ℕ) (t : Tables) : Type 0 where
  pub settings : Accepted s
  pub eight : length s.weights ≡ 8
  pub few : n ≤ 64
  pub known : recognised s n r t ≡ true

-- a filled list that a lent one begins with, as the front of the lent one
pub front_is : (k : ℕ) (l t : List ℕ) → begins (fill k l) t ≡ true → fill k l ≡ take k t
front_is k l t e = sym (begins_with (fill k l) t e) ∙ ap (λ (j : ℕ). take j t) (length_fill k l)

module _ (s : Settings) (n r : ℕ) (t : Tables) (h : Checked s n r t) where
  abbrev pub S : List (List ℕ)
  S = points_in s n t.states

  abbrev pub ok : Accepted s
  ok = h.settings

  pub parts : Parts s n r t
  parts = recognised_parts s n r t h.known

  pub given : Points s S
  given = read s ok n t.states h.few (of_true parts.once)

  pub count : length S ≡ n
  count = read_count s n t.states

  pub distinct : Distinct (space_under s) (points_under s S)
  distinct = distinct_points s ok S given

  -- the weights that the order has
  pub right : weighs_first (weight_count s.order s.variables) s.weights ≡ true
  unfolding right_weights
  right = ok.weights

  pub few_leads : r ≤ 449
  few_leads = omega (arith, parts.rows, few_rows s ok S given)

  -- the lists' lengths
  pub exponents_long : (l : List (Monomial s.variables)) (a : List ℕ) → Among a (map (λ b. b.0) l) → length a ≡ s.variables
  exponents_long l a w = let q = among_map (λ (b : Monomial s.variables). b.0) l a w in ap (λ (z : List ℕ). length z) q.2 ∙ q.0.1

  pub standards : length (map (λ a. a.0) (standard_under s S)) ≡ n
  standards = length-map (standard_under s S) _ ∙ standard_count s ok S distinct ∙ count

  pub leads : length (map (λ a. a.0) (leads_under s S)) ≡ r
  unfolding row_count
  leads = length-map (leads_under s S) _ ∙ sym parts.rows

  pub rows : length (rows_under s S) ≡ r
  unfolding row_count
  rows = length-map (leads_under s S) _ ∙ sym parts.rows

  pub rows_long : (a : List ℕ) → Among a (rows_under s S) → length a ≡ n
  rows_long a w =
      let q = among_map (row_of (space_under s) (points_under s S)) (leads_under s S) a w in
      ap (λ (z : List ℕ). length z) q.2 ∙ (interpolant_fits (space_under s) (laws_under s ok) (points_under s S) distinct _).long ∙ standard_count s ok S distinct ∙ count

  -- the five tables
  points_read : in_table 8 n s.variables t.states ≡ S
  unfolding states_table
  points_read = table_read 8 512 n s.variables S t.states parts.states count (omega (arith, h.few)) ok.few (λ P w. (given.points P w).long)

  standard_read : in_table 8 n s.variables t.standard ≡ map (λ a. a.0) (standard_under s S)
  unfolding standard_table
  standard_read = table_read 8 512 n s.variables _ t.standard parts.standard standards (omega (arith, h.few)) ok.few (exponents_long (standard_under s S))

  leads_read : in_table 8 r s.variables t.leads ≡ map (λ a. a.0) (leads_under s S)
  unfolding leads_table
  leads_read = table_read 8 3592 r s.variables _ t.leads parts.leads leads (omega (arith, few_leads)) ok.few (exponents_long (leads_under s S))

  rows_read : in_table 64 r n t.coefficients ≡ rows_under s S
  unfolding coefficients_table
  rows_read = table_read 64 28736 r n (rows_under s S) t.coefficients parts.coefficients rows (omega (arith, few_leads)) h.few rows_long

  counts_there : 64 ≤ length t.counts
  counts_there = omega (arith, begins_long (fill counts_size (fill n t.counts)) t.counts parts.counts, length_fill counts_size (fill n t.counts))

  counts_read : take n t.counts ≡ fill n t.counts
  counts_read = sym (fill_cut n t.counts (omega (arith, counts_there, h.few)))

  -- The document of a sheet is that of the points that it holds.
  pub document_held : document_of s n r t ≡ document_under s (held_in s n t)
  unfolding document_of document_in document_under
  document_held = rw (points_held s n t, counts_held s n t, points_read, standard_read, leads_read, rows_read, counts_read)

  -- The settings, n, r and the bytes of the five sizes are read back from it.
  pub count_back : state_count (document_of s n r t) ≡ n
  unfolding document_of document_in
  count_back = ap length counts_read ∙ length_fill n t.counts

  pub rows_back : row_count_in (document_of s n r t) ≡ r
  unfolding document_of document_in
  rows_back = length_table 8 r s.variables t.leads

  pub settings_back : settings_in (document_of s n r t) ≡ s
  unfolding document_of document_in settings_in
  settings_back =
      let e : fill 8 (take (weight_count s.order s.variables) s.weights) ≡ s.weights =
      ap (λ (k : ℕ). fill k (take (weight_count s.order s.variables) s.weights)) (sym h.eight) ∙ weights_filled (weight_count s.order s.variables) s.weights right in
      ap (λ (w : List ℕ). record { modulus = s.modulus; variables = s.variables; order = s.order; weights = w }) e

  pub tables_back : tables_in (document_of s n r t) ≡ sized t
  unfolding tables_in document_of document_in sized states_table standard_table leads_table coefficients_table
  tables_back = λ i. record {
    states = (ap (λ (L : List (List ℕ)). fill 512 (in_places 8 L)) points_read ∙ front_is 512 (in_places 8 S) t.states parts.states) i;
    standard = (ap (λ (L : List (List ℕ)). fill 512 (in_places 8 L)) standard_read ∙ front_is 512 _ t.standard parts.standard) i;
    leads = (ap (λ (L : List (List ℕ)). fill 3592 (in_places 8 L)) leads_read ∙ front_is 3592 _ t.leads parts.leads) i;
    coefficients = (ap (λ (L : List (List ℕ)). fill 28736 (in_places 64 L)) rows_read ∙ front_is 28736 _ t.coefficients parts.coefficients) i;
    counts = (ap (fill 64) counts_read ∙ front_is 64 _ t.counts parts.counts) i;
  }
