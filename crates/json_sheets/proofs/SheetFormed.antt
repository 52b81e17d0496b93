-- The document of a sheet is well formed, so that its text is read back; and two sheets with one text are equal.
use mathlib.Core.Path.{◌≡◌, sym, ◌∙◌, ap}
use mathlib.Core.Bool.{true}
use mathlib.Core.List.{List, map}
use mathlib.Core.Option.{some}
use Prim.Native.Nat.{ℕ}
use native.Mathlib.Omega.{arith}
use lib.ListN.{length, take}
use lib.Dec.{eqb}
use borrow.Author.Tests.{eq-eqb}
use Rattle.residue.specs.Lists.{Among}
use Rattle.residue.proofs.level.Moduli.{modulus_range}
use Rattle.residue.specs.Layout.{length_fill}
use Rattle.specification.specs.declared.settings.Settings.{Settings}
use Rattle.specification.specs.Tables.{Tables, standard_under, leads_under, rows_under, held_in}
use Rattle.specification.proofs.counted.Held.{points_held, counts_held}
use Rattle.json_text.specs.Documents.{Document, written, weight_count, is_byte, are_bytes, is_table, fitting, well_formed}
use Rattle.json_sheets.specs.Sheets.{document_of, document_under, settings_in, state_count, row_count_in, tables_in, sized}
use Rattle.json_text.specs.Reading.{read}
use Rattle.json_text.proofs.DocumentTexts.{Bytes, bytes_all}
use Rattle.json_text.proofs.RoundTrip.{read_written, written_injective}
use Rattle.json_sheets.proofs.SheetDocuments.{Checked, S, given, count, right, exponents_long, standards, leads, rows, rows_long, document_held, count_back, rows_back, settings_back, tables_back}
use Rattle.json_sheets.proofs.Weights.{weights_counted, weights_small}
use Rattle.json_sheets.proofs.SheetBytes.{byte, every_of, lists_bytes, points_small, standard_small, leads_small, rows_small, counts_small}

pub table_is : (k m : ℕ) (L : List (List ℕ)) → length L ≡ k → ((a : List ℕ) → Among a L → length a ≡ m) → is_table k m L ≡ true
unfolding is_table
table_is k m L e h = rw (eq-eqb (length L) k e) (every_of (λ l. eqb (length l) m) L (λ a w. eq-eqb (length a) m (h a w)))

module _ (s : Settings) (n r : ℕ) (t : Tables) (h : Checked s n r t) where
  abbrev d : Document
  d = document_under s (held_in s n t)

  abbrev P : List (List ℕ)
  P = S s n r t h

  abbrev weights : List ℕ
  weights = take (weight_count s.order s.variables) s.weights

  weights_bytes : are_bytes weights ≡ true
  unfolding are_bytes
  weights_bytes = every_of is_byte weights (λ w q. byte w (omega (arith, weights_small (weight_count s.order s.variables) s.weights (right s n r t h) w q)))

  bytes : Bytes d
  unfolding document_under
  bytes = record {
    coefficients = rw (points_held s n t) (lists_bytes 100 (rows_under s P) (omega arith) (rows_small s n r t h));
    counts = rw (counts_held s n t) (counts_small s n r t h);
    leads = rw (points_held s n t) (lists_bytes 100 (map (λ a. a.0) (leads_under s P)) (omega arith) (leads_small s n r t h));
    modulus = byte s.modulus (omega (arith, modulus_range s.modulus h.settings.modulus));
    order = byte s.order (omega (arith, h.settings.order));
    points = rw (points_held s n t) (lists_bytes 100 P (omega arith) (points_small s n r t h));
    standard = rw (points_held s n t) (lists_bytes 100 (map (λ a. a.0) (standard_under s P)) (omega arith) (standard_small s n r t h));
    variables = byte s.variables (omega (arith, h.settings.few));
    weights = weights_bytes;
  }

  formed : well_formed d ≡ true
  unfolding well_formed fitting document_under
  formed =
      rw (
        bytes_all d bytes,
        points_held s n t,
        counts_held s n t,
        length_fill n t.counts,
        leads s n r t h,
        table_is n s.variables P (count s n r t h) (λ a q. ((given s n r t h).points a q).long),
        table_is n s.variables (map (λ a. a.0) (standard_under s P)) (standards s n r t h) (exponents_long s n r t h (standard_under s P)),
        table_is r s.variables (map (λ a. a.0) (leads_under s P)) (leads s n r t h) (exponents_long s n r t h (leads_under s P)),
        table_is r n (rows_under s P) (rows s n r t h) (rows_long s n r t h),
        eq-eqb (length weights) (weight_count s.order s.variables) (weights_counted (weight_count s.order s.variables) s.weights (right s n r t h)),
      )

  pub sheet_formed : well_formed (document_of s n r t) ≡ true
  sheet_formed = rw (document_held s n r t h) formed

  -- The text of a sheet is read back.
  pub sheet_read : read (written (document_of s n r t)) ≡ some (document_of s n r t)
  sheet_read = read_written (document_of s n r t) sheet_formed

-- 'Two settings and sheets give equal text only if they are equal themselves': settings, n, r, and the bytes of the five sizes.
pub record Same (s s' : Settings) (n n' r r' : ℕ) (t t' : Tables) : Type 0 where
  pub settings : s ≡ s'
  pub counts : n ≡ n'
  pub rows_same : r ≡ r'
  pub tables : sized t ≡ sized t'

pub same_text : (s s' : Settings) (n n' r r' : ℕ) (t t' : Tables) → Checked s n r t → Checked s' n' r' t'
    → written (document_of s n r t) ≡ written (document_of s' n' r' t')
    → Same s s' n n' r r' t t'
same_text s s' n n' r r' t t' h h' e =
    let c = document_of s n r t in
    let c' = document_of s' n' r' t' in
    let q : c ≡ c' = written_injective c c' (sheet_formed s n r t h) (sheet_formed s' n' r' t' h') e in
    record {
      settings = sym (settings_back s n r t h) ∙ ap settings_in q ∙ settings_back s' n' r' t' h';
      counts = sym (count_back s n r t h) ∙ ap (λ (d : Document). state_count d) q ∙ count_back s' n' r' t' h';
      rows_same = sym (rows_back s n r t h) ∙ ap (λ (d : Document). row_count_in d) q ∙ rows_back s' n' r' t' h';
      tables = sym (tables_back s n r t h) ∙ ap tables_in q ∙ tables_back s' n' r' t' h';
    }
