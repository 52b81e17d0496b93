-- The JSON texts of sheets with equal members `coefficients`, `leads` and `standard` have equal sets of `points`, under the same settings (request M-113).
use mathlib.Core.Path.{◌≡◌, sym, ◌∙◌, ap, subst, subst₂}
use mathlib.Core.Bool.{true}
use mathlib.Core.Logic.{◌↔◌}
use mathlib.Core.List.{List}
use Prim.Native.Nat.{ℕ}
use lib.ListN.{length, take}
use Rattle.residue.specs.Sizes.{standard_size, leads_size, coefficients_size}
use Rattle.residue.specs.Lists.{Among}
use Rattle.residue.specs.Layout.{fill, in_places}
use Rattle.specification.specs.declared.settings.Settings.{Settings}
use Rattle.specification.specs.Refusal.{first_of}
use Rattle.specification.specs.Tables.{Tables, points_in}
use Rattle.specification.specs.TablesRead.{SameAlgebra}
use Rattle.specification.specs.SheetNames.{IsSheet}
use Rattle.specification.proofs.counted.Held.{points_held}
use Rattle.specification.proofs.SheetNames.{sheet_names}
use Rattle.json_text.specs.Documents.{Document, bytes_only, fitting, well_formed}
use Rattle.json_text.proofs.Digits.{both}
use Rattle.json_sheets.specs.Sheets.{document_of, document_under, settings_in, state_count, row_count_in, tables_in}
use Rattle.json_sheets.specs.Calls.{read_cases}
use Rattle.json_sheets.proofs.SheetDocuments.{Checked, few_leads, document_held}
use Rattle.json_sheets.proofs.DocumentBack.{fitting_parts, table_of, document_back}
use Rattle.json_sheets.proofs.SizedTables.{nothing, written_nothing}
use Rattle.json_sheets.proofs.ReadOnly.{d, is_text, passed}

-- a document that holds a sheet
module _ (e : Document) (formed : well_formed e ≡ true) (c : Checked (settings_in e) (state_count e) (row_count_in e) (tables_in e)) where
  fits : fitting e ≡ true
  unfolding well_formed
  fits = (both {a = bytes_only e} {b = fitting e} formed).1

  sheet : IsSheet (settings_in e) (state_count e) (row_count_in e) (tables_in e)
  sheet = record { settings = c.settings; few = c.few; known = c.known }

  -- as many states as standard monomials
  count : state_count e ≡ length e.standard
  count = sym (table_of (state_count e) e.variables e.standard (fitting_parts e fits).standard).0

  whole : document_of (settings_in e) (state_count e) (row_count_in e) (tables_in e) ≡ e
  unfolding settings_in
  whole = ap (document_of (settings_in e) (state_count e) (row_count_in e)) (sym (written_nothing (tables_in e)))
      ∙ document_back e nothing fits c.settings.few c.few (few_leads (settings_in e) (state_count e) (row_count_in e) (tables_in e) c)

  states : points_in (settings_in e) (state_count e) (tables_in e).states ≡ e.points
  unfolding document_under
  states = sym (points_held (settings_in e) (state_count e) (tables_in e))
      ∙ ap (λ (x : Document). x.points) (sym (document_held (settings_in e) (state_count e) (row_count_in e) (tables_in e) c) ∙ whole)

-- the three tables by the three members
same_algebra : (a b : Document) → a.coefficients ≡ b.coefficients → a.leads ≡ b.leads → a.standard ≡ b.standard → SameAlgebra (tables_in a) (tables_in b)
unfolding tables_in
same_algebra a b c l s = record {
  standard = ap (λ (x : List (List ℕ)). take standard_size (fill standard_size (in_places 8 x))) s;
  leads = ap (λ (x : List (List ℕ)). take leads_size (fill leads_size (in_places 8 x))) l;
  coefficients = ap (λ (x : List (List ℕ)). take coefficients_size (fill coefficients_size (in_places 64 x))) c;
}

documents_name : (a b : Document) → well_formed a ≡ true → well_formed b ≡ true
    → Checked (settings_in a) (state_count a) (row_count_in a) (tables_in a) → Checked (settings_in b) (state_count b) (row_count_in b) (tables_in b)
    → settings_in a ≡ settings_in b → a.coefficients ≡ b.coefficients → a.leads ≡ b.leads → a.standard ≡ b.standard
    → (P : List ℕ) → Among P a.points ↔ Among P b.points
documents_name a b fa fb ca cb s c l m P =
    let there : IsSheet (settings_in a) (state_count b) (row_count_in b) (tables_in b) =
    subst (λ (x : Settings). IsSheet x (state_count b) (row_count_in b) (tables_in b)) (sym s) (sheet b fb cb) in
    let n : state_count a ≡ state_count b = count a fa ca ∙ ap (λ (x : List (List ℕ)). length x) m ∙ sym (count b fb cb) in
    let q = sheet_names (sheet a fa ca) there n (ap (λ (x : List (List ℕ)). length x) l) (same_algebra a b c l m) P in
    subst₂ (λ (x y : List (List ℕ)). Among P x ↔ Among P y) (states a fa ca)
    (ap (λ (x : Settings). points_in x (state_count b) (tables_in b).states) s ∙ states b fb cb) q

pub texts_name : (text text' : List ℕ) (t t' : Tables) (w w' : List ℕ) (z : first_of 0 (read_cases text t w) ≡ 0) (z' : first_of 0 (read_cases text' t' w') ≡ 0)
    → let a = d text t w z in let b = d text' t' w' z' in
    settings_in a ≡ settings_in b → a.coefficients ≡ b.coefficients → a.leads ≡ b.leads → a.standard ≡ b.standard
    → (P : List ℕ) → Among P a.points ↔ Among P b.points
texts_name text text' t t' w w' z z' =
    documents_name (d text t w z) (d text' t' w' z') (is_text text t w z).1 (is_text text' t' w' z').1 (passed text t w z).sheet (passed text' t' w' z').sheet
