-- Reading a sheet: its number, case by case, and what it leaves.
use mathlib.Core.Path.{◌≡◌, refl, ◌∙◌, ap}
use mathlib.Core.Bool.{Bool, false, ◌||◌, or-false}
use mathlib.Core.List.{List}
use mathlib.Core.Option.{some, none}
use Prim.Native.Nat.{ℕ, ◌≤◌, ◌<◌}
use native.Mathlib.Omega.{arith}
use lib.ListN.{length}
use lib.Dec.{ltb}
use borrow.Author.Tests.{ne_eqb, le-ltb, lt-ltb, ltb-false}
use Rattle.residue.proofs.Tests.{neither}
use Rattle.residue.specs.Sizes.{states_size, standard_size, leads_size, coefficients_size, counts_size}
use Rattle.residue.specs.Layout.{fill, in_places, over, length_fill}
use Rattle.specification.specs.declared.settings.Settings.{Settings}
use Rattle.specification.specs.Refusal.{first_of}
use Rattle.specification.specs.Tables.{Tables, five_tables, too_short}
use Rattle.specification.specs.Tables.{written as writtenOver}
use Rattle.specification.proofs.agreement.Refusals.{Large, large_of, not_short}
use Rattle.json_text.specs.Documents.{Document}
use Rattle.json_text.specs.Reading.{read, is_none}
use Rattle.json_text.specs.Tables.{shape_of, Laid}
use Rattle.json_text.specs.declared.documents.Shape.{Shape}
use Rattle.json_sheets.specs.Sheets.{settings_in, state_count, row_count_in, tables_in}
use Rattle.json_sheets.specs.Calls.{text_size, sheet_cases, received, read_refused, sheet_taken, read_accepted, document_said, document_cases, read_cases, read_outcome}
use Rattle.json_sheets.proofs.SheetDocuments.{few_leads}
use Rattle.json_sheets.proofs.Passed.{Passed, passed_of}

-- the tables of a document have their sizes
tables_large : (d : Document) → Large (tables_in d)
unfolding tables_in
tables_large d = record {
  states = omega (arith, length_fill states_size (in_places 8 d.points));
  standard = omega (arith, length_fill standard_size (in_places 8 d.standard));
  leads = omega (arith, length_fill leads_size (in_places 8 d.leads));
  coefficients = omega (arith, length_fill coefficients_size (in_places 64 d.coefficients));
  counts = omega (arith, length_fill counts_size d.counts);
}

-- a list in its size
laid_length : (k : ℕ) (l : List ℕ) {a : List ℕ} → a ≡ fill k l → length a ≡ k
laid_length k l e = ap (λ (z : List ℕ). length z) e ∙ length_fill k l

module _ (text : List ℕ) (t : Tables) (w : List ℕ) where
  pub read_long : text_size < length text → read_refused 1 t w ≡ read_outcome text t w
  unfolding read_outcome read_cases first_of
  read_long h = rw (lt-ltb text_size (length text) h) refl

  module _ (h : length text ≤ text_size) where
    pub read_broken : read text ≡ none → read_refused 19 t w ≡ read_outcome text t w
    unfolding read_outcome read_cases first_of is_none
    read_broken e = rw (le-ltb text_size (length text) h, e) refl

    module _ (d : Document) (e : read text ≡ some d) where
      said : document_said text ≡ d
      unfolding document_said
      said = rw e refl

      number_is : first_of 0 (read_cases text t w) ≡ first_of 0 (document_cases d t w)
      unfolding read_cases first_of is_none
      number_is = rw (le-ltb text_size (length text) h, said, e) refl

      pub read_refused_lem : (k : ℕ) → k ≡ first_of 0 (document_cases d t w) → (k ≡ 0 → ⊥) → read_refused k t w ≡ read_outcome text t w
      unfolding read_outcome
      read_refused_lem k q z = rw (number_is, ← q) (simp (ne_eqb k 0 z))

      pub read_accepted_lem : first_of 0 (document_cases d t w) ≡ 0 → read_accepted d t w ≡ read_outcome text t w
      unfolding read_outcome
      read_accepted_lem q = rw (number_is, q, said) refl

-- The document in local tables: the number by which it is judged.
module _ (d : Document) (t : Tables) (w : List ℕ) where
  judged_as : first_of 0 (sheet_cases (settings_in d) ((too_short t || ltb (length w) 8) || too_short (tables_in d)) (state_count d) (row_count_in d) (tables_in d))
      ≡ first_of 0 (document_cases d t w)
  unfolding document_cases
  judged_as = rw (not_short (tables_in d) (tables_large d), or-false) refl

  -- what is handed on of it
  module _ (shape : Shape) (c k l p s v : List ℕ) (is : shape ≡ shape_of d) (laid : Laid d c k l p s v) where
    pub tables_are : five_tables p s l c k ≡ tables_in d
    unfolding tables_in
    tables_are = λ i. record {
      states = laid.in_points i;
      standard = laid.in_standard i;
      leads = laid.in_leads i;
      coefficients = laid.in_coefficients i;
      counts = laid.in_counts i;
    }

    pub settings_are : ◌≡◌ {A = Settings} (record { modulus = shape.modulus; variables = shape.variables; order = shape.order; weights = v }) (settings_in d)
    unfolding settings_in shape_of
    settings_are = rw (is, laid.in_weights) refl

    -- the number by which it is judged
    pub judged_laid : (b : Bool) → b ≡ (too_short t || ltb (length w) 8)
        → first_of 0 (sheet_cases (record { modulus = shape.modulus; variables = shape.variables; order = shape.order; weights = v })
        (b || too_short (five_tables p s l c k)) shape.n shape.r (five_tables p s l c k))
        ≡ first_of 0 (document_cases d t w)
    unfolding shape_of
    judged_laid b e =
        ap (λ (x : Settings). first_of 0 (sheet_cases x (b || too_short (five_tables p s l c k)) shape.n shape.r (five_tables p s l c k))) settings_are
        ∙ ap (λ (u : Tables). first_of 0 (sheet_cases (settings_in d) (b || too_short u) shape.n shape.r u)) tables_are
        ∙ ap (λ (z : Shape). first_of 0 (sheet_cases (settings_in d) (b || too_short (tables_in d)) z.n z.r (tables_in d))) is
        ∙ ap (λ (x : Bool). first_of 0 (sheet_cases (settings_in d) (x || too_short (tables_in d)) (state_count d) (row_count_in d) (tables_in d))) e
        ∙ judged_as

    -- Nothing refuses it.
    module _ (fine : first_of 0 (document_cases d t w) ≡ 0) where
      passed : Passed (settings_in d) (too_short t || ltb (length w) 8) (state_count d) (row_count_in d) (tables_in d)
      unfolding document_cases settings_in
      passed = passed_of (settings_in d) (too_short t || ltb (length w) 8) (state_count d) (row_count_in d) (tables_in d) (length_fill 8 d.weights) fine

      enough : (too_short t ≡ false) × (ltb (length w) 8 ≡ false)
      enough = neither (too_short t) (ltb (length w) 8) passed.enough

      pub few_points : shape.n ≤ 64
      unfolding shape_of
      few_points = rw is passed.sheet.few

      pub few_rows : shape.r ≤ 449
      unfolding shape_of
      few_rows = rw is (few_leads (settings_in d) (state_count d) (row_count_in d) (tables_in d) passed.sheet)

      -- there is room for it in the lent tables and weights
      pub room : ((length p ≤ length t.states) × (length s ≤ length t.standard) × (length l ≤ length t.leads))
          × ((length c ≤ length t.coefficients) × (length k ≤ length t.counts))
      room = let h = large_of t enough.0 in (
        (omega (arith, laid_length states_size (in_places 8 d.points) laid.in_points, h.states), omega (arith, laid_length standard_size (in_places 8 d.standard) laid.in_standard, h.standard), omega (arith, laid_length leads_size (in_places 8 d.leads) laid.in_leads, h.leads)),
        (omega (arith, laid_length coefficients_size (in_places 64 d.coefficients) laid.in_coefficients, h.coefficients), omega (arith, laid_length counts_size d.counts laid.in_counts, h.counts)),
      )

      pub room_weights : length v ≤ length w
      room_weights = omega (arith, laid_length 8 d.weights laid.in_weights, ltb-false (length w) 8 enough.1)

      -- and what is left of it there
      pub assembled : (u : Tables) (x : List ℕ) → u ≡ writtenOver (five_tables p s l c k) t → x ≡ over v w
          → received (record { refusal = 0; modulus = shape.modulus; variables = shape.variables; order = shape.order; n = shape.n; r = shape.r }) u x
          ≡ read_accepted d t w
      unfolding read_accepted sheet_taken settings_in shape_of
      assembled u x hu hx = rw (is, hu, hx, tables_are, laid.in_weights) refl
