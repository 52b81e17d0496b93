-- A sheet as a document and back: docs/SCOPE.md, 'The sheet' and 'Sheets as JSON' (request M-112).
use Rattle.std.specs.Prelude.{map, ℕ, length, take}
use Rattle.residue.specs.Sizes.{states_size, standard_size, leads_size, coefficients_size, counts_size}
use Rattle.residue.specs.Layout.{fill, in_places}
use Rattle.specification.specs.declared.settings.Settings.{Settings}
use Rattle.specification.specs.Counted.{Counted, points_of, counts_of}
use Rattle.specification.specs.Tables.{Tables, standard_under, leads_under, rows_under}
use Rattle.json_text.specs.Documents.{Document, weight_count}
use Rattle.json_text.specs.Tables.{document_in}
use Rattle.json_text.specs.declared.documents.Shape.{Shape}

abbrev pub shape_under : Settings → ℕ → ℕ → Shape
shape_under s n r = record { modulus = s.modulus; variables = s.variables; order = s.order; n = n; r = r }

-- settings, n, r and lent tables as a document
unfoldable pub document_of : Settings → ℕ → ℕ → Tables → Document
document_of s n r t = document_in (shape_under s n r) t.coefficients t.counts t.leads t.states t.standard s.weights

-- The document of points with their counts, by the definitions of their basis. Recognised tables have that of the points that they hold (`document_held`).
unfoldable pub document_under : Settings → Counted → Document
document_under s L = record {
  coefficients = rows_under s (points_of L);
  counts = counts_of L;
  leads = map (λ a. a.0) (leads_under s (points_of L));
  modulus = s.modulus;
  order = s.order;
  points = points_of L;
  standard = map (λ a. a.0) (standard_under s (points_of L));
  variables = s.variables;
  weights = take (weight_count s.order s.variables) s.weights;
}

-- The way back: the settings, n, r, and the five tables in their sizes, each byte that is not so described 0.
unfoldable pub settings_in : Document → Settings
settings_in d = record { modulus = d.modulus; variables = d.variables; order = d.order; weights = fill 8 d.weights }

abbrev pub state_count : Document → ℕ
state_count d = length d.counts

abbrev pub row_count_in : Document → ℕ
row_count_in d = length d.leads

unfoldable pub tables_in : Document → Tables
tables_in d = record {
  states = fill states_size (in_places 8 d.points);
  standard = fill standard_size (in_places 8 d.standard);
  leads = fill leads_size (in_places 8 d.leads);
  coefficients = fill coefficients_size (in_places 64 d.coefficients);
  counts = fill counts_size d.counts;
}

-- the bytes of the five sizes of lent tables
unfoldable pub sized : Tables → Tables
sized t = record {
  states = take states_size t.states;
  standard = take standard_size t.standard;
  leads = take leads_size t.leads;
  coefficients = take coefficients_size t.coefficients;
  counts = take counts_size t.counts;
}
