-- A document in lent tables: the numbers of its shape, and its lists in places of 8 and of 64 bytes. The sizes are those of a sheet (docs/SCOPE.md,
-- 'The sheet').
use Rattle.std.specs.Prelude.{◌≡◌, List, ℕ, ◌*◌, ◌≤◌, length, take, Option, Some, None}
use Rattle.std.proofs.Math.Option.{some, none}
use Rattle.residue.specs.Sizes.{states_size, standard_size, leads_size, coefficients_size, counts_size}
use Rattle.residue.specs.Layout.{fill, in_places}
use Rattle.writing.specs.Rows.{in_table}
use Rattle.json_text.specs.Documents.{Document, weight_count}
use Rattle.json_text.specs.Reading.{read}
use Rattle.json_text.specs.declared.documents.Shape.{Shape}
use Rattle.json_text.specs.declared.documents.Lists.{Lists}

-- n points of m residues, n standard monomials of m exponents, r leads of m exponents, r rows of n coefficients, n counts; weights of order 3 alone
unfoldable pub document_in : Shape → (coefficients counts leads points standard weights : List ℕ) → Document
document_in s coefficients counts leads points standard weights = record {
  coefficients = in_table 64 s.r s.n coefficients;
  counts = take s.n counts;
  leads = in_table 8 s.r s.variables leads;
  modulus = s.modulus;
  order = s.order;
  points = in_table 8 s.n s.variables points;
  standard = in_table 8 s.n s.variables standard;
  variables = s.variables;
  weights = take (weight_count s.order s.variables) weights;
}

-- the tables hold as much as the shape says
pub record Holds (s : Shape) (coefficients counts leads points standard weights : List ℕ) : Type 0 where
  pub few : s.n ≤ 64
  pub narrow : s.variables ≤ 8
  pub rows : 64 * s.r ≤ length coefficients
  pub counted : s.n ≤ length counts
  pub leading : 8 * s.r ≤ length leads
  pub pointed : 8 * s.n ≤ length points
  pub standing : 8 * s.n ≤ length standard
  pub weighed : weight_count s.order s.variables ≤ length weights

-- the same of lists that are lent together
abbrev pub lent_document : Shape → Lists → Document
lent_document s l = document_in s l.coefficients.now l.counts.now l.leads.now l.points.now l.standard.now l.weights.now

abbrev pub HoldsLent : Shape → Lists → Type 0
HoldsLent s l = Holds s l.coefficients.now l.counts.now l.leads.now l.points.now l.standard.now l.weights.now

-- there are as many states as counts, and as many rows as leads
unfoldable pub shape_of : Document → Shape
shape_of d = record { modulus = d.modulus; variables = d.variables; order = d.order; n = length d.counts; r = length d.leads }

-- the lists of a document in tables of a sheet's sizes, as far as there is room, and zeros behind them
pub record Laid (d : Document) (coefficients counts leads points standard weights : List ℕ) : Type 0 where
  pub in_coefficients : coefficients ≡ fill coefficients_size (in_places 64 d.coefficients)
  pub in_counts : counts ≡ fill counts_size d.counts
  pub in_leads : leads ≡ fill leads_size (in_places 8 d.leads)
  pub in_points : points ≡ fill states_size (in_places 8 d.points)
  pub in_standard : standard ≡ fill standard_size (in_places 8 d.standard)
  pub in_weights : weights ≡ fill 8 d.weights

-- what reading a text answers, and leaves in tables of zeros
abbrev pub DocumentRead : List ℕ → Option Shape → (coefficients counts leads points standard weights : List ℕ) → Type 0
DocumentRead text (Some shape) coefficients counts leads points standard weights =
    (d : Document) × (read text ≡ some d) × (shape ≡ shape_of d) × Laid d coefficients counts leads points standard weights
DocumentRead text None coefficients counts leads points standard weights = read text ≡ none
