-- What reading a part of a document answers: the lengths of its lists, the lists in tables of zeros, and how reading goes on behind them.
use Rattle.std.specs.Prelude.{◌≡◌, List, ℕ, ◌≤◌, length, Option, Some, None}
use Rattle.std.proofs.Math.Option.{none}
use Rattle.residue.specs.Sizes.{states_size, standard_size, leads_size, coefficients_size, counts_size}
use Rattle.residue.specs.Layout.{fill, in_places}
use Rattle.json_text.specs.Places.{found, broken, document_at, middle_at, end_at, whole_at}
use Rattle.json_text.specs.Said.{lengths_of}
use Rattle.json_text.specs.declared.document_parts.Front.{Front}
use Rattle.json_text.specs.declared.document_parts.Middle.{Middle}
use Rattle.json_text.specs.declared.document_parts.End.{End}

pub record FrontIn (text : List ℕ) (r : Front) (coefficients counts leads : List ℕ) : Type 0 where
  pub of_coefficients : List (List ℕ)
  pub of_counts : List ℕ
  pub of_leads : List (List ℕ)
  pub goes_on : document_at text 0 ≡ middle_at of_coefficients of_counts of_leads text r.next
  pub inside : r.next ≤ length text
  pub rows_are : r.coefficients ≡ lengths_of of_coefficients
  pub n_is : r.n ≡ length of_counts
  pub leading_are : r.leads ≡ lengths_of of_leads
  pub in_coefficients : coefficients ≡ fill coefficients_size (in_places 64 of_coefficients)
  pub in_counts : counts ≡ fill counts_size of_counts
  pub in_leads : leads ≡ fill leads_size (in_places 8 of_leads)

abbrev pub FrontRead : List ℕ → Option Front → (coefficients counts leads : List ℕ) → Type 0
FrontRead text (Some r) coefficients counts leads = FrontIn text r coefficients counts leads
FrontRead text None coefficients counts leads = document_at text 0 ≡ broken

-- the members before them may have been any
pub record MiddleIn (text : List ℕ) (at : ℕ) (r : Middle) (points standard : List ℕ) : Type 0 where
  pub of_points : List (List ℕ)
  pub of_standard : List (List ℕ)
  pub goes_on : (a : List (List ℕ)) (b : List ℕ) (c : List (List ℕ)) → middle_at a b c text at ≡ end_at a b c r.modulus r.order of_points of_standard text r.next
  pub inside : r.next ≤ length text
  pub pointed_are : r.points ≡ lengths_of of_points
  pub standing_are : r.standard ≡ lengths_of of_standard
  pub in_points : points ≡ fill states_size (in_places 8 of_points)
  pub in_standard : standard ≡ fill standard_size (in_places 8 of_standard)

abbrev pub MiddleRead : List ℕ → ℕ → Option Middle → (points standard : List ℕ) → Type 0
MiddleRead text at (Some r) points standard = MiddleIn text at r points standard
MiddleRead text at None points standard = (a : List (List ℕ)) (b : List ℕ) (c : List (List ℕ)) → middle_at a b c text at ≡ broken

-- the text ends behind them; or no document is read, whatever stood before
pub record EndIn (text : List ℕ) (at : ℕ) (r : End) (weights : List ℕ) : Type 0 where
  pub of_weights : List ℕ
  pub goes_on : (a : List (List ℕ)) (b : List ℕ) (c : List (List ℕ)) (p o : ℕ) (u v : List (List ℕ)) → end_at a b c p o u v text at ≡ found (record {
    coefficients = a;
    counts = b;
    leads = c;
    modulus = p;
    order = o;
    points = u;
    standard = v;
    variables = r.variables;
    weights = of_weights;
  }) (length text)
  pub count_is : r.count ≡ length of_weights
  pub in_weights : weights ≡ fill 8 of_weights

abbrev pub EndRead : List ℕ → ℕ → Option End → (weights : List ℕ) → Type 0
EndRead text at (Some r) weights = EndIn text at r weights
EndRead text at None weights =
    (a : List (List ℕ)) (b : List ℕ) (c : List (List ℕ)) (p o : ℕ) (u v : List (List ℕ)) → whole_at text (end_at a b c p o u v text at) ≡ none
