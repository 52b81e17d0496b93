-- What a text that is taken leaves, said by existence: docs/SCOPE.md, 'Reading text'.
use Rattle.std.specs.Prelude.{◌≡◌, List, [], ◌∷◌, ◌++◌, ◌↔◌, ℕ, ◌*◌, ◌<◌, ◌≤◌, ℤ, length, get_or, take, drop, T}
use Rattle.residue.specs.Sizes.{most_points, states_size, counts_size}
use Rattle.residue.specs.Lists.{Among}
use Rattle.residue.specs.Layout.{fill, row_at}
use Rattle.specification.specs.Levels.{no_repeat}
use Rattle.specification.specs.Counted.{points_of, times_in}
use Rattle.notation.specs.Forms.{Header}
use Rattle.comma_text.specs.reading.Text.{TextOutcome, read_outcome}
use Rattle.comma_text.specs.reading.Faults.{Says}
use Rattle.comma_text.specs.reading.Causes.{valued_by}

-- The distinct points of entries, in order of their first entries: when that of P comes, the points that have come are those before P.
pub record Firsts (points S : List (List ℕ)) : Type 0 where
  pub same : (P : List ℕ) → Among P points ↔ Among P S
  pub once : T (no_repeat points)
  pub order : (a : List (List ℕ)) (P : List ℕ) (b : List (List ℕ)) → points ≡ a ++ (P ∷ b)
      → (c : List (List ℕ)) × (d : List (List ℕ)) × (S ≡ c ++ (P ∷ d)) × ((Q : List ℕ) → Among Q c ↔ Among Q a)

-- The settings and n are answered. State i has bytes 8i to 8i+7 of the states, its value is byte i of the values and its count byte i of the counts; the other
-- bytes of the sizes are 0, and those beyond are as they were. The header's weights are the first eight bytes of the weights.
pub record Taken (text states values counts weights : List ℕ) (o : TextOutcome) : Type 0 where
  pub header : Header
  pub entries : List (List ℤ)
  pub says : Says text header entries
  pub points : List (List ℕ)
  pub firsts : Firsts points (points_of (valued_by header entries))
  pub few : length points ≤ most_points
  pub answer : o.answer
      ≡ record { refusal = 0; at = 0; modulus = header.modulus; variables = header.variables; order = header.order; n = length points }
  pub state : (i : ℕ) → i < length points → row_at 8 i o.states ≡ fill 8 (get_or points i [])
  pub value : (i : ℕ) → i < length points → (v : ℕ) → Among (get_or points i [], v) (valued_by header entries) → get_or o.values i 0 ≡ v
  pub count : (i : ℕ) → i < length points → get_or o.counts i 0 ≡ times_in (get_or points i []) (points_of (valued_by header entries))
  pub counts_few : (P : List ℕ) → times_in P (points_of (valued_by header entries)) ≤ 255
  pub unused_states : (i : ℕ) → 8 * length points ≤ i → i < states_size → get_or o.states i 0 ≡ 0
  pub unused : (i : ℕ) → length points ≤ i → i < most_points → (get_or o.values i 0 ≡ 0) × (get_or o.counts i 0 ≡ 0)
  pub weights_of : take 8 o.weights ≡ header.weights
  pub beyond : (drop states_size o.states ≡ drop states_size states) × (drop most_points o.values ≡ drop most_points values)
      × (drop counts_size o.counts ≡ drop counts_size counts) × (drop 8 o.weights ≡ drop 8 weights)

abbrev pub ReadTaken : Type 0
ReadTaken = (text states values counts weights : List ℕ) → let o = read_outcome text states values counts weights in
    o.answer.refusal ≡ 0 → Taken text states values counts weights o
