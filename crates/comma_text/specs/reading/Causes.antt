-- For what a text is refused, said by existence: docs/SCOPE.md, 'Refused, in this order of checking'.
use Rattle.std.specs.Prelude.{◌≡◌, List, [], ◌∷◌, ◌++◌, map, ◌⊎◌, ◌≢◌, ◌↔◌, ℕ, suc, ◌<◌, ℤ, length, get_or, T, None}
use Rattle.residue.specs.Sizes.{most_points, states_size, counts_size}
use Rattle.residue.specs.Lists.{Among}
use Rattle.residue.specs.Modulus.{primes}
use Rattle.residue.specs.Level.{residue_of}
use Rattle.specification.specs.Levels.{no_repeat}
use Rattle.specification.specs.Counted.{points_of, times_in}
use Rattle.notation.specs.Forms.{Header}
use Rattle.comma_text.specs.reading.Text.{Valued, valued_point, read_outcome}
use Rattle.comma_text.specs.reading.Faults.{FirstAt, Says, Wrong, TextFault}

-- a level or the value of an entry is not between -(p-1) and p-1
abbrev pub OutOfRange : ℕ → List (List ℤ) → List ℤ → Type 0
OutOfRange p before zs = (z : ℤ) × Among z zs × (residue_of p z ≡ None)

-- the points of the entries up to this one
abbrev pub points_to : List Valued → Valued → List (List ℕ)
points_to before q = points_of (before ++ (q ∷ []))

-- more than 64 of them are distinct; one of them occurs more than 255 times
abbrev pub TooMany : List Valued → Valued → Type 0
TooMany before q = (S : List (List ℕ)) × (64 < length S) × T (no_repeat S) × ((P : List ℕ) → Among P S → Among P (points_to before q))

abbrev pub TooOften : List Valued → Valued → Type 0
TooOften before q = (P : List ℕ) × (255 < times_in P (points_to before q))

-- the first entry with this point has this value
pub record FirstValue (P : List ℕ) (v : ℕ) (l : List Valued) : Type 0 where
  pub before : List Valued
  pub after : List Valued
  pub made : l ≡ before ++ ((P, v) ∷ after)
  pub first : ¬ Among P (points_of before)

-- a replicate with another value than its point has
abbrev pub OtherValue : List Valued → Valued → Type 0
OtherValue before q = (v : ℕ) × FirstValue q.0 v before × (v ≢ q.1)

-- What a text is refused for, with its number.
pub data Cause : Type 0 where
  length_of_text : Cause
  form : Cause
  modulus : Cause
  variables : Cause
  weights : Cause
  buffers : Cause
  range : Cause
  points : Cause
  replicates : Cause
  values : Cause

unfoldable pub cause_number : Cause → ℕ
cause_number length_of_text = 1
cause_number form = 2
cause_number modulus = 3
cause_number variables = 4
cause_number weights = 15
cause_number buffers = 6
cause_number range = 9
cause_number points = 8
cause_number replicates = 13
cause_number values = 14

-- 8 for points directly before 13 (M-106), 15 where 5 would stand (M-109)
abbrev pub causes : List Cause
causes = length_of_text ∷ form ∷ modulus ∷ variables ∷ weights ∷ buffers ∷ range ∷ points ∷ replicates ∷ values ∷ []

-- the entries of what is said, as points with their values
abbrev pub valued_by : Header → List (List ℤ) → List Valued
valued_by h E = map (valued_point h.modulus h.variables) E

-- at the first entry with this fault, by the points and values of those before it; the header is record 1, so the entry with k others before it is record k + 2
abbrev pub AtEntry : List ℕ → (List Valued → Valued → Type 0) → ℕ → Type 0
AtEntry text Fault at = (h : Header) × (E : List (List ℤ)) × (k : ℕ) × Says text h E × FirstAt Fault (valued_by h E) k × (at ≡ suc (suc k))

-- a weight is 0: two digits write no other wrong one
abbrev pub WeightZero : Header → Type 0
WeightZero h = (h.order ≡ 3) × ((k : ℕ) × (k < h.variables) × (get_or h.weights k 0 ≡ 0))

-- A cause holds of a text and of the lengths of the buffers for states, values, counts and weights, at a record; record 0 is none.
unfoldable pub HoldsAt : List ℕ → (states values counts weights : ℕ) → Cause → ℕ → Type 0
HoldsAt text s v c w length_of_text at = (16384 < length text) × (at ≡ 0)
HoldsAt text s v c w form at = TextFault Wrong text at
HoldsAt text s v c w modulus at = (h : Header) × (E : List (List ℤ)) × Says text h E × (¬ Among h.modulus primes) × (at ≡ 1)
HoldsAt text s v c w variables at = (h : Header) × (E : List (List ℤ)) × Says text h E × ((h.variables < 1) ⊎ (8 < h.variables)) × (at ≡ 1)
HoldsAt text s v c w weights at = (h : Header) × (E : List (List ℤ)) × Says text h E × WeightZero h × (at ≡ 1)
HoldsAt text s v c w buffers at = ((s < states_size) ⊎ (v < most_points) ⊎ (c < counts_size) ⊎ (w < 8)) × (at ≡ 0)
HoldsAt text s v c w range at = (h : Header) × (E : List (List ℤ)) × (k : ℕ) × Says text h E × FirstAt (OutOfRange h.modulus) E k × (at ≡ suc (suc k))
HoldsAt text s v c w points at = AtEntry text TooMany at
HoldsAt text s v c w replicates at = AtEntry text TooOften at
HoldsAt text s v c w values at = AtEntry text OtherValue at

-- The first cause of a list that holds: it does so at this record, and none before it does at any.
pub record FirstCause (X : Cause → ℕ → Type 0) (l : List Cause) (c : Cause) (at : ℕ) : Type 0 where
  pub before : List Cause
  pub after : List Cause
  pub order : l ≡ before ++ (c ∷ after)
  pub holds : X c at
  pub none_before : (b : Cause) (k : ℕ) → Among b before → ¬ X b k

-- A text is refused with a number and a record where its cause is the first that holds there; it is not refused where none does; and there is no other number.
abbrev pub ReadRefusals : Type 0
ReadRefusals = (text states values counts weights : List ℕ) →
    let X = HoldsAt text (length states) (length values) (length counts) (length weights) in
    let answer = (read_outcome text states values counts weights).answer in
    ((c : Cause) (at : ℕ) → FirstCause X causes c at ↔ ((answer.refusal ≡ cause_number c) × (answer.at ≡ at)))
    × (((c : Cause) (at : ℕ) → ¬ X c at) ↔ (answer.refusal ≡ 0))
    × (answer.refusal ≢ 0 → (c : Cause) × (answer.refusal ≡ cause_number c))
