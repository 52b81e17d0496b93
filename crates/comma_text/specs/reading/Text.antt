-- Reading a text: its refusals with the record at fault, in docs/SCOPE.md's order of checking, and what an accepted text leaves.
use Rattle.std.specs.Prelude.{Bool, true, false, not, cond, ◌&&◌, ◌||◌, List, [], ◌∷◌, ◌++◌, map, ℕ, suc, ℤ, pos, length, get_or, take, drop, eqb, leb, ltb}
use Rattle.std.proofs.Math.Option
use Rattle.std.proofs.Math.Option.{Option, some, none}
use Rattle.residue.specs.Sizes.{states_size, counts_size}
use Rattle.residue.specs.Modulus.{is_modulus}
use Rattle.residue.specs.Layout.{fill, over}
use Rattle.residue.specs.Lists.{same_list}
use Rattle.residue.specs.Lists as Lists
use Rattle.specification.specs.declared.settings.Settings.{Settings}
use Rattle.specification.specs.Settings.{no_weights, right_weights}
use Rattle.specification.specs.Levels.{in_range, residues}
use Rattle.specification.specs.Counted.{points_of, counts_of, gathered}
use Rattle.specification.specs.Tables.{states_table}
use Rattle.specification.specs.Refusal.{first_of}
use Rattle.comma_text.specs.reading.Answers.{Refusal, Read}
use Rattle.notation.specs.Fields.{records_of}
use Rattle.notation.specs.Forms.{Header, header_of, entry_of}

-- a place, from 1, one further on; 0, for no place, stays
unfoldable pub further : ℕ → ℕ
further k = cond (eqb k 0) 0 (suc k)

-- the place, from 1, of the first of a list that has a fault; 0 where none has
unfoldable pub first_fault : {A : Type 0} → (A → Bool) → List A → ℕ
first_fault f [] = 0
first_fault f (a ∷ l) = cond (f a) 1 (further (first_fault f l))

unfoldable pub is_none : {A : Type 0} → Option A → Bool
is_none none = true
is_none (some a) = false

-- the header, the first of the records; an empty text has none
unfoldable pub header_in : List (Option (List (List ℕ))) → Option Header
header_in [] = none
header_in (none ∷ l) = none
header_in (some fields ∷ l) = header_of fields

-- in the place of a header that is not there; what it says is looked at for no text that is taken
abbrev pub no_header : Header
no_header = record { variables = 0; modulus = 0; order = 0; weights = no_weights }

unfoldable pub entry_in : ℕ → Option (List (List ℕ)) → Option (List ℤ)
entry_in m none = none
entry_in m (some fields) = entry_of m fields

-- the records behind the header, each as its m levels and one value
unfoldable pub entries_in : ℕ → List (Option (List (List ℕ))) → List (Option (List ℤ))
entries_in m records = map (entry_in m) (drop 1 records)

-- The record of refusal 2, under a header that was read or not; 0 where there is none. It is looked for over the whole text, earliest record first.
unfoldable pub form_fault : Option Header → List (Option (List (List ℕ))) → ℕ
form_fault none records = 1
form_fault (some h) records = further (first_fault is_none (entries_in h.variables records))

-- What a text of right form says.
pub record Contents : Type 0 where
  pub header : Header
  pub entries : List (List ℤ)

unfoldable pub contents_of : Header → List (Option (List (List ℕ))) → Contents
contents_of h records = record { header = h; entries = map (λ e. Option.get_or e []) (entries_in h.variables records) }

-- of an entry: the point, the value, and whether a level or the value is out of range
unfoldable pub entry_point : ℕ → ℕ → List ℤ → List ℕ
entry_point p m l = residues p (take m l)

-- the last level of an entry, behind m others: its value, or what another text has in the value's place
unfoldable pub last_level : ℕ → List ℤ → ℤ
last_level m levels = get_or levels m (pos 0)

unfoldable pub entry_value : ℕ → ℕ → List ℤ → ℕ
entry_value p m l = get_or (residues p l) m 0

unfoldable pub is_outside : ℕ → List ℤ → Bool
is_outside p l = not (in_range p l)

-- An entry as its point with its value.
abbrev pub Valued : Type 0
Valued = List ℕ × ℕ

unfoldable pub valued_point : ℕ → ℕ → List ℤ → Valued
valued_point p m l = (entry_point p m l, entry_value p m l)

unfoldable pub valued_points : Contents → List Valued
valued_points e = map (valued_point e.header.modulus e.header.variables) e.entries

-- the place, from 1, of the first entry out of range; 0 where there is none
unfoldable pub first_outside : Contents → ℕ
first_outside e = first_fault (is_outside e.header.modulus) e.entries

-- the place, from 1, of the first of a list that has a fault by those before it, which are `seen`; 0 where none has
unfoldable pub first_after : {A : Type 0} → (List A → A → Bool) → List A → List A → ℕ
first_after f seen [] = 0
first_after f seen (a ∷ l) = cond (f seen a) 1 (further (first_after f (seen ++ (a ∷ [])) l))

-- with this entry there are more than 64 distinct points; with it a point is there more than 255 times
unfoldable pub too_many : List Valued → Valued → Bool
too_many seen q = ltb 64 (length (gathered (points_of (seen ++ (q ∷ [])))))

unfoldable pub too_often : List Valued → Valued → Bool
too_often seen q = Lists.some (ltb 255) (counts_of (gathered (points_of (seen ++ (q ∷ [])))))

-- the value of the first entry that has this point; v where none has
unfoldable pub first_value : List ℕ → ℕ → List Valued → ℕ
first_value P v [] = v
first_value P v (q ∷ l) = cond (same_list P q.0) q.1 (first_value P v l)

-- its value is not that of its point's first entry
unfoldable pub other_value : List Valued → Valued → Bool
other_value seen q = not (eqb (first_value q.0 q.1 seen) q.1)

-- A refusal with its record; 0 where a text is not refused.
abbrev pub refusal_at : ℕ → ℕ → Refusal
refusal_at refusal at = record { refusal = refusal; at = at }

abbrev pub not_refused : Refusal
not_refused = refusal_at 0 0

-- a record that breaks the rules of the text
abbrev pub broken_at : ℕ → Refusal
broken_at at = refusal_at 2 at

-- A case in which a text is refused: whether it holds, and its number with the record.
abbrev pub TextCase : Type 0
TextCase = Bool × Refusal

-- the settings that a header says
abbrev pub settings_by : Header → Settings
settings_by h = record { modulus = h.modulus; variables = h.variables; order = h.order; weights = h.weights }

-- one of the buffers lent for states, values, counts and weights, which have these lengths, is too short
unfoldable pub short_buffers : ℕ → ℕ → ℕ → ℕ → Bool
short_buffers states values counts weights = ltb states states_size || ltb values 64 || ltb counts counts_size || ltb weights 8

-- what the settings decide, and whether a lent buffer is too short: 3, 4 and 15 come with record 1, 6 with record 0; no text says an order that 5 refuses
unfoldable pub header_cases : Settings → Bool → List TextCase
header_cases s short =
    (not (is_modulus s.modulus), refusal_at 3 1)
    ∷ (not (leb 1 s.variables && leb s.variables 8), refusal_at 4 1)
    ∷ (not (right_weights s), refusal_at 15 1)
    ∷ (short, refusal_at 6 0) ∷ []

-- an entry at a place, from 1, is refused, the header being record 1; 0 is no place
abbrev pub entry_case : ℕ → ℕ → TextCase
entry_case refusal place = (not (eqb place 0), refusal_at refusal (suc place))

-- what the points and their values decide: 8, 13 and 14, each looked for over the whole text
unfoldable pub points_cases : List Valued → List TextCase
points_cases l = entry_case 8 (first_after too_many [] l) ∷ entry_case 13 (first_after too_often [] l) ∷ entry_case 14 (first_after other_value [] l) ∷ []

-- what the entries decide
unfoldable pub entries_cases : Contents → List TextCase
entries_cases e = entry_case 9 (first_outside e) ∷ points_cases (valued_points e)

-- all of them, in the order of checking
unfoldable pub read_cases : List ℕ → ℕ → Contents → Bool → List TextCase
read_cases text fault e short =
    (ltb 16384 (length text), refusal_at 1 0)
    ∷ (not (eqb fault 0), broken_at fault)
    ∷ (header_cases (settings_by e.header) short ++ entries_cases e)

-- the answer, and the lent buffers at exit
pub record TextOutcome : Type 0 where
  pub answer : Read
  pub states : List ℕ
  pub values : List ℕ
  pub counts : List ℕ
  pub weights : List ℕ

abbrev pub text_ended : Read → List ℕ → List ℕ → List ℕ → List ℕ → TextOutcome
text_ended r states values counts weights = record { answer = r; states = states; values = values; counts = counts; weights = weights }

-- the values of points, each that of its first entry
unfoldable pub first_values : List (List ℕ) → List Valued → List ℕ
first_values S l = map (λ P. first_value P 0 l) S

-- The points of an accepted text are distinct, in order of first occurrence, each with the number of its entries and the value of the first.
unfoldable pub text_accepted : Contents → List ℕ → List ℕ → List ℕ → List ℕ → TextOutcome
text_accepted e states values counts weights = let L = gathered (points_of (valued_points e)) in
    text_ended
    (record { refusal = 0; at = 0; modulus = e.header.modulus; variables = e.header.variables; order = e.header.order; n = length L })
    (over (states_table (points_of L)) states)
    (over (fill 64 (first_values (points_of L) (valued_points e))) values)
    (over (fill counts_size (counts_of L)) counts)
    (over e.header.weights weights)

-- A refusal comes with its record and changes nothing.
unfoldable pub text_refused : Refusal → List ℕ → List ℕ → List ℕ → List ℕ → TextOutcome
text_refused r states values counts weights =
    text_ended (record { refusal = r.refusal; at = r.at; modulus = 0; variables = 0; order = 0; n = 0 }) states values counts weights

unfoldable pub text_decided : Refusal → TextOutcome → List ℕ → List ℕ → List ℕ → List ℕ → TextOutcome
text_decided r done states values counts weights = cond (eqb r.refusal 0) done (text_refused r states values counts weights)

unfoldable pub read_outcome : List ℕ → List ℕ → List ℕ → List ℕ → List ℕ → TextOutcome
read_outcome text states values counts weights =
    let t = records_of text in
    let e = contents_of (Option.get_or (header_in t) no_header) t in
    let short = short_buffers (length states) (length values) (length counts) (length weights) in
    text_decided (first_of not_refused (read_cases text (form_fault (header_in t) t) e short)) (text_accepted e states values counts weights)
    states values counts weights
