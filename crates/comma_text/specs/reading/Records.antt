-- What the readers of records answer, by places in the text, in the terms of the definitions.
-- `Answer` is the code's Option, with Some and None; the definitions' own has some and none.
use Rattle.std.specs.Prelude.{◌≡◌, Bool, true, false, List, [], ◌∷◌, map, ℕ, suc, ◌+◌, ◌≤◌, ℤ, length, drop, Option as Answer, Some, None, Result, Ok, Err}
use Rattle.std.proofs.Math.Option
use Rattle.std.proofs.Math.Option.{Option, some, none}
use Rattle.notation.specs.Digits.{decimal_number}
use Rattle.notation.specs.Fields.{Field, field, broken, unquoted, quoted, field_of, Part, part, faulty, kept, record_of, records_of}
use Rattle.notation.specs.Forms.{level_of, entry_of, Header, header_of}
use Rattle.comma_text.specs.reading.Text.{not_refused, broken_at, entry_in, last_level}
use Rattle.notation.specs.Said.{with_sign}
use Rattle.comma_text.specs.reading.Answers.{Refusal}
use Rattle.comma_text.specs.declared.reading.records.LevelAt.{LevelAt}
use Rattle.comma_text.specs.declared.reading.records.HeaderAt.{HeaderAt}
use Rattle.comma_text.specs.declared.reading.records.Entry.{Entry}
use Rattle.comma_text.specs.declared.reading.records.Broken.{Broken}
use Rattle.specification.specs.declared.refusals.Fault.{Fault}
use Rattle.specification.specs.declared.refusals.Refusal.TheVariants.{Form}

-- a field by what its content says, if it has the form
unfoldable pub held : {A : Type 0} → Option A → Bool → List ℕ → Field A
held (some a) more rest = field a more rest
held none more rest = broken

unfoldable pub reading : {A B : Type 0} → (A → Option B) → Field A → Field B
reading f (field content more rest) = held (f content) more rest
reading f broken = broken

-- the field at the front, a level or a value
unfoldable pub level_field : List ℕ → Field ℤ
level_field l = reading level_of (field_of l)

-- a field from its content on, behind the quote that opens it if it has quotes
abbrev pub field_from : Bool → List ℕ → Field (List ℕ)
field_from true = quoted
field_from false = unquoted

-- a field from its digits on, behind its sign
unfoldable pub size_of : Bool → List ℕ → Option ℤ
size_of negative content = Option.map (with_sign negative) (decimal_number content)

unfoldable pub size_field : Bool → Bool → List ℕ → Field ℤ
size_field quotes negative l = reading (size_of negative) (field_from quotes l)

-- a record by what its fields say, if they have the form
unfoldable pub reads : {A B : Type 0} → (A → Option B) → Part A → Part B
reads f (part fields rest) = kept (f fields) rest
reads f faulty = faulty

-- the record at the front, the header or an entry
unfoldable pub header_part : List ℕ → Part Header
header_part l = reads header_of (record_of l)

unfoldable pub entry_part : ℕ → List ℕ → Part (List ℤ)
entry_part m l = reads (entry_of m) (record_of l)

-- the records of a text as entries
unfoldable pub entries_at : ℕ → List ℕ → List (Option (List ℤ))
entries_at m l = map (entry_in m) (records_of l)

-- Of each answer what it says, and that the place where the text goes on lies within.
unfoldable pub level_at_said : List ℕ → Answer LevelAt → Field ℤ
level_at_said text (Some l) = field (with_sign l.negative l.size) l.more (drop l.next text)
level_at_said text None = broken

abbrev pub LevelWithin : ℕ → Answer LevelAt → Type 0
LevelWithin n (Some l) = l.next ≤ n
LevelWithin n None = Unit {0}

-- docs/SCOPE.md's number for each case of an answer, with the record at fault: what was read is not refused, what breaks the rules of the text is, with 2
unfoldable pub field_refusal : {A : Type 0} → ℕ → Field A → Refusal
field_refusal «record» (field content more rest) = not_refused
field_refusal «record» broken = broken_at «record»

unfoldable pub level_refusal : ℕ → Answer LevelAt → Refusal
level_refusal «record» (Some l) = not_refused
level_refusal «record» None = broken_at «record»

-- `level_at` at a place of a record
pub record LevelRead (text : List ℕ) (at : ℕ) (r : Answer LevelAt) : Type 0 where
  pub said : level_at_said text r ≡ level_field (drop at text)
  pub number : («record» : ℕ) → level_refusal «record» r ≡ field_refusal «record» (level_field (drop at text))
  pub within : LevelWithin (length text) r

-- the header, with its weights in the lent buffer
unfoldable pub header_said : List ℕ → List ℕ → Answer HeaderAt → Part Header
header_said text weights (Some h) =
    part (record { variables = h.variables; modulus = h.modulus; order = h.order; weights = weights }) (drop h.next text)
header_said text weights None = faulty

abbrev pub HeaderWithin : ℕ → Answer HeaderAt → Type 0
HeaderWithin n (Some h) = h.next ≤ n
HeaderWithin n None = Unit {0}

unfoldable pub part_refusal : {A : Type 0} → ℕ → Part A → Refusal
part_refusal «record» (part said rest) = not_refused
part_refusal «record» faulty = broken_at «record»

-- the header is record 1
unfoldable pub header_refusal : Answer HeaderAt → Refusal
header_refusal (Some h) = not_refused
header_refusal None = broken_at 1

-- `read_header`
pub record HeaderRead (text weights : List ℕ) (r : Answer HeaderAt) : Type 0 where
  pub said : header_said text weights r ≡ header_part text
  pub number : header_refusal r ≡ part_refusal 1 (header_part text)
  pub within : HeaderWithin (length text) r

-- refusal 2 of this record
abbrev pub form_fault_at : ℕ → Fault
form_fault_at at = record { refusal = Form; at = at }

-- An entry ends behind its last level, or is refused with its fault.
pub data Checked : Type 0 where
  ends : (last : ℤ) (rest : List ℕ) → Checked
  refuses : (f : Fault) → Checked

unfoldable pub checked : ℕ → ℕ → Part (List ℤ) → Checked
checked at m (part levels rest) = ends (last_level m levels) rest
checked at m faulty = refuses (form_fault_at at)

-- the fault of a record that breaks the form
abbrev pub fault_of_record : Broken → Fault
fault_of_record b = record { refusal = b.refusal; at = b.at }

unfoldable pub entry_said : List ℕ → Result Entry Broken → Checked
entry_said text (Ok e) = ends (with_sign e.negative e.size) (drop e.next text)
entry_said text (Err b) = refuses (fault_of_record b)

-- an entry ends within the text, and a refusal has the record's own number
abbrev pub EntryWithin : ℕ → ℕ → Result Entry Broken → Type 0
EntryWithin n «record» (Ok e) = e.next ≤ n
EntryWithin n «record» (Err b) = b.at ≡ «record»

-- `check_entry` at a place, for an entry of m levels and a value whose record has this number
pub record EntryRead (text : List ℕ) (at m «record» : ℕ) (r : Result Entry Broken) : Type 0 where
  pub said : entry_said text r ≡ checked «record» m (entry_part m (drop at text))
  pub within : EntryWithin (length text) «record» r

-- the count of the entries, k being passed, or the refusal of the first record that is none, the header being 1
unfoldable pub counted_entries : ℕ → List (Option (List ℤ)) → Result ℕ Fault
counted_entries k [] = Ok k
counted_entries k (some levels ∷ l) = counted_entries (suc k) l
counted_entries k (none ∷ l) = Err (form_fault_at (k + 2))
