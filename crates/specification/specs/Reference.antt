-- Lists of operations on lent tables: docs/SCOPE.md, 'The two desks', whose words stand in quotes here. The reference list is document 01's book.
use Rattle.std.specs.Prelude.{◌≢◌, not, cond, List, [], ◌∷◌, ◌++◌, ℕ, ℤ, length, take, drop, eqb}
use Rattle.specification.specs.declared.settings.Settings.{Settings}
use Rattle.specification.specs.Refusal.{first_of}
use Rattle.specification.specs.Levels.{in_range, residues, is_among}
use Rattle.specification.specs.Counted.{Counted, points_of, entered, lowered, overfull}
use Rattle.specification.specs.Tables.{Tables, five_tables}
use Rattle.specification.specs.Adding.{Outcome, add_outcome, add_refusal}
use Rattle.specification.specs.Withdrawing.{withdraw_refusal, withdraw_outcome}

-- An operation, with what it is handed beside settings, n, r and tables: 'its levels may be anything, and of any number'.
pub data Operation : Type 0 where
  adding : (levels : List ℤ) → Operation
  withdrawing : (levels : List ℤ) → Operation

-- its outcome, and its number of 'Refused, in this order of checking', whatever it is handed
unfoldable pub outcome_of : Operation → Settings → ℕ → ℕ → Tables → Outcome
outcome_of (adding levels) s n r t = add_outcome s n r t levels
outcome_of (withdrawing levels) s n r t = withdraw_outcome s n r t levels

unfoldable pub refusal_of : Operation → Settings → ℕ → ℕ → Tables → ℕ
refusal_of (adding levels) s n r t = add_refusal s n r t levels
refusal_of (withdrawing levels) s n r t = withdraw_refusal s n r t levels

-- what the reference list answers to it: 'the first number here whose case holds'
unfoldable pub reference_answer : Operation → Settings → Counted → ℕ
reference_answer (adding levels) s L = first_of 0
    ((not (eqb (length levels) s.variables), 7)
    ∷ (not (in_range s.modulus levels), 9)
    ∷ overfull (entered (residues s.modulus levels) L))
reference_answer (withdrawing levels) s L = first_of 0
    ((not (eqb (length levels) s.variables), 7)
    ∷ (not (in_range s.modulus levels), 9)
    ∷ (not (is_among (residues s.modulus levels) (points_of L)), 12) ∷ [])

-- its points with their counts after it, where the answer is 0: it 'raises the count of the point that has these residues, or appends them with the count 1',
-- or 'lowers that count, and at 0 takes the point out'
unfoldable pub list_after : Operation → Settings → Counted → Counted
list_after (adding levels) s L = entered (residues s.modulus levels) L
list_after (withdrawing levels) s L = lowered (residues s.modulus levels) L

-- the reference list after it: with any other answer 'it does not change'
unfoldable pub reference_after : Operation → Settings → Counted → Counted
reference_after o s L = cond (eqb (reference_answer o s L) 0) (list_after o s L) L

-- One of the five tables that the list works on; the five with other bytes in one.
pub data Table : Type 0 where
  states : Table
  standard : Table
  leads : Table
  coefficients : Table
  counts : Table

unfoldable pub table_in : Table → Tables → List ℕ
table_in states t = t.states
table_in standard t = t.standard
table_in leads t = t.leads
table_in coefficients t = t.coefficients
table_in counts t = t.counts

unfoldable pub with_table : Table → List ℕ → Tables → Tables
with_table states u t = five_tables u t.standard t.leads t.coefficients t.counts
with_table standard u t = five_tables t.states u t.leads t.coefficients t.counts
with_table leads u t = five_tables t.states t.standard u t.coefficients t.counts
with_table coefficients u t = five_tables t.states t.standard t.leads u t.counts
with_table counts u t = five_tables t.states t.standard t.leads t.coefficients u

-- What an interposed call, 'with other settings, n, r or tables', is lent in the place of a table: `count` bytes of one of the list's tables, from the place
-- `from` on, or any other bytes.
pub data Lent : Type 0 where
  part : (k : Table) (from count : ℕ) → Lent
  other : (bytes : List ℕ) → Lent

unfoldable pub lent : Lent → Tables → List ℕ
lent (part k from count) t = take count (drop from (table_in k t))
lent (other bytes) t = bytes

-- the list's tables after a call that left `end` in what it was lent: a part stands in its place again
unfoldable pub after : Lent → List ℕ → Tables → Tables
after (part k from count) end t = with_table k (take from (table_in k t) ++ (end ++ drop count (drop from (table_in k t)))) t
after (other bytes) end t = t

-- The tables that an interposed call is lent, and the list's tables after it. Their order is all one, as 'no call .. is lent a byte twice that it may write';
-- where a call is refused, even if parts overlap (proofs/agreement/Run).
unfoldable pub lent_tables : Lent → Lent → Lent → Lent → Lent → Tables → Tables
lent_tables a b c d e t = five_tables (lent a t) (lent b t) (lent c t) (lent d t) (lent e t)

unfoldable pub tables_after : Lent → Lent → Lent → Lent → Lent → Tables → Tables → Tables
tables_after a b c d e end t =
    after a end.states (after b end.standard (after c end.leads (after d end.coefficients (after e end.counts t))))

-- A call of 'the list': one of its own operations, or an interposed one, which may be handed any settings, n, r and tables.
pub data Event : Type 0 where
  own : (o : Operation) → Event
  interposed : (s : Settings) (n r : ℕ) (states standard leads coefficients counts : Lent) (o : Operation) → Event

-- an addition of the list
abbrev pub addition : List ℤ → Event
addition levels = own (adding levels)

-- the n and r last returned, and the tables as last left
pub record Held : Type 0 where
  pub n : ℕ
  pub r : ℕ
  pub tables : Tables

-- the outcome of one call
unfoldable pub outcome_at : Settings → Held → Event → Outcome
outcome_at s h (own o) = outcome_of o s h.n h.r h.tables
outcome_at s h (interposed u n r a b c d e o) = outcome_of o u n r (lent_tables a b c d e h.tables)

-- what is held after one of the list's own: 'the n and r of the last answer that had them, and the tables'; they come with the number 0 alone
unfoldable pub keeping : Held → Outcome → Held
keeping h o =
    cond (eqb o.answer.refusal 0) (record { n = o.answer.n; r = o.answer.r; tables = o.tables }) (record { n = h.n; r = h.r; tables = o.tables })

unfoldable pub held_after : Settings → Held → Event → Held
held_after s h (own o) = keeping h (outcome_at s h (own o))
held_after s h (interposed u n r a b c d e o) =
    record { n = h.n; r = h.r; tables = tables_after a b c d e (outcome_at s h (interposed u n r a b c d e o)).tables h.tables }

-- the numbers that the calls of a list return, one after the other
unfoldable pub numbers : Settings → Held → List Event → List ℕ
numbers s h [] = []
numbers s h (e ∷ es) = (outcome_at s h e).answer.refusal ∷ numbers s (held_after s h e) es

unfoldable pub held_at_end : Settings → Held → List Event → Held
held_at_end s h [] = h
held_at_end s h (e ∷ es) = held_at_end s (held_after s h e) es

-- The reference list is told of the list's own operations; of an interposed call it 'is not told'.
unfoldable pub fed : Settings → Counted → Event → Counted
fed s L (own o) = reference_after o s L
fed s L (interposed u n r a b c d e o) = L

unfoldable pub reference_at_end : Settings → Counted → List Event → Counted
reference_at_end s L [] = L
reference_at_end s L (e ∷ es) = reference_at_end s (fed s L e) es

-- the numbers that are due: the reference list's answer to an operation of the list; an interposed call returns 'its number of that section'
unfoldable pub due_at : Settings → Counted → Held → Event → ℕ
due_at s L h (own o) = reference_answer o s L
due_at s L h (interposed u n r a b c d e o) = refusal_of o u n r (lent_tables a b c d e h.tables)

unfoldable pub due : Settings → Counted → Held → List Event → List ℕ
due s L h [] = []
due s L h (e ∷ es) = due_at s L h e ∷ due s (fed s L e) (held_after s h e) es

-- calls 'may be interposed if 'Refused, in this order of checking' refuses them'
unfoldable pub RefusesAt : Held → Event → Type 0
RefusesAt h (own o) = Unit {0}
RefusesAt h (interposed u n r a b c d e o) = refusal_of o u n r (lent_tables a b c d e h.tables) ≢ 0

unfoldable pub Refuses : Settings → Held → List Event → Type 0
Refuses s h [] = Unit {0}
Refuses s h (e ∷ es) = RefusesAt h e × Refuses s (held_after s h e) es
