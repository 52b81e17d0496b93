-- Every call on lent tables with all that it is handed, and all that it answers and leaves: what is said of all calls is said over these (request M-106:
-- 'Refusal 11 is then never given by any call'; docs/SCOPE.md, 'Refused, in this order of checking': 'It comes alone'). The text reader is crate csv's.
use Rattle.std.specs.Prelude.{◌≡◌, not, ◌&&◌, List, [], ◌∷◌, ℕ, ◌*◌, ℤ, length, T, eqb, ltb}
use Rattle.residue.specs.Lists.{all_zero}
use Rattle.residue.specs.Layout.{groups}
use Rattle.specification.specs.declared.settings.Settings.{Settings}
use Rattle.specification.specs.Refusal.{Case, first_of}
use Rattle.specification.specs.Levels.{in_range}
use Rattle.specification.specs.Counted.{Counted}
use Rattle.specification.specs.Tables.{Tables}
use Rattle.specification.specs.Adding.{draw_outcome, draw_packed_outcome}
use Rattle.specification.specs.Solving.{check_refusal, interpolate_outcome, within_variables, remainder_outcome, wiring_outcome}
use Rattle.specification.specs.LeaveOut.{leave_out_outcome}
use Rattle.specification.specs.Reference.{Operation, outcome_of, reference_answer}

-- A call that is handed a basis, with what it is handed beside settings, n, r and tables.
pub data Request : Type 0 where
  -- adding or withdrawing
  operating : (o : Operation) → Request
  checking : Request
  interpolating : (values : List ℤ) (buffer : List ℕ) → Request
  dividing : (coefficients : List ℤ) (exponents buffer : List ℕ) → Request
  wiring : (values : List ℤ) (buffer : List ℕ) → Request

pub data Call : Type 0 where
  drawing : (s : Settings) (t : Tables) (levels : List ℤ) → Call
  drawing_packed : (s : Settings) (t : Tables) (levels : List ℤ) → Call
  handed : (q : Request) (s : Settings) (n r : ℕ) (t : Tables) → Call
  -- variable v out of the tables t, into the tables u
  leaving_out : (s : Settings) (n r : ℕ) (t : Tables) (v : ℕ) (u : Tables) → Call

-- All that a call answers and leaves: its number, the other parts of its answer, and at exit the tables and the buffer that it was lent. Tables that are only
-- read are as they were, and where a call is lent others to write they are not told; a call that is lent no buffer leaves none.
pub record Ending : Type 0 where
  pub number : ℕ
  pub parts : List ℕ
  pub tables : Tables
  pub buffer : List ℕ

abbrev pub leaving : ℕ → List ℕ → Tables → List ℕ → Ending
leaving k parts t buffer = record { number = k; parts = parts; tables = t; buffer = buffer }

unfoldable pub ending_of : Call → Ending
ending_of (drawing s t levels) = let o = draw_outcome s t levels in
    leaving o.answer.refusal (o.answer.n ∷ o.answer.r ∷ o.answer.cancellations ∷ []) o.tables []
ending_of (drawing_packed s t levels) = let o = draw_packed_outcome s t levels in leaving o.answer.refusal (o.answer.n ∷ o.answer.r ∷ []) o.tables []
ending_of (handed (operating o) s n r t) = let w = outcome_of o s n r t in leaving w.answer.refusal (w.answer.n ∷ w.answer.r ∷ []) w.tables []
ending_of (handed checking s n r t) = leaving (check_refusal s n r t) [] t []
ending_of (handed (interpolating values buffer) s n r t) = let o = interpolate_outcome s n r t values buffer in leaving o.refusal [] t o.buffer
ending_of (handed (dividing coefficients exponents buffer) s n r t) = let o = remainder_outcome s n r t coefficients exponents buffer in
    leaving o.refusal [] t o.buffer
ending_of (handed (wiring values buffer) s n r t) = let o = wiring_outcome s n r t values buffer in
    leaving o.answer.refusal (o.answer.count ∷ []) t o.buffer
ending_of (leaving_out s n r t v u) = let o = leave_out_outcome s n r t v u in leaving o.answer.refusal (o.answer.n ∷ o.answer.r ∷ []) o.tables []

abbrev pub number_of : Call → ℕ
number_of c = (ending_of c).number

-- what it was lent to write
unfoldable pub tables_lent : Call → Tables
tables_lent (drawing s t levels) = t
tables_lent (drawing_packed s t levels) = t
tables_lent (handed q s n r t) = t
tables_lent (leaving_out s n r t v u) = u

unfoldable pub buffer_lent : Call → List ℕ
buffer_lent (drawing s t levels) = []
buffer_lent (drawing_packed s t levels) = []
buffer_lent (handed (operating o) s n r t) = []
buffer_lent (handed checking s n r t) = []
buffer_lent (handed (interpolating values buffer) s n r t) = buffer
buffer_lent (handed (dividing coefficients exponents buffer) s n r t) = buffer
buffer_lent (handed (wiring values buffer) s n r t) = buffer
buffer_lent (leaving_out s n r t v u) = []

-- A refusal 'comes alone', and 'no lent byte changes'.
pub record Alone (c : Call) : Type 0 where
  pub parts : T (all_zero (ending_of c).parts)
  pub tables : (ending_of c).tables ≡ tables_lent c
  pub buffer : (ending_of c).buffer ≡ buffer_lent c

-- What is left to refuse of a call that is handed a basis of n points, in tables long enough and under settings that no call refuses: the cases that look at
-- its other arguments.
unfoldable pub values_left : ℕ → Settings → ℕ → List ℤ → List ℕ → List Case
values_left size s n values buffer =
    (ltb (length buffer) size, 6) ∷ (not (eqb (length values) n), 7) ∷ (not (in_range s.modulus values), 9) ∷ []

unfoldable pub terms_left : Settings → List ℤ → List ℕ → List ℕ → List Case
terms_left s coefficients exponents buffer =
    (ltb (length buffer) 64, 6)
    ∷ (not (eqb (length exponents) (8 * length coefficients)), 7)
    ∷ (ltb 256 (length coefficients), 8)
    ∷ (not (in_range s.modulus coefficients && within_variables s.variables (groups 8 (length coefficients) exponents)), 9) ∷ []

-- The number of such a call, from the points with their counts and the other arguments alone: no table, no n and no r is in it.
unfoldable pub number_with : Request → Settings → Counted → ℕ
number_with (operating o) s L = reference_answer o s L
number_with checking s L = 0
number_with (interpolating values buffer) s L = first_of 0 (values_left 64 s (length L) values buffer)
number_with (dividing coefficients exponents buffer) s L = first_of 0 (terms_left s coefficients exponents buffer)
number_with (wiring values buffer) s L = first_of 0 (values_left 8 s (length L) values buffer)
