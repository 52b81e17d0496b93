-- Leaving a variable out (document 02, M-110): the call, and what of a basis is without x1.
use Rattle.std.specs.Prelude.{◌≡◌, Bool, not, cond, ◌&&◌, ◌||◌, List, [], ◌∷◌, ◌++◌, map, ℕ, ◌-◌, get_or, drop, replicate, eqb, leb, ltb}
use Rattle.residue.specs.Lists.{some}
use Rattle.monomial.specs.Insert.{removed_at}
use Rattle.specification.specs.declared.settings.Settings.{Settings}
use Rattle.specification.specs.Refusal.{Case, first_of}
use Rattle.specification.specs.Settings.{settings_cases}
use Rattle.specification.specs.Counted.{Counted, counts_of, gathered}
use Rattle.specification.specs.Tables.{Tables, too_short, held_in, recognised}
use Rattle.specification.specs.Adding.{Outcome, holding, by_refusal}
use Rattle.specification.specs.Needed.{occurs}
use Rattle.specification.specs.TablesRead.{exponents_in, rows_in}

-- each point as many times as it is counted
unfoldable pub repeated : Counted → List (List ℕ)
repeated [] = []
repeated (q ∷ L) = replicate q.1 q.0 ++ repeated L

-- The points without place k: 'States that become equal are one, at the place of the first, and their counts are added.'
unfoldable pub without_variable : ℕ → Counted → Counted
without_variable k L = gathered (map (removed_at k) (repeated L))

-- 'the settings with one gene and its weight fewer', of variable v, from 1; the weights are eight, so one that is 0 comes behind them
abbrev pub fewer : ℕ → Settings → Settings
fewer v s = record {
  modulus = s.modulus;
  variables = s.variables - 1;
  order = s.order;
  weights = removed_at (v - 1) s.weights ++ (0 ∷ []);
}

-- 'It refuses with 16 a gene number not from 1 to m, or any number where m is 1, before 6.'
unfoldable pub can_leave_out : Settings → ℕ → Bool
can_leave_out s v = leb 1 v && leb v s.variables && not (eqb s.variables 1)

-- Leaving variable v out of the basis of n, r and the tables t; `short` is whether one of the tables for the result is too short.
unfoldable pub leave_out_cases : Settings → ℕ → ℕ → Tables → ℕ → Bool → List Case
leave_out_cases s n r t v short = settings_cases s
    ++ ((not (can_leave_out s v), 16)
    ∷ (short || too_short t, 6)
    ∷ (ltb 64 n, 8)
    ∷ (not (recognised s n r t), 10)
    ∷ (some (ltb 255) (counts_of (without_variable (v - 1) (held_in s n t))), 13) ∷ [])

unfoldable pub leave_out_refusal : Settings → ℕ → ℕ → Tables → ℕ → Tables → ℕ
leave_out_refusal s n r t v u = first_of 0 (leave_out_cases s n r t v (too_short u))

-- the answer, and the lent tables u at exit, to which the result goes; t is not altered
unfoldable pub leave_out_outcome : Settings → ℕ → ℕ → Tables → ℕ → Tables → Outcome
leave_out_outcome s n r t v u = by_refusal (leave_out_refusal s n r t v u) u (holding (fewer v s) (without_variable (v - 1) (held_in s n t)) u)

-- x1 does not occur in a monomial
unfoldable pub is_free : List ℕ → Bool
is_free a = eqb (get_or a 0 0) 0

-- the monomials in which x1 does not occur, in their old order, as monomials in the other variables
unfoldable pub free_of : List (List ℕ) → List (List ℕ)
free_of [] = []
free_of (a ∷ l) = cond (is_free a) (drop 1 a ∷ free_of l) (free_of l)

-- the coefficients of those monomials
unfoldable pub free_row : List (List ℕ) → List ℕ → List ℕ
free_row [] cs = []
free_row (a ∷ l) [] = []
free_row (a ∷ l) (c ∷ cs) = cond (is_free a) (c ∷ free_row l cs) (free_row l cs)

-- x1 occurs in a row: in the lead, or in a standard monomial whose coefficient is not 0
unfoldable pub in_row : List (List ℕ) → List ℕ → List ℕ → Bool
in_row standard lead row = occurs 0 (1 ∷ row) (lead ∷ standard)

-- the leads and the coefficients of the rows in which x1 does not occur
unfoldable pub free_leads : List (List ℕ) → List (List ℕ) → List (List ℕ) → List (List ℕ)
free_leads standard [] rows = []
free_leads standard (a ∷ leads) [] = []
free_leads standard (a ∷ leads) (cs ∷ rows) = cond (in_row standard a cs) (free_leads standard leads rows) (drop 1 a ∷ free_leads standard leads rows)

unfoldable pub free_rows : List (List ℕ) → List (List ℕ) → List (List ℕ) → List (List ℕ)
free_rows standard [] rows = []
free_rows standard (a ∷ leads) [] = []
free_rows standard (a ∷ leads) (cs ∷ rows) = cond (in_row standard a cs) (free_rows standard leads rows) (free_row standard cs ∷ free_rows standard leads rows)

-- 'the new rows and standard monomials are exactly the old ones in which x1 does not occur, in their old order': of n, r and tables in m variables and n', r'
-- and tables in one fewer, by their bytes.
pub record Eliminates (m n r : ℕ) (t : Tables) (n' r' : ℕ) (t' : Tables) : Type 0 where
  pub standard : exponents_in (m - 1) n' t'.standard ≡ free_of (exponents_in m n t.standard)
  pub leads : exponents_in (m - 1) r' t'.leads ≡ free_leads (exponents_in m n t.standard) (exponents_in m r t.leads) (rows_in n r t.coefficients)
  pub rows : rows_in n' r' t'.coefficients ≡ free_rows (exponents_in m n t.standard) (exponents_in m r t.leads) (rows_in n r t.coefficients)
