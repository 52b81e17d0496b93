-- What the agreement of the desks says of leaving a variable out (document 02, M-110): 'for the same gene and lent tables of the same lengths: the number and
-- each state's count for equal multisets; n, r and the standard, leads and coefficients tables for equal sets wherever both numbers are 0'.
use Rattle.std.specs.Prelude.{◌≡◌, List, ℕ, length}
use Rattle.specification.specs.declared.settings.Settings.{Settings}
use Rattle.specification.specs.Counted.{count_of}
use Rattle.specification.specs.Tables.{Tables, held_in}
use Rattle.specification.specs.Adding.{Outcome}
use Rattle.specification.specs.TablesRead.{SameAlgebra}

-- 'lent tables of the same lengths'
pub record SameLengths (u u' : Tables) : Type 0 where
  pub states : length u.states ≡ length u'.states
  pub standard : length u.standard ≡ length u'.standard
  pub leads : length u.leads ≡ length u'.leads
  pub coefficients : length u.coefficients ≡ length u'.coefficients
  pub counts : length u.counts ≡ length u'.counts

-- 'n, r and the standard, leads and coefficients tables'
pub record SameSheet (a b : Outcome) : Type 0 where
  pub count : a.answer.n ≡ b.answer.n
  pub rows : a.answer.r ≡ b.answer.r
  pub algebra : SameAlgebra a.tables b.tables

-- 'the number and each state's count': a refused call leaves no counts
pub record SameCounted (s : Settings) (a b : Outcome) : Type 0 where
  pub number : a.answer.refusal ≡ b.answer.refusal
  pub counts : a.answer.refusal ≡ 0 → (P : List ℕ) → count_of P (held_in s a.answer.n a.tables) ≡ count_of P (held_in s b.answer.n b.tables)
