-- 'A sheet names its states' (document 02, M-113; docs/SCOPE.md, section of that name): what a sheet is, and that every row of it is zero at a state.
use Rattle.std.specs.Prelude.{◌≡◌, true, List, ℕ, suc, ◌-◌, ◌≤◌}
use Rattle.residue.specs.Congruence.{Mod}
use Rattle.residue.specs.Lists.{Among}
use Rattle.specification.specs.declared.settings.Settings.{Settings}
use Rattle.specification.specs.Settings.{Accepted}
use Rattle.specification.specs.Space.{Space}
use Rattle.specification.specs.Polynomial.{Polynomial, eval}
use Rattle.specification.specs.Ideal.{row_polynomials}
use Rattle.specification.specs.Instance.{point_of}
use Rattle.specification.specs.Tables.{Tables, space_under, recognised}
use Rattle.specification.specs.TablesRead.{monomials_in, rows_in}

-- Lent n, r and tables under settings that no call refuses, where a call gives neither 8 nor 10 for them.
pub record IsSheet (s : Settings) (n r : ℕ) (t : Tables) : Type 0 where
  pub settings : Accepted s
  pub few : n ≤ 64
  pub known : recognised s n r t ≡ true

-- each of the polynomials is zero at P
abbrev pub AllZero : (D : Space) → List (Polynomial D) → D.Pt → Type 0
AllZero D fs P = (f : Polynomial D) → Among f fs → Mod (suc D.q) (eval D f P) 0

-- the rows that stand in n, r and the three tables of algebra, each a lead plus its combination of the standard monomials; the states are not read
unfoldable pub rows_lent : (s : Settings) → ℕ → ℕ → Tables → List (Polynomial (space_under s))
rows_lent s n r t = row_polynomials (space_under s)
    (monomials_in s.variables n t.standard) (monomials_in s.variables r t.leads) (rows_in n r t.coefficients)

-- 'every row is zero' at the state with these residues
unfoldable pub RowsZero : Settings → ℕ → ℕ → Tables → List ℕ → Type 0
RowsZero s n r t P = AllZero (space_under s) (rows_lent s n r t) (point_of (s.modulus - 1) s.variables P)
