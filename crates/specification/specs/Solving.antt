-- Checking the tables, the interpolant, the remainder and the wiring list: what each call answers and leaves in the lent buffer, refused or not.
use Rattle.std.specs.Prelude.{Bool, not, cond, ◌&&◌, ◌||◌, List, [], ◌∷◌, ◌++◌, ℕ, ◌*◌, ℤ, length, drop, eqb, ltb}
use Rattle.residue.specs.Lists.{every, all_zero}
use Rattle.residue.specs.Layout.{groups, fill, over}
use Rattle.specification.specs.declared.settings.Settings.{Settings}
use Rattle.specification.specs.Answers.{Wired}
use Rattle.specification.specs.Refusal.{Case, first_of}
use Rattle.specification.specs.Settings.{settings_cases}
use Rattle.specification.specs.Levels.{in_range, residues}
use Rattle.specification.specs.BasisOf.{interpolant_of, remainder_of}
use Rattle.specification.specs.Instance.{Monomial, monomial_of}
use Rattle.specification.specs.Tables.{Tables, space_under, points_under, too_short, points_in, recognised}
use Rattle.specification.specs.Needed.{wiring_of}

-- Checking lent tables.
unfoldable pub check_refusal : Settings → ℕ → ℕ → Tables → ℕ
check_refusal s n r t = first_of 0 (settings_cases s ++ ((too_short t, 6) ∷ (ltb 64 n, 8) ∷ (not (recognised s n r t), 10) ∷ []))

-- The answer of a call that fills a buffer: the refusal, and the buffer at exit.
pub record Filled : Type 0 where
  pub refusal : ℕ
  pub buffer : List ℕ

abbrev pub answering : ℕ → List ℕ → Filled
answering k buffer = record { refusal = k; buffer = buffer }

unfoldable pub filling : ℕ → List ℕ → List ℕ → Filled
filling k new buffer = record { refusal = k; buffer = cond (eqb k 0) (over new buffer) buffer }

-- The interpolant of n values in the points' order: 64 bytes.
unfoldable pub values_cases : ℕ → Settings → ℕ → ℕ → Tables → List ℤ → List ℕ → List Case
values_cases size s n r t values buffer = settings_cases s
    ++ ((too_short t || ltb (length buffer) size, 6)
    ∷ (not (eqb (length values) n), 7)
    ∷ (ltb 64 n, 8)
    ∷ (not (in_range s.modulus values), 9)
    ∷ (not (recognised s n r t), 10) ∷ [])

unfoldable pub interpolant_in : Settings → ℕ → Tables → List ℤ → List ℕ
interpolant_in s n t values = interpolant_of (space_under s) (points_under s (points_in s n t.states)) (residues s.modulus values)

unfoldable pub interpolate_outcome : Settings → ℕ → ℕ → Tables → List ℤ → List ℕ → Filled
interpolate_outcome s n r t values buffer =
    filling (first_of 0 (values_cases 64 s n r t values buffer)) (fill 64 (interpolant_in s n t values)) buffer

-- The wiring list of n values in the points' order (specs/Needed): the answer of the call, and the buffer at exit. They are the count and 8 bytes of numbers,
-- unused bytes 0, or a refusal alone.
pub record Listed : Type 0 where
  pub answer : Wired
  pub buffer : List ℕ

abbrev pub listed : Wired → List ℕ → Listed
listed a buffer = record { answer = a; buffer = buffer }

unfoldable pub listing : ℕ → List ℕ → List ℕ → Listed
listing k names buffer = record {
  answer = record { refusal = k; count = cond (eqb k 0) (length names) 0 };
  buffer = cond (eqb k 0) (over (fill 8 names) buffer) buffer;
}

unfoldable pub wiring_outcome : Settings → ℕ → ℕ → Tables → List ℤ → List ℕ → Listed
wiring_outcome s n r t values buffer =
    listing (first_of 0 (values_cases 8 s n r t values buffer)) (wiring_of s.variables (points_in s n t.states) (residues s.modulus values)) buffer

-- The remainder of a polynomial, term after term a coefficient and 8 exponents: 64 bytes.

-- no exponent of a variable above m but 0
unfoldable pub within_variables : ℕ → List (List ℕ) → Bool
within_variables m es = every (λ e. all_zero (drop m e)) es

unfoldable pub remainder_cases : Settings → ℕ → ℕ → Tables → List ℤ → List ℕ → List ℕ → List Case
remainder_cases s n r t coefficients exponents buffer = settings_cases s
    ++ ((too_short t || ltb (length buffer) 64, 6)
    ∷ (not (eqb (length exponents) (8 * length coefficients)), 7)
    ∷ (ltb 64 n || ltb 256 (length coefficients), 8)
    ∷ (not (in_range s.modulus coefficients && within_variables s.variables (groups 8 (length coefficients) exponents)), 9)
    ∷ (not (recognised s n r t), 10) ∷ [])

-- coefficients and exponents as a polynomial: repeated terms add up
unfoldable pub polynomial_of : (m : ℕ) → List ℕ → List (List ℕ) → List (ℕ × Monomial m)
polynomial_of m [] es = []
polynomial_of m (c ∷ cs) [] = []
polynomial_of m (c ∷ cs) (e ∷ es) = (c, monomial_of m e) ∷ polynomial_of m cs es

abbrev pub polynomial_under : (s : Settings) → List ℤ → List ℕ → List (ℕ × Monomial s.variables)
polynomial_under s coefficients exponents = polynomial_of s.variables (residues s.modulus coefficients) (groups 8 (length coefficients) exponents)

unfoldable pub remainder_in : Settings → ℕ → Tables → List ℤ → List ℕ → List ℕ
remainder_in s n t coefficients exponents =
    remainder_of (space_under s) (points_under s (points_in s n t.states)) (polynomial_under s coefficients exponents)

unfoldable pub remainder_outcome : Settings → ℕ → ℕ → Tables → List ℤ → List ℕ → List ℕ → Filled
remainder_outcome s n r t coefficients exponents buffer =
    filling (first_of 0 (remainder_cases s n r t coefficients exponents buffer)) (fill 64 (remainder_in s n t coefficients exponents)) buffer
