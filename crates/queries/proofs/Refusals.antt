-- The number of a call that answers from recognised tables is that of its look at them.
use mathlib.Core.Path.{◌≡◌, refl, sym}
use mathlib.Core.Bool.{false, not, ◌&&◌, or_comm, and_comm}
use mathlib.Core.List.{List, []}
use Prim.Native.Nat.{ℕ, ◌*◌, ◌/◌, ◌%◌}
use native.Mathlib.Decide.{ℕ_discrete}
use native.Mathlib.Omega.{arith}
use lib.IntN.{ℤ}
use lib.ListN.{length}
use lib.Dec.{eqb, ltb}
use borrow.Author.Tests.{eq-eqb, ne_eqb}
use Rattle.residue.specs.Layout.{groups}
use Rattle.specification.specs.declared.settings.Settings.{Settings}
use Rattle.specification.specs.Refusal.{first_of}
use Rattle.specification.specs.Settings.{settings_cases}
use Rattle.specification.specs.Levels.{in_range}
use Rattle.specification.specs.Tables.{Tables, too_short}
use Rattle.specification.specs.Solving.{check_refusal, values_cases, within_variables, remainder_cases}
use Rattle.recognition.specs.declared.looking.Faults.{Faults}
use Rattle.recognition.specs.Looking.{look_cases}

-- what each may find in the lengths that it is handed
abbrev pub values_faults : ℕ → ℕ → List ℤ → List ℕ → Faults
values_faults size n values buffer = record { short = ltb (length buffer) size; wrong = not (eqb (length values) n); many = false }

abbrev pub terms_faults : List ℤ → List ℕ → List ℕ → Faults
terms_faults coefficients exponents buffer = record {
  short = ltb (length buffer) 64;
  wrong = not (eqb (length exponents / 8) (length coefficients) && eqb (length exponents % 8) 0);
  many = ltb 256 (length coefficients);
}

-- a length that is 8 times another
pub eight_fold : (e k : ℕ) → (eqb (e / 8) k && eqb (e % 8) 0) ≡ eqb e (8 * k)
eight_fold e k = go (ℕ_discrete (e / 8) k) (ℕ_discrete (e % 8) 0)
  where
    go : Dec (e / 8 ≡ k) → Dec (e % 8 ≡ 0) → (eqb (e / 8) k && eqb (e % 8) 0) ≡ eqb e (8 * k)
    go (yes h) (yes z) = simp (eq-eqb (e / 8) k h, eq-eqb (e % 8) 0 z) (sym (eq-eqb e (8 * k) (omega arith)))
    go (yes h) (no z) = simp (eq-eqb (e / 8) k h, ne_eqb (e % 8) 0 z) (sym (ne_eqb e (8 * k) (λ y. z (omega arith))))
    go (no h) d = simp (ne_eqb (e / 8) k h) (sym (ne_eqb e (8 * k) (λ y. h (omega arith))))

module _ (s : Settings) (n r : ℕ) (t : Tables) where
  -- Checking: a case that never holds is none.
  pub check_cases : first_of 0 (look_cases s n r t (record { short = false; wrong = false; many = false }) [] []) ≡ check_refusal s n r t
  unfolding first_of settings_cases look_cases check_refusal within_variables groups in_range
  check_cases = refl

  -- Values at the points: there are no exponents.
  pub values_cases_lem : (size : ℕ) (values : List ℤ) (buffer : List ℕ)
      → first_of 0 (look_cases s n r t (values_faults size n values buffer) values []) ≡ first_of 0 (values_cases size s n r t values buffer)
  unfolding look_cases values_cases within_variables groups
  values_cases_lem size values buffer = rw (or_comm (ltb (length buffer) size) (too_short t)) refl

  -- A polynomial: where its lengths are right there are as many terms as coefficients.
  module _ (coefficients : List ℤ) (exponents buffer : List ℕ) where
    abbrev e : ℕ
    e = length exponents

    abbrev k : ℕ
    k = length coefficients

    pub terms_cases : first_of 0 (look_cases s n r t (terms_faults coefficients exponents buffer) coefficients exponents) ≡ first_of 0 (remainder_cases s n r t coefficients exponents buffer)
    unfolding first_of settings_cases look_cases remainder_cases
    terms_cases = go (ℕ_discrete e (8 * k))
      where
        go : Dec (e ≡ 8 * k)
            → first_of 0 (look_cases s n r t (terms_faults coefficients exponents buffer) coefficients exponents) ≡ first_of 0 (remainder_cases s n r t coefficients exponents buffer)
        go (yes z) =
            let q : e / 8 ≡ k = omega arith in
            rw (
              eight_fold e k,
              or_comm (ltb (length buffer) 64) (too_short t),
              or_comm (ltb 256 k) (ltb 64 n),
              q,
              and_comm (within_variables s.variables (groups 8 k exponents)) (in_range s.modulus coefficients),
            ) refl
        go (no z) = rw (eight_fold e k, ne_eqb e (8 * k) z, or_comm (ltb (length buffer) 64) (too_short t)) refl
