-- Calls that are handed the basis of points, in tables long enough and under settings that no call refuses: what is left to refuse looks at their other
-- arguments, and their outcomes are told by the points.
use mathlib.Core.Path.{◌≡◌, refl, ◌∙◌, ap}
use mathlib.Core.Bool.{Bool, true, false, cond}
use mathlib.Core.List.{List}
use Prim.Native.Nat.{ℕ, ◌≤◌}
use native.Mathlib.Decide.{ℕ_discrete}
use native.Mathlib.Omega.{arith}
use lib.IntN.{ℤ}
use lib.ListN.{length, length-map}
use lib.Dec.{eqb}
use borrow.Author.Tests.{eqb-true, ne_eqb, le-ltb, not-false}
use Rattle.residue.specs.Layout.{fill, over}
use Rattle.specification.specs.declared.settings.Settings.{Settings}
use Rattle.specification.specs.Refusal.{first_of}
use Rattle.specification.specs.Settings.{Accepted, settings_cases}
use Rattle.specification.specs.Levels.{in_range, residues}
use Rattle.specification.specs.Counted.{Counted, points_of}
use Rattle.specification.specs.BasisOf.{interpolant_of, remainder_of}
use Rattle.specification.specs.Tables.{Tables, space_under, points_under, row_count, tables_of, written, too_short, recognised}
use Rattle.specification.specs.Solving.{check_refusal, Filled, filling, values_cases, interpolant_in, interpolate_outcome, polynomial_under, remainder_cases}
use Rattle.specification.specs.Solving.{remainder_in, remainder_outcome, Listed, listing, wiring_outcome}
use Rattle.specification.specs.Needed.{wiring_of}
use Rattle.specification.specs.Reference.{refusal_of, reference_answer}
use Rattle.specification.specs.Adding.{Outcome}
use Rattle.specification.specs.Calls.{Request, operating, checking, interpolating, dividing, wiring, handed, ending_of, number_of, values_left, terms_left}
use Rattle.specification.specs.Calls.{number_with}
use Rattle.specification.proofs.Cases.{none_holds}
use Rattle.specification.proofs.counted.Gathered.{Entries}
use Rattle.specification.proofs.agreement.Refusals.{accepted, settings_pass, Large, not_short, written_large, written_held, written_points}
use Rattle.specification.proofs.agreement.Refusals.{written_recognised}
use Rattle.specification.proofs.agreement.Operations.{lawful}
use Rattle.specification.proofs.agreement.Run.{number_of_lem}

module _ (s : Settings) (fine : first_of 0 (settings_cases s) ≡ 0) (A : Counted) (h : Entries s A) (t : Tables) (large : Large t) where
  ok : Accepted s
  ok = accepted s fine

  -- the n, r and tables of A
  abbrev n : ℕ
  n = length A

  abbrev r : ℕ
  r = row_count s (points_of A)

  abbrev u : Tables
  u = written (tables_of s A) t

  few : n ≤ 64
  few = omega (arith, length-map A (λ q. q.0), h.points.few)

  long : too_short u ≡ false
  long = not_short u (written_large s A t large)

  known : recognised s n r u ≡ true
  known = written_recognised s ok A h t

  values_left_lem : (size : ℕ) (v : List ℤ) (buffer : List ℕ) → first_of 0 (values_cases size s n r u v buffer) ≡ first_of 0 (values_left size s n v buffer)
  unfolding values_cases values_left first_of
  values_left_lem size v buffer = settings_pass s fine _ ∙ rw (long, known, le-ltb 64 n few)

  terms_left_lem : (terms : List ℤ) (exponents buffer : List ℕ)
      → first_of 0 (remainder_cases s n r u terms exponents buffer) ≡ first_of 0 (terms_left s terms exponents buffer)
  unfolding remainder_cases terms_left first_of
  terms_left_lem terms exponents buffer = settings_pass s fine _ ∙ rw (long, known, le-ltb 64 n few)

  pub interpolate_told : (v : List ℤ) (buffer : List ℕ) → interpolate_outcome s n r u v buffer
      ≡ filling (first_of 0 (values_left 64 s n v buffer)) (fill 64 (interpolant_of (space_under s) (points_under s (points_of A)) (residues s.modulus v))) buffer
  unfolding interpolate_outcome interpolant_in
  interpolate_told v buffer = rw (values_left_lem 64 v buffer, written_points s ok A h t)

  pub remainder_told : (terms : List ℤ) (exponents buffer : List ℕ) → remainder_outcome s n r u terms exponents buffer
      ≡ filling (first_of 0 (terms_left s terms exponents buffer))
      (fill 64 (remainder_of (space_under s) (points_under s (points_of A)) (polynomial_under s terms exponents))) buffer
  unfolding remainder_outcome remainder_in
  remainder_told terms exponents buffer = rw (terms_left_lem terms exponents buffer, written_points s ok A h t)

  pub wiring_told : (v : List ℤ) (buffer : List ℕ) → wiring_outcome s n r u v buffer
      ≡ listing (first_of 0 (values_left 8 s n v buffer)) (wiring_of s.variables (points_of A) (residues s.modulus v)) buffer
  unfolding wiring_outcome
  wiring_told v buffer = rw (values_left_lem 8 v buffer, written_points s ok A h t)

  -- The number of any call, from the points with their counts and its other arguments alone.
  pub number_told : (q : Request) → number_of (handed q s n r u) ≡ number_with q s A
  unfolding ending_of number_with check_refusal interpolate_outcome remainder_outcome wiring_outcome filling listing first_of
  number_told (operating o) =
      ap (λ (w : Outcome). w.answer.refusal) ((lawful o).outcome s n r u)
      ∙ number_of_lem (refusal_of o s n r u) u s _
      ∙ (lawful o).number s fine n r u few long known ∙ ap (reference_answer o s) (written_held s ok A h t)
  number_told checking = settings_pass s fine _ ∙ rw (long, known, le-ltb 64 n few)
  number_told (interpolating v buffer) = values_left_lem 64 v buffer
  number_told (dividing terms exponents buffer) = terms_left_lem terms exponents buffer
  number_told (wiring v buffer) = values_left_lem 8 v buffer

-- Values that are equal at each of n points: one number, which is 0 only where they are n.
module _ (s : Settings) (size n : ℕ) (buffer : List ℕ) where
  pub as_many_values : (v : List ℤ) → first_of 0 (values_left size s n v buffer) ≡ 0 → length v ≡ n
  unfolding values_left
  as_many_values v e = eqb-true (length v) n (not-false _ (none_holds _ tt e).1.0)

  pub same_left : (v w : List ℤ) → length v ≡ length w → (length w ≡ n → in_range s.modulus v ≡ in_range s.modulus w)
      → first_of 0 (values_left size s n v buffer) ≡ first_of 0 (values_left size s n w buffer)
  unfolding values_left first_of
  same_left v w e f = go (ℕ_discrete (length w) n)
    where
      go : Dec (length w ≡ n) → first_of 0 (values_left size s n v buffer) ≡ first_of 0 (values_left size s n w buffer)
      go (yes z) = rw (e, f z)
      go (no z) = rw (e, ne_eqb (length w) n z)

-- what a call puts into a buffer matters where its number is 0
pub same_filling : (k : ℕ) (a b buffer : List ℕ) → (k ≡ 0 → a ≡ b) → filling k a buffer ≡ filling k b buffer
unfolding filling
same_filling k a b buffer f = go (eqb k 0) refl
  where
    go : (c : Bool) → eqb k 0 ≡ c
        → ◌≡◌ {A = Filled} (record { refusal = k; buffer = cond c (over a buffer) buffer }) (record { refusal = k; buffer = cond c (over b buffer) buffer })
    go true e = rw (f (eqb-true k 0 e))
    go false e = refl

pub same_listing : (k : ℕ) (a b buffer : List ℕ) → (k ≡ 0 → a ≡ b) → listing k a buffer ≡ listing k b buffer
unfolding listing
same_listing k a b buffer f = go (eqb k 0) refl
  where
    go : (c : Bool) → eqb k 0 ≡ c
        → ◌≡◌ {A = Listed} (record { answer = record { refusal = k; count = cond c (length a) 0 }; buffer = cond c (over (fill 8 a) buffer) buffer })
        (record { answer = record { refusal = k; count = cond c (length b) 0 }; buffer = cond c (over (fill 8 b) buffer) buffer })
    go true e = rw (f (eqb-true k 0 e))
    go false e = refl
