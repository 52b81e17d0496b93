-- What the run of a list stands on, of each operation: the record, and its proof for adding and for withdrawing.
use mathlib.Core.Path.{◌≡◌, refl, ◌∙◌}
use mathlib.Core.Bool.{true, false}
use mathlib.Core.List.{List}
use Prim.Native.Nat.{ℕ, ◌≤◌}
use native.Mathlib.Omega.{arith}
use lib.IntN.{ℤ}
use lib.ListN.{length}
use borrow.Author.Tests.{eqb-true, not-false, le-ltb, ltb-false}
use Rattle.residue.proofs.level.Moduli.{modulus_range}
use Rattle.residue.proofs.Tests.{of_true}
use Rattle.specification.specs.declared.settings.Settings.{Settings}
use Rattle.specification.specs.Refusal.{first_of}
use Rattle.specification.specs.Settings.{Accepted, settings_cases}
use Rattle.specification.specs.Levels.{in_range, residues}
use Rattle.specification.specs.Counted.{Counted, overfull}
use Rattle.specification.specs.Tables.{Tables, too_short, held_in, recognised}
use Rattle.specification.specs.Adding.{holding, by_refusal, add_cases, add_refusal, add_outcome}
use Rattle.specification.specs.Withdrawing.{withdraw_cases, withdraw_refusal, withdraw_outcome}
use Rattle.specification.specs.Reference.{Operation, adding, withdrawing, outcome_of, refusal_of, reference_answer, list_after}
use Rattle.specification.proofs.Cases.{none_holds}
use Rattle.specification.proofs.Recognised.{none_of}
use Rattle.specification.proofs.agreement.Points.{levels_point}
use Rattle.specification.proofs.counted.Gathered.{Entries, entries_entered}
use Rattle.specification.proofs.agreement.Refusals.{settings_pass}
use Rattle.specification.proofs.counted.Lowered.{entries_lowered}

-- What an operation has found that it does not refuse.
pub record Passed (s : Settings) (n r : ℕ) (t : Tables) : Type 0 where
  pub fine : first_of 0 (settings_cases s) ≡ 0
  pub few : n ≤ 64
  pub large : too_short t ≡ false
  pub known : recognised s n r t ≡ true

pub record Lawful (o : Operation) : Type 0 where
  -- it is refused, or the tables are now those of the points after it
  pub outcome : (s : Settings) (n r : ℕ) (t : Tables)
      → outcome_of o s n r t ≡ by_refusal (refusal_of o s n r t) t (holding s (list_after o s (held_in s n t)) t)
  -- handed the basis of at most 64 points, its number is what the reference list of these answers
  pub number : (s : Settings) → first_of 0 (settings_cases s) ≡ 0 → (n r : ℕ) (t : Tables) → n ≤ 64 → too_short t ≡ false → recognised s n r t ≡ true
      → refusal_of o s n r t ≡ reference_answer o s (held_in s n t)
  -- and what it makes of distinct points with their counts are distinct points with their counts
  pub entries : (s : Settings) → Accepted s → (L : Counted) → Entries s L → reference_answer o s L ≡ 0 → Entries s (list_after o s L)
  pub passed : (s : Settings) (n r : ℕ) (t : Tables) → refusal_of o s n r t ≡ 0 → Passed s n r t

-- Adding: a point that the reference list takes is m residues; with it there are no more than 64 points, and no count is above 255.
adding_entries : (levels : List ℤ) (s : Settings) → Accepted s → (L : Counted) → Entries s L → reference_answer (adding levels) s L ≡ 0 → Entries s (list_after (adding levels) s L)
unfolding reference_answer list_after overfull
adding_entries levels s ok L h e =
    let n = none_holds _ tt e in
    let range = of_true (not-false (in_range s.modulus levels) n.1.0) in
    let point = levels_point s levels (omega (arith, modulus_range s.modulus ok.modulus)) (eqb-true (length levels) s.variables (not-false _ n.0)) range in
    entries_entered s (residues s.modulus levels) L h point n.1.1

pub adding_lawful : (levels : List ℤ) → Lawful (adding levels)
unfolding outcome_of refusal_of reference_answer list_after add_outcome add_refusal add_cases overfull first_of
adding_lawful levels = record {
  outcome = λ s n r t. refl;
  number = λ s fine n r t few large known. settings_pass s fine _ ∙ rw (large, known, le-ltb 64 n few);
  entries = adding_entries levels;
  passed = λ s n r t e. let z = none_of s _ tt e in
      record { fine = z.0; few = ltb-false 64 n z.1.1.1.0; large = z.1.0; known = not-false (recognised s n r t) z.1.1.1.1.1.0 };
}

-- Withdrawing: what is left of distinct points with their counts are such.
pub withdrawing_lawful : (levels : List ℤ) → Lawful (withdrawing levels)
unfolding outcome_of refusal_of reference_answer list_after withdraw_outcome withdraw_refusal withdraw_cases first_of
withdrawing_lawful levels = record {
  outcome = λ s n r t. refl;
  number = λ s fine n r t held large known. settings_pass s fine _ ∙ rw (large, known, le-ltb 64 n held);
  entries = λ s ok L h e. entries_lowered (residues s.modulus levels) s L h;
  passed = λ s n r t e. let z = none_of s _ tt e in
      record { fine = z.0; few = ltb-false 64 n z.1.1.1.0; large = z.1.0; known = not-false (recognised s n r t) z.1.1.1.1.1.0 };
}
