-- What a call is refused with, up to 10, that names a point by its levels, and what looking for the point leaves. No public promise names these: adding and
-- withdrawing have their own lists of cases, which begin so.
use Rattle.std.specs.Prelude.{◌≡◌, not, false, cond, List, [], ℕ, ℤ, Result, Ok, length, eqb}
use Rattle.residue.specs.Layout.{fill}
use Rattle.specification.specs.declared.refusals.Refusal.{Refusal}
use Rattle.specification.specs.declared.settings.Settings.{Settings}
use Rattle.specification.specs.Answers.{refusal_of}
use Rattle.specification.specs.Refusal.{first_of}
use Rattle.specification.specs.Levels.{residues}
use Rattle.specification.specs.Counted.{place_in}
use Rattle.specification.specs.Tables.{Tables, points_in}
use Rattle.recognition.specs.Looking.{look_cases, Looked}
use Rattle.recognition.specs.declared.looking.Faults.{Faults}

-- a point has a level for each variable
abbrev pub naming_faults : Settings → List ℤ → Faults
naming_faults s levels = record { short = false; wrong = not (eqb (length levels) s.variables); many = false }

abbrev pub naming_refusal : Settings → ℕ → ℕ → Tables → List ℤ → ℕ
naming_refusal s n r t levels = first_of 0 (look_cases s n r t (naming_faults s levels) levels [])

-- The answer of looking for a point, and the arrays lent for it: what looking at the tables leaves, and the point itself where nothing refuses.
pub record LocatedAs (s : Settings) (n r : ℕ) (t : Tables) (levels : List ℤ) (points₀ rows₀ pivots₀ point₀ : List ℕ) (a : Result ℕ Refusal)
    (points rows pivots point : List ℕ) : Type 0 where
  pub refusal : refusal_of a ≡ naming_refusal s n r t levels
  pub place : (k : ℕ) → a ≡ Ok k → k ≡ place_in (residues s.modulus levels) (points_in s n t.states)
  pub looked : Looked s n t.states (refusal_of a) points₀ rows₀ pivots₀ points rows pivots
  pub residue : point ≡ cond (eqb (refusal_of a) 0) (fill 8 (residues s.modulus levels)) point₀
