-- Withdrawing a point that is named by its levels: docs/SCOPE.md, 'Withdrawing a state' (request M-103), and of a replicate (M-106).
use Rattle.std.specs.Prelude.{not, List, [], ◌∷◌, ◌++◌, ℕ, ℤ, length, eqb, ltb}
use Rattle.specification.specs.declared.settings.Settings.{Settings}
use Rattle.specification.specs.Refusal.{Case, first_of}
use Rattle.specification.specs.Settings.{settings_cases}
use Rattle.specification.specs.Levels.{in_range, residues, is_among}
use Rattle.specification.specs.Counted.{points_of, lowered}
use Rattle.specification.specs.Tables.{Tables, too_short, held_in, recognised}
use Rattle.specification.specs.Adding.{Outcome, holding, by_refusal}

-- A full basis gives up a point: 8 is for a claimed n that no tables have.
unfoldable pub withdraw_cases : Settings → ℕ → ℕ → Tables → List ℤ → List Case
withdraw_cases s n r t levels = settings_cases s
    ++ ((too_short t, 6)
    ∷ (not (eqb (length levels) s.variables), 7)
    ∷ (ltb 64 n, 8)
    ∷ (not (in_range s.modulus levels), 9)
    ∷ (not (recognised s n r t), 10)
    ∷ (not (is_among (residues s.modulus levels) (points_of (held_in s n t))), 12) ∷ [])

unfoldable pub withdraw_refusal : Settings → ℕ → ℕ → Tables → List ℤ → ℕ
withdraw_refusal s n r t levels = first_of 0 (withdraw_cases s n r t levels)

unfoldable pub withdraw_outcome : Settings → ℕ → ℕ → Tables → List ℤ → Outcome
withdraw_outcome s n r t levels = by_refusal (withdraw_refusal s n r t levels) t (holding s (lowered (residues s.modulus levels) (held_in s n t)) t)
