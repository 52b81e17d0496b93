-- The look at a sheet's tables, with no levels, values or terms beside them: a case that never holds is none.
use mathlib.Core.Path.{◌≡◌, refl}
use mathlib.Core.Bool.{Bool, false, ◌||◌}
use mathlib.Core.List.{[]}
use Prim.Native.Nat.{ℕ}
use Rattle.residue.specs.Layout.{groups}
use Rattle.specification.specs.declared.settings.Settings.{Settings}
use Rattle.specification.specs.Refusal.{first_of}
use Rattle.specification.specs.Settings.{settings_cases}
use Rattle.specification.specs.Levels.{in_range}
use Rattle.specification.specs.Tables.{Tables, too_short}
use Rattle.specification.specs.Solving.{within_variables}
use Rattle.recognition.specs.Looking.{look_cases}
use Rattle.json_sheets.specs.Calls.{sheet_cases}

pub judged_cases : (s : Settings) (n r : ℕ) (t : Tables) (short : Bool)
    → first_of 0 (look_cases s n r t (record { short = short; wrong = false; many = false }) [] []) ≡ first_of 0 (sheet_cases s (short || too_short t) n r t)
unfolding first_of settings_cases look_cases sheet_cases within_variables groups in_range
judged_cases s n r t short = refl
