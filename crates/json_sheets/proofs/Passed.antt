-- What the two calls stand on whose refusal is 0, and the converse.
use mathlib.Core.Path.{◌≡◌, ◌∙◌}
use mathlib.Core.Bool.{Bool, false, not}
use mathlib.Core.List.{[], ◌∷◌}
use Prim.Native.Nat.{ℕ}
use lib.ListN.{length}
use lib.Dec.{ltb}
use borrow.Author.Tests.{ltb-false, le-ltb, not-false}
use Rattle.specification.specs.declared.settings.Settings.{Settings}
use Rattle.specification.specs.Refusal.{first_of}
use Rattle.specification.specs.Tables.{Tables, recognised}
use Rattle.specification.proofs.agreement.Refusals.{accepted, not_refused, settings_pass}
use Rattle.specification.proofs.Recognised.{none_of}
use Rattle.json_sheets.specs.Calls.{sheet_cases}
use Rattle.json_sheets.proofs.SheetDocuments.{Checked}

pub record Passed (s : Settings) (short : Bool) (n r : ℕ) (t : Tables) : Type 0 where
  pub sheet : Checked s n r t
  pub enough : short ≡ false

module _ (s : Settings) (short : Bool) (n r : ℕ) (t : Tables) where
  pub passed_of : length s.weights ≡ 8 → first_of 0 (sheet_cases s short n r t) ≡ 0 → Passed s short n r t
  unfolding sheet_cases
  passed_of eight e =
      let p = none_of s ((short, 6) ∷ (ltb 64 n, 8) ∷ (not (recognised s n r t), 10) ∷ []) tt e in
      record {
        sheet = record { settings = accepted s p.0; eight = eight; few = ltb-false 64 n p.1.1.0; known = not-false (recognised s n r t) p.1.1.1.0 };
        enough = p.1.0;
      }

  pub of_passed : Passed s short n r t → first_of 0 (sheet_cases s short n r t) ≡ 0
  unfolding sheet_cases first_of
  of_passed p =
      settings_pass s (not_refused s p.sheet.settings) ((short, 6) ∷ (ltb 64 n, 8) ∷ (not (recognised s n r t), 10) ∷ [])
      ∙ simp (p.enough, le-ltb 64 n p.sheet.few, p.sheet.known)
