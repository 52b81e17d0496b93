-- The place of an entry that was found or not, from 1, or 0.
use mathlib.Core.Path.{◌≡◌, refl, ap, ◌∙◌}
use mathlib.Core.Bool.{Bool, true, false, not}
use Prim.Native.Nat.{ℕ, suc, ◌+◌}
use native.Mathlib.Omega.{arith}
use lib.Dec.{eqb-suc-zero}
use Rattle.std.specs.Prelude.{Option, Some, None, is_some}
use Rattle.std.specs.Option.{option_or}
use Rattle.std.specs.Bool.{then_some}
use Rattle.comma_text.specs.reading.Points.{place_of, earlier_place}

pub place_some : (o : Option ℕ) (k : ℕ) → o ≡ Some k → place_of o ≡ suc k
unfolding place_of
place_some o k e = ap place_of e

pub place_none : (o : Option ℕ) → o ≡ None → place_of o ≡ 0
unfolding place_of
place_none o e = ap place_of e

pub is_found : (o : Option ℕ) {b : Bool} → b ≡ is_some o → b ≡ true → place_of o ≡ 0 → ⊥
unfolding place_of
is_found (Some k) g e z = omega arith
is_found None g e z = let w : ◌≡◌ {A = ℕ} 0 1 = cc in omega arith

pub none_found : (o : Option ℕ) {b : Bool} → b ≡ is_some o → b ≡ false → place_of o ≡ 0
unfolding place_of
none_found (Some k) g e = let w : ◌≡◌ {A = ℕ} 0 1 = cc in absurd (omega arith)
none_found None g e = refl

-- the first, or this one if it has a fault
pub earlier : (found : Option ℕ) (fault : Bool) (i : ℕ) {o r : Option ℕ} → o ≡ then_some fault i → r ≡ option_or found o
    → place_of r ≡ earlier_place (place_of found) (not fault) (i + 1)
unfolding place_of earlier_place
earlier (Some k) fault i e f = ap place_of f ∙ rw (eqb-suc-zero k) refl
earlier None true i e f = ap place_of (f ∙ e) ∙ omega arith
earlier None false i e f = ap place_of (f ∙ e)

pub place_here : (i : ℕ) → place_of (Some i) ≡ i + 1
unfolding place_of
place_here i = omega arith
