-- What entering a new point leaves where there is no room for it.
use mathlib.Core.Path.{◌≡◌, refl}
use mathlib.Core.Bool.{Bool, false, ◌&&◌}
use mathlib.Core.List.{List}
use Prim.Native.Nat.{ℕ, ◌≤◌}
use native.Mathlib.Omega.{arith}
use lib.ListN.{get_or}
use lib.Dec.{eqb, ltb}
use borrow.Author.Tests.{le-ltb, eq-eqb}
use Rattle.points.specs.Gathering.{points_entered, counts_entered}

module _ (n at : ℕ) (point points counts : List ℕ) where
  -- what is promised besides the place
  abbrev Told : Bool → List ℕ → List ℕ → Type 0
  Told over table bytes = (over ≡ (ltb at n && eqb (get_or counts at 0) 255)) × ((table ≡ points_entered n at point points) × (bytes ≡ counts_entered n at counts))

  pub no_room : at ≡ n → 64 ≤ n → Told false points counts
  unfolding points_entered counts_entered
  no_room e h = rw (le-ltb at n (omega (arith, e)), eq-eqb at n e, le-ltb n 64 h) (refl, (refl, refl))
