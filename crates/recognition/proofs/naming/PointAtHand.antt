-- What is at hand where nothing refuses a call that names a point: the points of the tables and their pivot rows, the point and its place.
use mathlib.Core.Path.{◌≡◌, refl, sym, ap, ap₂, subst, ◌∙◌}
use Rattle.std.specs.Prelude.{Ok}
use mathlib.Core.List.{List, []}
use Prim.Native.Nat.{ℕ, ◌≤◌}
use native.Mathlib.Omega.{arith}
use lib.IntN.{ℤ}
use lib.ListN.{length}
use lib.Dec.{ltb}
use borrow.Author.Tests.{eqb-true, not-false}
use Rattle.residue.specs.Layout.{groups, fill, in_places}
use Rattle.residue.proofs.Places.{table_groups}
use Rattle.specification.specs.declared.settings.Settings.{Settings}
use Rattle.specification.specs.Answers.{refusal_of}
use Rattle.specification.specs.Levels.{residues, is_among}
use Rattle.specification.specs.Counted.{points_of, place_in}
use Rattle.specification.specs.Tables.{Tables, points_in, held_in}
use Rattle.specification.proofs.CallByCall.{known_points, known_entries, known_rows}
use Rattle.specification.proofs.Recognised.{length_read, read_each}
use Rattle.specification.proofs.agreement.Drawings.{few_rows}
use Rattle.specification.proofs.agreement.Points.{length_residues}
use Rattle.specification.specs.Points.{Points}
use Rattle.construction.specs.Drawing.{PointsGiven, Solves}
use Rattle.construction.proofs.drawing.Given.{given, table_points}
use Rattle.points.proofs.places.PointPlaces.{place_filled, among_place}
use Rattle.recognition.specs.Naming.{naming_faults, naming_refusal, LocatedAs}
use Rattle.recognition.proofs.looking.Looks.{Open, open_of, points_there}

module _ (s : Settings) (n r : ℕ) (t : Tables) (levels : List ℤ) (e : naming_refusal s n r t levels ≡ 0) where
  abbrev S : List (List ℕ)
  S = points_in s n t.states

  abbrev P : List ℕ
  P = residues s.modulus levels

  pub opened : Open s n r t (naming_faults s levels) levels []
  opened = open_of e

  pub named_long : length levels ≡ s.variables
  named_long = eqb-true (length levels) s.variables (not-false _ opened.right)

  count : length S ≡ n
  count = length_read s opened.settings n t.states

  old_points : Points s S
  old_points = known_points s opened.settings n r t opened.few opened.known

  pub rows_held : r ≤ 449
  rows_held =
      omega (arith, known_rows s opened.settings n r t opened.few opened.known, few_rows s opened.settings (points_of (held_in s n t)) (known_entries s opened.settings n r t opened.few opened.known).points)

  -- the point is found where it stands
  pub place_is : {table point : List ℕ} → table ≡ fill 512 (in_places 8 S) → point ≡ fill 8 P → place_in point (groups 8 n table) ≡ place_in P S
  place_is et ep =
      ap₂ place_in ep (ap₂ (λ (k : ℕ) (l : List ℕ). groups 8 k l) (sym count) et ∙ table_groups 8 512 S (omega (arith, count, opened.few)))
      ∙ place_filled 8 s.variables opened.settings.few P S (length_residues s.modulus levels ∙ named_long) (λ Q q. (read_each s opened.settings n t.states Q q).long)

  -- and it is there exactly where its place is before the end
  pub among_old : is_among P S ≡ ltb (place_in P S) n
  among_old = sym (among_place P S) ∙ ap (ltb (place_in P S)) count

  pub record AtHand (place : ℕ) (points rows pivots point : List ℕ) : Type 0 where
    pub placed : place ≡ place_in P S
    pub again : points_in s n points ≡ S
    pub given_points : PointsGiven s n points
    pub solves : Solves s S rows pivots
    pub residue : point ≡ fill 8 P

  pub at_hand : {points₀ rows₀ pivots₀ point₀ : List ℕ} {place : ℕ} {points rows pivots point : List ℕ}
      → LocatedAs s n r t levels points₀ rows₀ pivots₀ point₀ (Ok place) points rows pivots point → AtHand place points rows pivots point
  unfolding refusal_of
  at_hand {place = place} {points} L =
      let table : points ≡ fill 512 (in_places 8 S) = points_there L.looked refl in
      record {
        placed = L.place place refl;
        again = ap₂ (points_in s) (sym count) table ∙ table_points s opened.settings S old_points;
        given_points = subst (λ (k : ℕ). PointsGiven s k points) count (subst (PointsGiven s (length S)) (sym table) (given s opened.settings S old_points));
        solves = L.looked.solves refl;
        residue = L.residue;
      }
