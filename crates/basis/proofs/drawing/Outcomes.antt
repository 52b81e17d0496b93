-- The number of a drawing up by what its tests found, in the order of checking, and its outcome.
use mathlib.Core.Path.{◌≡◌, refl, sym, ap, ap₂, ◌∙◌}
use mathlib.Core.Bool.{Bool, true, false, not}
use mathlib.Core.List.{List, ◌∷◌, ◌++◌}
use Prim.Native.Nat.{ℕ, ◌%◌}
use native.Mathlib.Omega.{arith}
use lib.IntN.{ℤ}
use lib.ListN.{length, length-map}
use lib.Dec.{eqb}
use borrow.Author.Tests.{ne_eqb}
use Rattle.residue.specs.Layout.{fill}
use Rattle.residue.proofs.Layouts.{fill_twice}
use Rattle.specification.specs.declared.settings.Settings.{Settings}
use Rattle.specification.specs.Refusal.{Case, first_of}
use Rattle.specification.specs.Settings.{Accepted, settings_cases}
use Rattle.specification.specs.Levels.{in_range}
use Rattle.specification.specs.Counted.{Counted, points_of, counts_of, gathered, overfull}
use Rattle.specification.specs.Tables.{Tables, states_table, too_short, points_in}
use Rattle.specification.specs.Adding.{Outcome, refused, points_offered, draw_cases, draw_refusal, DrawOutcome, costing, cancellations_under, draw_outcome, uncosted}
use Rattle.specification.specs.Adding.{draw_packed_outcome, holding, holding_both}
use Rattle.specification.proofs.Replicates.{holding_told}
use Rattle.specification.proofs.counted.Gathered.{Entries}
use Rattle.specification.proofs.CallByCall.{Offered, drawn_points, packed_drawn}
use Rattle.construction.specs.Drawing.{PointsGiven}
use Rattle.construction.proofs.drawing.Given.{table_points, given}
use Rattle.recognition.proofs.settings.BySize.{sizes, by_size, by_rest}
use Rattle.recognition.proofs.settings.ByNumber.{cost_refused, cost_accepted}

-- The number, where `short` is whether a lent table is too short.
module _ (s : Settings) (short : Bool) (levels : List ℤ) where
  abbrev wrong : Bool
  wrong = not (eqb (length levels % s.variables) 0)

  -- the refusals on numbers
  abbrev pub draw_sizes : ℕ
  draw_sizes = first_of 0 (settings_cases s ++ sizes s short wrong false)

  abbrev tests : List Case
  tests = (not (in_range s.modulus levels), 9) ∷ overfull (gathered (points_offered s levels))

  abbrev pub draw_number : ℕ
  draw_number = first_of 0 (settings_cases s ++ ((short, 6) ∷ (wrong, 7) ∷ tests))

  -- a case that never holds is none
  whole : first_of 0 (settings_cases s ++ (sizes s short wrong false ++ tests)) ≡ draw_number
  unfolding first_of settings_cases
  whole = refl

  -- a level out of range decides, or the points that were gathered
  stop : in_range s.modulus levels ≡ false → 9 ≡ first_of 0 tests
  unfolding first_of
  stop f = rw f refl

  on : in_range s.modulus levels ≡ true → first_of 0 (overfull (gathered (points_offered s levels))) ≡ first_of 0 tests
  unfolding first_of
  on f = rw f refl

  pub draw_size : (k : ℕ) → k ≡ draw_sizes → (k ≡ 0 → ⊥) → k ≡ draw_number
  draw_size k e n = by_size s short wrong false tests k e n ∙ whole

  pub draw_range : draw_sizes ≡ 0 → in_range s.modulus levels ≡ false → 9 ≡ draw_number
  draw_range e f = stop f ∙ by_rest s short wrong false tests e ∙ whole

  pub draw_gathered : draw_sizes ≡ 0 → in_range s.modulus levels ≡ true → (k : ℕ) → k ≡ first_of 0 (overfull (gathered (points_offered s levels))) → k ≡ draw_number
  draw_gathered e f k g = g ∙ on f ∙ by_rest s short wrong false tests e ∙ whole

-- Points with their counts, in a table and in bytes: drawing them up leaves what holds them.
module _ (s : Settings) (ok : Accepted s) (L : Counted) (h : Entries s L) (n : ℕ) (points : List ℕ) (count : n ≡ length L)
    (table : points ≡ states_table (points_of L)) where
  many : n ≡ length (points_of L)
  many = count ∙ sym (length-map L (λ q. q.0))

  pub tabled_given : PointsGiven s n points
  unfolding states_table
  tabled_given = rw (many, table) (given s ok (points_of L) h.points)

  pub tabled_done : (t : Tables) (times : List ℕ) → times ≡ fill 64 (counts_of L)
      → costing (cancellations_under s (points_in s n points)) (holding_both s (points_in s n points) times t) ≡ costing (cancellations_under s (points_of L)) (holding s L t)
  unfolding states_table
  tabled_done t times f =
      let back : points_in s n points ≡ points_of L = ap₂ (points_in s) many table ∙ table_points s ok (points_of L) h.points in
      rw (back, f, fill_twice 64 64 (counts_of L) (omega arith))
      (ap (costing (cancellations_under s (points_of L))) (sym (holding_told s L t (points_of L) (counts_of L) refl refl)))

-- The outcome.
module _ (s : Settings) (t : Tables) (levels : List ℤ) (k : ℕ) (e : k ≡ draw_number s (too_short t) levels) where
  number : k ≡ draw_refusal s t levels
  unfolding draw_refusal draw_cases
  number = e

  pub draw_refused : (k ≡ 0 → ⊥) → costing 0 (refused k t) ≡ draw_outcome s t levels
  unfolding draw_outcome
  draw_refused n = cost_refused t _ _ _ k number n

  -- nothing refuses: the distinct points are drawn up
  module _ (zero : k ≡ 0) where
    abbrev L : Counted
    L = gathered (points_offered s levels)

    offered : Offered s t levels
    offered = drawn_points s t levels (sym number ∙ zero)

    pub enough : too_short t ≡ false
    enough = offered.large

    module _ (n : ℕ) (points : List ℕ) (count : n ≡ length L) (table : points ≡ states_table (points_of L)) where
      pub draw_given : PointsGiven s n points
      draw_given = tabled_given s offered.ok L offered.entries n points count table

      pub draw_done : (times : List ℕ) → times ≡ fill 64 (counts_of L)
          → costing (cancellations_under s (points_in s n points)) (holding_both s (points_in s n points) times t) ≡ draw_outcome s t levels
      unfolding draw_outcome
      draw_done times f = tabled_done s offered.ok L offered.entries n points count table t times f ∙ cost_accepted t _ _ _ (sym zero ∙ number)

-- The outcome modulo 2: that of drawing up, without its cost.
module _ (s : Settings) (t : Tables) (levels : List ℤ) where
  pub packed_other : (s.modulus ≡ 2 → ⊥) → refused 3 t ≡ draw_packed_outcome s t levels
  unfolding draw_packed_outcome
  packed_other n = rw (ne_eqb s.modulus 2 n) refl

  module _ (two : s.modulus ≡ 2) where
    pub packed_as : (o : Outcome) (cost : ℕ) → costing cost o ≡ draw_outcome s t levels → o ≡ draw_packed_outcome s t levels
    packed_as o cost e = ap (λ (d : DrawOutcome). uncosted d) e ∙ sym (packed_drawn s t levels two)
