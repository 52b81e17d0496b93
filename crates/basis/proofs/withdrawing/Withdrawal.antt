-- What a withdrawal stands on: the number by the tests that led to it, the points and counts that are left, and the outcome.
use mathlib.Core.Path.{◌≡◌, refl, sym, ap, ap₂, subst, ◌∙◌}
use mathlib.Core.Bool.{Bool, true, false, not, cond}
use mathlib.Core.List.{List, [], ◌∷◌}
use Prim.Native.Nat.{ℕ, ◌-◌, ◌<◌, ◌≤◌}
use native.Mathlib.Omega.{arith}
use lib.IntN.{ℤ}
use lib.ListN.{length, replicate, get_or}
use lib.Dec.{eqb, ltb}
use borrow.Author.Tests.{le-ltb, lt-ltb, eq-eqb, ltb-true, ltb-false}
use Rattle.residue.specs.Layout.{groups, fill, in_places, over}
use Rattle.residue.proofs.Layouts.{fill_twice}
use Rattle.monomial.specs.Insert.{taken_out, removed_at}
use Rattle.monomial.proofs.insert.Tables.{table_out, bytes_out, removed_long}
use Rattle.specification.specs.declared.settings.Settings.{Settings}
use Rattle.specification.specs.Refusal.{Case, first_of}
use Rattle.specification.specs.Levels.{residues, is_among}
use Rattle.specification.specs.Counted.{points_of, count_of, place_in}
use Rattle.specification.specs.Tables.{Tables, points_in, held_in}
use Rattle.specification.specs.Adding.{Outcome, refused, holding_both}
use Rattle.specification.specs.Solving.{within_variables}
use Rattle.specification.specs.Withdrawing.{withdraw_cases, withdraw_refusal, withdraw_outcome}
use Rattle.specification.specs.CallByCall.{recounted}
use Rattle.specification.proofs.Recognised.{length_read}
use Rattle.specification.proofs.Replicates.{same_count, withdraw_lowers, withdraw_last}
use Rattle.specification.proofs.CallByCall.{known_entries}
use Rattle.specification.proofs.counted.Entered.{lowered_last}
use Rattle.specification.proofs.counted.Held.{points_held}
use Rattle.specification.proofs.counted.Lowered.{entries_lowered}
use Rattle.specification.specs.Points.{Points}
use Rattle.construction.specs.Drawing.{PointsGiven, PivotBytes, pivot_rows_under}
use Rattle.construction.proofs.drawing.Given.{given, given_count, table_points}
use Rattle.points.proofs.places.PointPlaces.{place_le}
use Rattle.recognition.proofs.settings.ByNumber.{when_refused}
use Rattle.recognition.specs.Naming.{naming_faults, naming_refusal}
use Rattle.recognition.proofs.looking.Looks.{Open, look_first, look_then}
use Rattle.recognition.proofs.naming.PointAtHand.{opened, among_old}

-- What is left without the point at a place.
module _ (s : Settings) (n j : ℕ) (table : List ℕ) (g : PointsGiven s n table) (low : j < n) where
  abbrev left : List (List ℕ)
  left = removed_at j (points_in s n table)

  count : length (points_in s n table) ≡ n
  count = given_count g

  fewer : length left ≡ n - 1
  fewer = omega (arith, removed_long j (points_in s n table) (omega (arith, count)), count)

  points_out : over (taken_out 8 n j table) (replicate 512 0) ≡ fill 512 (in_places 8 left)
  points_out =
      ap₂ (λ (k : ℕ) (l : List ℕ). over (taken_out 8 k j l) (replicate 512 0)) (sym count) g.table
      ∙ table_out 8 512 (points_in s n table) j 512 (omega (arith, count)) (omega (arith, count, g.most)) (omega (arith, count, g.most))

  module _ (points : Points s left) (rest : List ℕ) (e : rest ≡ over (taken_out 8 n j table) (replicate 512 0)) where
    pub left_given : PointsGiven s (n - 1) rest
    left_given = subst (λ (k : ℕ). PointsGiven s k rest) fewer (subst (PointsGiven s (length left)) (sym (e ∙ points_out)) (given s g.settings left points))

    pub left_points : points_in s (n - 1) rest ≡ left
    left_points = ap₂ (points_in s) (sym fewer) (e ∙ points_out) ∙ table_points s g.settings left points

    -- with the counts that are left
    pub left_done : (t : Tables) (times : List ℕ) → times ≡ over (taken_out 1 n j t.counts) (replicate 64 0) → n ≤ length t.counts → get_or t.counts j 0 ≤ 1 → (lower : Outcome)
        → holding_both s (points_in s (n - 1) rest) times t ≡ cond (ltb 1 (get_or t.counts j 0)) lower (holding_both s left (removed_at j (fill n t.counts)) t)
    left_done t times f l one lower =
        let is : times ≡ fill 64 (removed_at j (fill n t.counts)) = f ∙ bytes_out 64 n j t.counts low g.most l in
        rw (left_points, is, le-ltb 1 (get_or t.counts j 0) one, fill_twice 64 64 (removed_at j (fill n t.counts)) (omega arith)) refl

    -- and their pivot rows
    pub left_rows : (count : ℕ) → count ≤ 1 → (rows pivots : List ℕ) (lent : PivotBytes)
        → pivot_rows_under s (points_in s (n - 1) rest) rows pivots ≡ cond (ltb 1 count) lent (pivot_rows_under s left rows pivots)
    left_rows count one rows pivots lent = rw (left_points, le-ltb 1 count one) refl

-- The number: 12 comes behind the cases of a named point, and is told by the place.
module _ (s : Settings) (n r : ℕ) (t : Tables) (levels : List ℤ) where
  abbrev pub named : List ℕ
  named = residues s.modulus levels

  abbrev pub old : List (List ℕ)
  old = points_in s n t.states

  abbrev last : List Case
  last = (not (is_among named (points_of (held_in s n t))), 12) ∷ []

  stop : is_among named old ≡ false → 12 ≡ first_of 0 last
  unfolding first_of
  stop f = rw (points_held s n t, f) refl

  on : is_among named old ≡ true → first_of 0 last ≡ 0
  unfolding first_of
  on f = rw (points_held s n t, f) refl

  pub withdraw_refused : (k : ℕ) → k ≡ naming_refusal s n r t levels → (k ≡ 0 → ⊥) → refused k t ≡ withdraw_outcome s n r t levels
  unfolding withdraw_outcome withdraw_refusal withdraw_cases within_variables groups
  withdraw_refused k e z = when_refused t _ _ k (look_first s n r t (naming_faults s levels) levels [] last k e z) z

  -- None of those holds.
  module _ (e : naming_refusal s n r t levels ≡ 0) where
    o : Open s n r t (naming_faults s levels) levels []
    o = opened s n r t levels e

    decides : first_of 0 last ≡ withdraw_refusal s n r t levels
    unfolding withdraw_refusal withdraw_cases within_variables groups
    decides = look_then s n r t (naming_faults s levels) levels [] last e

    module _ (place : ℕ) (ep : place ≡ place_in named old) where
      pub withdraw_absent : place ≡ n → refused 12 t ≡ withdraw_outcome s n r t levels
      unfolding withdraw_outcome
      withdraw_absent z = when_refused t _ _ 12 (stop (among_old s n r t levels e ∙ le-ltb (place_in named old) n (omega (arith, ep, z))) ∙ decides) (λ y. omega arith)

      pub before_end : (place ≡ n → ⊥) → place < n
      before_end z = omega (arith, ep, z, place_le named old, length_read s o.settings n t.states)

      -- The point is there.
      module _ (low : place < n) where
        there : is_among named old ≡ true
        there = among_old s n r t levels e ∙ lt-ltb (place_in named old) n (omega (arith, ep, low))

        taken : withdraw_refusal s n r t levels ≡ 0
        taken = sym decides ∙ on there

        abbrev times : ℕ
        times = get_or t.counts place 0

        -- the points that are left where it goes
        pub points_left : times ≤ 1 → Points s (removed_at place old)
        points_left one =
            let held : is_among named (points_of (held_in s n t)) ≡ true = ap (is_among named) (points_held s n t) ∙ there in
            let z : eqb (count_of named (held_in s n t) - 1) 0 ≡ true = eq-eqb (count_of named (held_in s n t) - 1) 0 (omega (arith, same_count s n r t levels there, ap (λ (i : ℕ). get_or t.counts i 0) ep, one)) in
            subst (Points s) ((lowered_last named (held_in s n t) held z).0 ∙ ap₂ removed_at (ap (place_in named) (points_held s n t) ∙ sym ep) (points_held s n t))
            (entries_lowered named s (held_in s n t) (known_entries s o.settings n r t o.few o.known)).points

        pub withdraw_done : cond (ltb 1 times) (recounted n r t place (times - 1)) (holding_both s (removed_at place old) (removed_at place (fill n t.counts)) t) ≡ withdraw_outcome s n r t levels
        withdraw_done = subst (λ (i : ℕ). cond (ltb 1 (get_or t.counts i 0)) (recounted n r t i (get_or t.counts i 0 - 1)) (holding_both s (removed_at i old) (removed_at i (fill n t.counts)) t) ≡ withdraw_outcome s n r t levels) (sym ep) (go (ltb 1 k) refl)
          where
            k : ℕ
            k = get_or t.counts (place_in named old) 0

            go : (b : Bool) → ltb 1 k ≡ b → cond b (recounted n r t (place_in named old) (k - 1)) (holding_both s (removed_at (place_in named old) old) (removed_at (place_in named old) (fill n t.counts)) t) ≡ withdraw_outcome s n r t levels
            go true f = sym (withdraw_lowers s n r t levels there taken (ltb-true 1 k f))
            go false f = sym (withdraw_last s n r t levels there taken (ltb-false 1 k f))
