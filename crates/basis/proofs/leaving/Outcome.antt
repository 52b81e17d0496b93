-- The number of leaving a variable out by what its tests found, in the order of checking, the points that are left, and the outcome.
use mathlib.Core.Path.{◌≡◌, refl, sym, ap, ap₂, subst, ◌∙◌}
use mathlib.Core.Bool.{Bool, true, false, not, cond, ◌||◌}
use mathlib.Core.Logic.{inl, inr}
use mathlib.Core.List.{List, [], ◌∷◌, ◌++◌, map, zip, append_assoc}
use Prim.Native.Nat.{ℕ, ◌-◌, ◌≤◌, ◌<◌}
use native.Mathlib.Omega.{arith}
use lib.ListN.{length, take, replicate}
use lib.Dec.{T, leb, ltb}
use borrow.Author.Tests.{not-false}
use Rattle.residue.specs.Lists.{Among, every, some}
use Rattle.residue.specs.Layout.{groups, fill, in_places, over}
use Rattle.residue.proofs.Layouts.{fill_exact, fill_tail, take_fill}
use Rattle.residue.proofs.Places.{table_groups}
use Rattle.monomial.specs.Insert.{taken_out, removed_at}
use Rattle.monomial.proofs.insert.Tables.{bytes_out, removed_long}
use Rattle.specification.specs.declared.settings.Settings.{Settings}
use Rattle.specification.specs.Refusal.{Case, first_of}
use Rattle.specification.specs.Settings.{settings_cases}
use Rattle.specification.specs.Levels.{in_range}
use Rattle.specification.specs.Counted.{Counted, counts_of}
use Rattle.specification.specs.Tables.{Tables, too_short, points_in, held_in, recognised}
use Rattle.specification.specs.Adding.{refused, uncosted, holding_both}
use Rattle.specification.specs.Solving.{within_variables}
use Rattle.specification.specs.LeaveOut.{without_variable, fewer, can_leave_out, leave_out_cases, leave_out_refusal, leave_out_outcome}
use Rattle.specification.proofs.Cases.{first_stop}
use Rattle.specification.proofs.Recognised.{none_of, length_read, read_each}
use Rattle.specification.proofs.CallByCall.{known_entries}
use Rattle.specification.proofs.counted.Gathered.{positive_of}
use Rattle.specification.proofs.counted.Held.{counts_held}
use Rattle.specification.proofs.counted.Saturated.{none_capped}
use Rattle.specification.proofs.leaving.Calls.{can_leave, Left, left_passed}
use Rattle.construction.specs.Drawing.{PointsGiven}
use Rattle.points.specs.Gathering.{count_byte, TabledAs}
use Rattle.points.specs.Leaving.{counted_in}
use Rattle.recognition.specs.Looking.{look_cases}
use Rattle.recognition.specs.declared.looking.Faults.{Faults}
use Rattle.recognition.proofs.settings.ByNumber.{when_refused, when_accepted}
use Rattle.recognition.proofs.looking.Looks.{Open, open_of, look_first, look_then}
use Rattle.basis.proofs.drawing.Outcomes.{tabled_given, tabled_done}

-- the weights without one of them, and a 0 behind them
pub weights_out : (j : ℕ) (w : List ℕ) → length w ≡ 8 → j < 8 → over (taken_out 1 8 j w) (replicate 8 0) ≡ removed_at j w ++ (0 ∷ [])
weights_out j w e h =
    let long : length (removed_at j w) ≡ 7 = omega (arith, removed_long j w (omega (arith, e)), e) in
    bytes_out 8 8 j w h (omega arith) (omega (arith, e)) ∙ ap (λ (l : List ℕ). fill 8 (removed_at j l)) (fill_exact 8 w e)
    ∙ fill_tail 8 (removed_at j w) (omega (arith, long)) ∙ ap (λ (k : ℕ). removed_at j w ++ replicate (8 - k) 0) long

module _ (s : Settings) (n r : ℕ) (t : Tables) (v : ℕ) (short : Bool) where
  -- the refusals on settings and variable
  abbrev pub early : ℕ
  early = first_of 0 (settings_cases s ++ ((not (can_leave_out s v), 16) ∷ []))

  -- the look at the tables
  abbrev faults : Faults
  faults = record { short = short; wrong = false; many = false }

  abbrev pub looking : ℕ
  looking = first_of 0 (look_cases s n r t faults [] [])

  abbrev W : Counted
  W = without_variable (v - 1) (held_in s n t)

  abbrev last : List Case
  last = (some (ltb 255) (counts_of W), 13) ∷ []

  -- the cases behind 16
  abbrev behind : List Case
  behind = (short || too_short t, 6) ∷ (ltb 64 n, 8) ∷ (not (recognised s n r t), 10) ∷ last

  pub number_early : (k : ℕ) → k ≡ early → (k ≡ 0 → ⊥) → k ≡ first_of 0 (leave_out_cases s n r t v short)
  unfolding leave_out_cases
  number_early k e z =
      e ∙ first_stop (settings_cases s ++ ((not (can_leave_out s v), 16) ∷ [])) _ (λ y. z (e ∙ y))
      ∙ ap (first_of 0) (append_assoc (settings_cases s) ((not (can_leave_out s v), 16) ∷ []) _)

  -- the variable can be left out
  module _ (none : early ≡ 0) where
    pub can : can_leave_out s v ≡ true
    can = not-false _ (none_of s ((not (can_leave_out s v), 16) ∷ []) tt none).1.0

    past_16 : (l : List Case) → first_of 0 (settings_cases s ++ l) ≡ first_of 0 (settings_cases s ++ ((not (can_leave_out s v), 16) ∷ l))
    unfolding first_of settings_cases
    past_16 l = rw can refl

    pub number_looked : (k : ℕ) → k ≡ looking → (k ≡ 0 → ⊥) → k ≡ first_of 0 (leave_out_cases s n r t v short)
    unfolding leave_out_cases first_of settings_cases within_variables groups in_range
    number_looked k e z = look_first s n r t faults [] [] last k e z ∙ past_16 behind

    -- and the tables are recognised
    module _ (known : looking ≡ 0) where
      opened : Open s n r t faults [] []
      opened = open_of known

      abbrev S : List (List ℕ)
      S = points_in s n t.states

      pub number_gathered : {k : ℕ} → k ≡ cond (some (ltb 255) (counts_of W)) 13 0 → k ≡ first_of 0 (leave_out_cases s n r t v short)
      unfolding leave_out_cases first_of settings_cases within_variables groups in_range
      number_gathered e = e ∙ look_then s n r t faults [] [] last known ∙ past_16 behind

      pub long_tables : too_short t ≡ false
      long_tables = opened.long_tables

      -- the variable is one of the points' coordinates, and their counts are positive
      pub low : (1 ≤ v) × (v - 1 < s.variables) × (s.variables ≤ 8) × (n ≤ 64)
      low = let c = can_leave s v opened.settings.some can in (c.0, omega (arith, c.0, c.1), opened.settings.few, opened.few)

      pub positive : T (every (leb 1) (fill n t.counts))
      positive =
          subst (λ (l : List ℕ). T (every (leb 1) l)) (counts_held s n t)
          (positive_of (counts_of (held_in s n t)) (known_entries s opened.settings n r t opened.few opened.known).counts)

      -- what the working table holds are the points of the tables
      pub counted_held : {table : List ℕ} → table ≡ fill 512 (in_places 8 S) → counted_in s.variables n table t.counts ≡ held_in s n t
      unfolding counted_in held_in
      counted_held e =
          let count : length S ≡ n = length_read s opened.settings n t.states in
          ap (λ (K : List (List ℕ)). zip K (fill n t.counts))
          (ap₂ (λ (k : ℕ) (l : List ℕ). map (take s.variables) (groups 8 k l)) (sym count) e
          ∙ ap (map (take s.variables)) (table_groups 8 512 S (omega (arith, count, opened.few)))
          ∙ each S (λ P mem. (read_each s opened.settings n t.states P mem).long))
        where
          each : (K : List (List ℕ)) → ((P : List ℕ) → Among P K → length P ≡ s.variables) → map (take s.variables) (map (fill 8) K) ≡ K
          each [] h = refl
          each (P ∷ K) h =
              ap₂ (λ (Q : List ℕ) (l : List (List ℕ)). Q ∷ l) (take_fill s.variables 8 P (h P (inl refl)) opened.settings.few) (each K (λ Q mem. h Q (inr mem)))

-- The outcome.
module _ (s : Settings) (n r : ℕ) (t : Tables) (v : ℕ) (u : Tables) (k : ℕ) (e : k ≡ first_of 0 (leave_out_cases s n r t v (too_short u))) where
  number : k ≡ leave_out_refusal s n r t v u
  unfolding leave_out_refusal
  number = e

  pub leave_refused : (k ≡ 0 → ⊥) → refused k u ≡ leave_out_outcome s n r t v u
  unfolding leave_out_outcome
  leave_refused z = when_refused u _ _ k number z

  -- Nothing refuses: the points without the variable are drawn up.
  module _ (zero : k ≡ 0) where
    abbrev pub left : Counted
    left = without_variable (v - 1) (held_in s n t)

    passed : Left s n r t v u
    passed = left_passed s n r t v u (sym number ∙ zero)

    pub long_left : too_short u ≡ false
    long_left = passed.lent

    -- the variable is one of at most 8
    pub in_settings : (1 ≤ v) × (v ≤ 8) × (1 ≤ s.variables)
    in_settings = (passed.least, omega (arith, passed.most, passed.ok.few), passed.ok.some)

    module _ {j : ℕ} {points times : List ℕ} (h : TabledAs left j points times) where
      pub leave_given : PointsGiven (fewer v s) j points
      leave_given = tabled_given (fewer v s) passed.fine left passed.entries j points h.number h.states

      pub leave_done : holding_both (fewer v s) (points_in (fewer v s) j points) times u ≡ leave_out_outcome s n r t v u
      unfolding leave_out_outcome count_byte
      leave_done =
          ap uncosted (tabled_done (fewer v s) passed.fine left passed.entries j points h.number h.states u times
          (h.times ∙ ap (fill 64) (none_capped (counts_of left) passed.small)))
          ∙ when_accepted u _ _ (sym zero ∙ number)
