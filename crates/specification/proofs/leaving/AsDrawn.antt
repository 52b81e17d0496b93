-- What leaving a variable out leaves (M-110) is what drawing up leaves of the points without it, each as many times as it is counted.
use mathlib.Core.Path.{◌≡◌, refl, sym, ◌∙◌}
use mathlib.Core.List.{List, map}
use Prim.Native.Nat.{ℕ, ◌-◌}
use lib.IntN.{ℤ}
use Rattle.monomial.specs.Insert.{removed_at}
use Rattle.specification.specs.declared.settings.Settings.{Settings}
use Rattle.specification.specs.Counted.{gathered}
use Rattle.specification.specs.Tables.{Tables, held_in}
use Rattle.specification.specs.Adding.{Outcome, DrawOutcome, holding, by_refusal, points_offered, draw_outcome}
use Rattle.specification.proofs.CallByCall.{drawn_number}
use Rattle.specification.specs.LeaveOut.{repeated, without_variable, fewer, leave_out_outcome}
use Rattle.specification.proofs.leaving.Calls.{left_number, left_outcome}

-- the answer's n and r and the five tables, byte for byte
pub record AsDrawn (o : Outcome) (d : DrawOutcome) : Type 0 where
  pub n : o.answer.n ≡ d.answer.n
  pub r : o.answer.r ≡ d.answer.r
  pub tables : o.tables ≡ d.tables

pub as_drawn : (s : Settings) (u : Tables) (levels : List ℤ) (S : List (List ℕ)) → points_offered s levels ≡ S → (draw_outcome s u levels).answer.refusal ≡ 0
    → AsDrawn (holding s (gathered S) u) (draw_outcome s u levels)
unfolding draw_outcome by_refusal
as_drawn s u levels S e zero = rw (sym (drawn_number s u levels) ∙ zero, e) (record { n = refl; r = refl; tables = refl })

pub left_as_drawn : (s : Settings) (n r : ℕ) (t : Tables) (v : ℕ) (u : Tables) → (leave_out_outcome s n r t v u).answer.refusal ≡ 0
    → (levels : List ℤ) → points_offered (fewer v s) levels ≡ map (removed_at (v - 1)) (repeated (held_in s n t)) → (draw_outcome (fewer v s) u levels).answer.refusal ≡ 0
    → AsDrawn (leave_out_outcome s n r t v u) (draw_outcome (fewer v s) u levels)
unfolding without_variable
left_as_drawn s n r t v u e levels same zero =
    rw (left_outcome s n r t v u (sym (left_number s n r t v u) ∙ e)) (as_drawn (fewer v s) u levels (map (removed_at (v - 1)) (repeated (held_in s n t))) same zero)
