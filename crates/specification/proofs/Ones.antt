-- Request M-109: 'With all weights 1 the sheet equals the grlex sheet'. The two orders answer alike on monomials in m variables, so the spaces are one, and with
-- them everything that is defined over a space; and neither settings are refused where the others are not.
use mathlib.Core.Path.{◌≡◌, refl, ◌∙◌, ap, fun_ext}
use mathlib.Core.Bool.{true}
use mathlib.Core.List.{List, [], ◌∷◌, ◌++◌, map, append_assoc}
use Prim.Native.Nat.{ℕ, zero, suc, ◌+◌, ◌-◌, ◌≤◌, Ordering}
use native.Mathlib.Omega.{arith}
use lib.IntN.{ℤ}
use lib.ListN.{length, replicate, length-replicate, replicate-append-replicate}
use borrow.Author.Tests.{ne_eqb}
use Rattle.residue.specs.Sizes.{standard_size, leads_size, coefficients_size, counts_size}
use Rattle.residue.specs.Layout.{fill, in_places}
use Rattle.monomial.specs.Insert.{removed_at}
use Rattle.monomial.specs.Order.{grlex, weighted, order_of, cmp}
use Rattle.monomial.proofs.insert.Tables.{removed_front, removed_same}
use Rattle.monomial.proofs.Orders.Weights.{ones_cmp}
use Rattle.specification.specs.declared.settings.Settings.{Settings}
use Rattle.specification.specs.Settings.{no_weights, weighs_first, right_weights, settings_cases}
use Rattle.specification.specs.Counted.{Counted, points_of, counts_of}
use Rattle.specification.specs.Levels.{residues}
use Rattle.specification.specs.BasisOf.{standard_of, leads_of, rows_of, interpolant_of, remainder_of}
use Rattle.specification.specs.Instance.{Monomial, space_by}
use Rattle.specification.specs.Tables.{Tables, points_under, row_count, states_table, standard_table, leads_table, coefficients_table, tables_of, points_in, held_in, recognised}
use Rattle.specification.specs.Cancellations.{cancellations_of}
use Rattle.specification.specs.Adding.{holding, add_cases, add_refusal, add_outcome, points_offered, draw_cases, draw_refusal, cancellations_under, draw_outcome}
use Rattle.specification.specs.Adding.{by_refusal, draw_packed_outcome}
use Rattle.specification.specs.Withdrawing.{withdraw_cases, withdraw_refusal, withdraw_outcome}
use Rattle.specification.specs.Solving.{check_refusal, values_cases, interpolant_in, interpolate_outcome, wiring_outcome, remainder_cases, polynomial_under, remainder_in, remainder_outcome}
use Rattle.specification.specs.LeaveOut.{without_variable, fewer, can_leave_out, leave_out_cases, leave_out_refusal, leave_out_outcome}
use Rattle.specification.specs.Reference.{adding, withdrawing, outcome_of}
use Rattle.specification.specs.Calls.{Call, drawing, drawing_packed, handed, leaving_out, operating, checking, interpolating, dividing, wiring, ending_of}
use Rattle.specification.proofs.leaving.Calls.{left_passed}

-- settings with m weights 1, and with grlex
abbrev pub by_ones : ℕ → ℕ → Settings
by_ones p m = record { modulus = p; variables = m; order = 3; weights = replicate m 1 ++ replicate (8 - m) 0 }

abbrev pub by_degree : ℕ → ℕ → Settings
by_degree p m = record { modulus = p; variables = m; order = 1; weights = no_weights }

-- a call under other settings
abbrev pub under : Settings → Call → Call
under u (drawing s t levels) = drawing u t levels
under u (drawing_packed s t levels) = drawing_packed u t levels
under u (handed q s n r t) = handed q u n r t
under u (leaving_out s n r t v x) = leaving_out u n r t v x

-- none of these weights is wrong
zeros_right : (k : ℕ) → weighs_first 0 (replicate k 0) ≡ true
unfolding weighs_first
zeros_right zero = refl
zeros_right (suc k) = zeros_right k

ones_right : (m k : ℕ) → weighs_first m (replicate m 1 ++ replicate k 0) ≡ true
unfolding weighs_first
ones_right zero k = zeros_right k
ones_right (suc m) k = ones_right m k

-- one variable fewer: again weights 1, and again grlex
module _ (p m v : ℕ) (one : 1 ≤ v) (least : v ≤ m) (most : m ≤ 8) where
  ones_fewer : fewer v (by_ones p m) ≡ by_ones p (m - 1)
  ones_fewer = ap (λ (w : List ℕ). record { modulus = p; variables = m - 1; order = 3; weights = w }) weights
    where
      same_ones : removed_at {A = ℕ} (v - 1) (replicate m 1) ≡ replicate (m - 1) 1
      same_ones = let e : m ≡ suc (m - 1) = omega arith in ap (λ (k : ℕ). removed_at {A = ℕ} (v - 1) (replicate k 1)) e ∙ removed_same (v - 1) (m - 1) 1 (omega arith)

      behind : replicate {A = ℕ} (8 - m) 0 ++ (0 ∷ []) ≡ replicate (8 - (m - 1)) 0
      behind = let e : 8 - m + 1 ≡ 8 - (m - 1) = omega arith in replicate-append-replicate (8 - m) 1 0 ∙ ap (λ (k : ℕ). replicate {A = ℕ} k 0) e

      weights : removed_at {A = ℕ} (v - 1) (replicate m 1 ++ replicate (8 - m) 0) ++ (0 ∷ []) ≡ replicate (m - 1) 1 ++ replicate (8 - (m - 1)) 0
      weights =
          ap (λ (l : List ℕ). l ++ (0 ∷ [])) (removed_front (v - 1) (replicate m 1) (replicate (8 - m) 0) (simp length-replicate (omega arith))
          ∙ ap (λ (l : List ℕ). l ++ replicate (8 - m) 0) same_ones)
          ∙ append_assoc (replicate (m - 1) 1) (replicate (8 - m) 0) (0 ∷ []) ∙ ap (λ (l : List ℕ). replicate (m - 1) 1 ++ l) behind

  degree_fewer : fewer v (by_degree p m) ≡ by_degree p (m - 1)
  degree_fewer =
      ap (λ (w : List ℕ). record { modulus = p; variables = m - 1; order = 1; weights = w ++ (0 ∷ []) }) (removed_same (v - 1) 7 0 (omega arith))

module _ (p m : ℕ) where
  -- refused alike
  pub ones_cases : settings_cases (by_ones p m) ≡ settings_cases (by_degree p m)
  unfolding settings_cases right_weights
  ones_cases = rw (ones_right m (8 - m), zeros_right 8)

  -- the comparisons as functions
  same : ◌≡◌ {A = Monomial m → Monomial m → Ordering} (λ a b. cmp (weighted (replicate m 1 ++ replicate (8 - m) 0)) a.0 b.0) (λ a b. cmp grlex a.0 b.0)
  same = fun_ext (λ a. fun_ext (λ b. ones_cmp m (replicate (8 - m) 0) a.0 b.0 a.1 b.1))

  -- the sheet, the count of its rows, and what drawing it up costs
  pub ones_sheet : (L : Counted) → tables_of (by_ones p m) L ≡ tables_of (by_degree p m) L
  unfolding tables_of standard_table leads_table coefficients_table order_of
  ones_sheet L = ap sheet same
    where
      sheet : (Monomial m → Monomial m → Ordering) → Tables
      sheet c = let D = space_by (p - 1) m c in let S = points_under (by_degree p m) (points_of L) in record {
        states = states_table (points_of L);
        standard = fill standard_size (in_places 8 (map (λ a. a.0) (standard_of D S)));
        leads = fill leads_size (in_places 8 (map (λ a. a.0) (leads_of D S)));
        coefficients = fill coefficients_size (in_places 64 (rows_of D S));
        counts = fill counts_size (counts_of L);
      }

  pub ones_rows : (S : List (List ℕ)) → row_count (by_ones p m) S ≡ row_count (by_degree p m) S
  unfolding row_count order_of
  ones_rows S = ap (λ c. length (leads_of (space_by (p - 1) m c) (points_under (by_degree p m) S))) same

  pub ones_cancellations : (S : List (List ℕ)) → cancellations_under (by_ones p m) S ≡ cancellations_under (by_degree p m) S
  unfolding cancellations_under order_of
  ones_cancellations S = ap (λ c. cancellations_of (space_by (p - 1) m c) (points_under (by_degree p m) S)) same

  -- and so every call that makes one, whatever it is handed
  pub ones_drawn : (t : Tables) (levels : List ℤ) → draw_outcome (by_ones p m) t levels ≡ draw_outcome (by_degree p m) t levels
  unfolding draw_outcome draw_refusal draw_cases points_offered holding
  ones_drawn t levels = rw (ones_cases, ones_sheet, ones_rows, ones_cancellations)

  pub ones_recognised : (n r : ℕ) (t : Tables) → recognised (by_ones p m) n r t ≡ recognised (by_degree p m) n r t
  unfolding recognised held_in points_in
  ones_recognised n r t = rw (ones_sheet, ones_rows)

  pub ones_added : (n r : ℕ) (t : Tables) (levels : List ℤ) → add_outcome (by_ones p m) n r t levels ≡ add_outcome (by_degree p m) n r t levels
  unfolding add_outcome add_refusal add_cases holding held_in points_in
  ones_added n r t levels = rw (ones_cases, ones_recognised, ones_sheet, ones_rows)

  pub ones_withdrawn : (n r : ℕ) (t : Tables) (levels : List ℤ) → withdraw_outcome (by_ones p m) n r t levels ≡ withdraw_outcome (by_degree p m) n r t levels
  unfolding withdraw_outcome withdraw_refusal withdraw_cases holding held_in points_in
  ones_withdrawn n r t levels = rw (ones_cases, ones_recognised, ones_sheet, ones_rows)

  pub ones_interpolant : (n : ℕ) (t : Tables) (values : List ℤ) → interpolant_in (by_ones p m) n t values ≡ interpolant_in (by_degree p m) n t values
  unfolding interpolant_in points_in order_of
  ones_interpolant n t values =
      ap (λ c. interpolant_of (space_by (p - 1) m c) (points_under (by_degree p m) (points_in (by_degree p m) n t.states)) (residues p values)) same

  pub ones_remainder : (n : ℕ) (t : Tables) (coefficients : List ℤ) (exponents : List ℕ)
      → remainder_in (by_ones p m) n t coefficients exponents ≡ remainder_in (by_degree p m) n t coefficients exponents
  unfolding remainder_in points_in order_of
  ones_remainder n t coefficients exponents =
      ap (λ c. remainder_of (space_by (p - 1) m c) (points_under (by_degree p m) (points_in (by_degree p m) n t.states))
      (polynomial_under (by_degree p m) coefficients exponents)) same

-- Leaving a variable out.
module _ (p m n r : ℕ) (t : Tables) (v : ℕ) (u : Tables) where
  abbrev number : Settings → ℕ
  number s = leave_out_refusal s n r t v u

  ones_left_number : number (by_ones p m) ≡ number (by_degree p m)
  unfolding leave_out_refusal leave_out_cases can_leave_out held_in points_in
  ones_left_number = rw (ones_cases p m, ones_recognised p m)

  ones_left : leave_out_outcome (by_ones p m) n r t v u ≡ leave_out_outcome (by_degree p m) n r t v u
  unfolding leave_out_outcome by_refusal holding held_in points_in
  ones_left = rw ones_left_number (go (number (by_degree p m)) refl)
    where
      L : Counted
      L = without_variable (v - 1) (held_in (by_degree p m) n t)

      go : (k : ℕ) → number (by_degree p m) ≡ k → by_refusal k u (holding (fewer v (by_ones p m)) L u) ≡ by_refusal k u (holding (fewer v (by_degree p m)) L u)
      go zero e = let h = left_passed (by_degree p m) n r t v u e in
          rw (ones_fewer p m v h.least h.most h.ok.few, degree_fewer p m v h.least h.most h.ok.few) (rw (ones_sheet p (m - 1), ones_rows p (m - 1)) refl)
      go (suc k) e = rw (ne_eqb (suc k) 0 (λ z. omega arith)) refl

module _ (p m : ℕ) where
  -- Every call, whatever it is handed, answers and leaves the same under both settings.
  pub ones_calls : (c : Call) → ending_of (under (by_ones p m) c) ≡ ending_of (under (by_degree p m) c)
  unfolding ending_of draw_packed_outcome outcome_of check_refusal interpolate_outcome values_cases remainder_outcome remainder_cases wiring_outcome points_in
  ones_calls (drawing s t levels) = rw (ones_drawn p m t levels)
  ones_calls (drawing_packed s t levels) = rw (ones_drawn p m t levels)
  ones_calls (handed (operating (adding levels)) s n r t) = rw (ones_added p m n r t levels)
  ones_calls (handed (operating (withdrawing levels)) s n r t) = rw (ones_withdrawn p m n r t levels)
  ones_calls (handed checking s n r t) = rw (ones_cases p m, ones_recognised p m)
  ones_calls (handed (interpolating values buffer) s n r t) = rw (ones_cases p m, ones_recognised p m, ones_interpolant p m)
  ones_calls (handed (dividing coefficients exponents buffer) s n r t) = rw (ones_cases p m, ones_recognised p m, ones_remainder p m)
  ones_calls (handed (wiring values buffer) s n r t) = rw (ones_cases p m, ones_recognised p m)
  ones_calls (leaving_out s n r t v u) = rw (ones_left p m n r t v u)
