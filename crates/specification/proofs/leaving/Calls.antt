-- M-110, call by call: what the call stands on whose number is 0, and what it leaves.
use mathlib.Core.Path.{◌≡◌, refl, sym, ◌∙◌, ap}
use mathlib.Core.Bool.{Bool, true, false, not, cond, ◌&&◌}
use mathlib.Core.List.{[], ◌∷◌, ◌++◌}
use Prim.Native.Nat.{ℕ, ◌-◌, ◌≤◌, ◌<◌}
use native.Mathlib.Decide.{dec_le}
use native.Mathlib.Omega.{arith}
use lib.Dec.{T, eqb, leb, ltb, leb→le}
use borrow.Author.Tests.{eq-eqb, ltb-false, not-false}
use Rattle.residue.specs.Lists.{some}
use Rattle.residue.proofs.Tests.{true_of, of_true, and_left, and_right, neither}
use Rattle.monomial.specs.Insert.{removed_at}
use Rattle.specification.specs.declared.settings.Settings.{Settings}
use Rattle.specification.specs.Counted.{Counted, counts_of}
use Rattle.specification.specs.Tables.{Tables, too_short, held_in, recognised}
use Rattle.specification.specs.Adding.{holding, by_refusal}
use Rattle.specification.specs.CallByCall.{HoldsBasis}
use Rattle.specification.proofs.Recognised.{none_of}
use Rattle.specification.proofs.CallByCall.{holds_basis, known_entries}
use Rattle.specification.proofs.counted.Gathered.{Entries}
use Rattle.specification.specs.Settings.{weighs_first, right_weights, Accepted}
use Rattle.specification.proofs.agreement.Refusals.{accepted}
use Rattle.specification.proofs.agreement.Run.{number_of_lem}
use Rattle.specification.specs.LeaveOut.{without_variable, fewer, can_leave_out, leave_out_cases, leave_out_refusal, leave_out_outcome}
use Rattle.specification.proofs.Sheets.{recognised_of}
use Rattle.specification.proofs.leaving.Weights.{zeros_fewer, weights_fewer}
use Rattle.specification.proofs.leaving.Without.{entries_without}

-- settings with one variable fewer are accepted where there are two
pub fewer_accepted : (s : Settings) (v : ℕ) → Accepted s → v - 1 < s.variables → 2 ≤ s.variables → Accepted (fewer v s)
unfolding right_weights
fewer_accepted s v ok low h = record {
  modulus = ok.modulus;
  some = omega arith;
  few = omega (arith, ok.few);
  order = ok.order;
  weights = weights (eqb s.order 3) ok.weights;
}
  where
    weights : (b : Bool) → weighs_first (cond b s.variables 0) s.weights ≡ true
        → weighs_first (cond b (s.variables - 1) 0) (removed_at (v - 1) s.weights ++ (0 ∷ [])) ≡ true
    weights true e = true_of _ (weights_fewer (s.variables - 1) (v - 1) s.weights (omega arith) (of_true (ap (λ (m : ℕ). weighs_first m s.weights) (omega arith) ∙ e)))
    weights false e = true_of _ (zeros_fewer (v - 1) s.weights (of_true e))

-- what refusal 16 leaves
pub can_leave : (s : Settings) (v : ℕ) → 1 ≤ s.variables → can_leave_out s v ≡ true → (1 ≤ v) × (v ≤ s.variables) × (2 ≤ s.variables)
unfolding can_leave_out
can_leave s v h e =
    let t = of_true e in
    let a = and_left (leb 1 v && leb v s.variables) (not (eqb s.variables 1)) t in (
      leb→le 1 v (and_left (leb 1 v) (leb v s.variables) a),
      leb→le v s.variables (and_right (leb 1 v) (leb v s.variables) a),
      several s.variables h (and_right (leb 1 v && leb v s.variables) (not (eqb s.variables 1)) t),
    )
  where
    several : (m : ℕ) → 1 ≤ m → T (not (eqb m 1)) → 2 ≤ m
    several m low t = go (dec_le 2 m)
      where
        go : Dec (2 ≤ m) → 2 ≤ m
        go (yes z) = z
        go (no z) = absurd (rw (eq-eqb m 1 (omega (arith, z))) at t)

module _ (s : Settings) (n r : ℕ) (t : Tables) (v : ℕ) (u : Tables) where
  abbrev L : Counted
  L = without_variable (v - 1) (held_in s n t)

  pub record Left : Type 0 where
    pub ok : Accepted s
    pub least : 1 ≤ v
    pub most : v ≤ s.variables
    pub two : 2 ≤ s.variables
    pub fine : Accepted (fewer v s)
    pub large : too_short t ≡ false
    pub lent : too_short u ≡ false
    pub few : n ≤ 64
    pub known : recognised s n r t ≡ true
    pub before : Entries s (held_in s n t)
    pub small : some (ltb 255) (counts_of L) ≡ false
    pub entries : Entries (fewer v s) L

  pub left_number : (leave_out_outcome s n r t v u).answer.refusal ≡ leave_out_refusal s n r t v u
  unfolding leave_out_outcome
  left_number = number_of_lem (leave_out_refusal s n r t v u) u (fewer v s) L

  pub left_passed : leave_out_refusal s n r t v u ≡ 0 → Left
  unfolding leave_out_refusal leave_out_cases
  left_passed e =
      let z = none_of s _ tt e in
      let ok = accepted s z.0 in
      let can = can_leave s v ok.some (not-false (can_leave_out s v) z.1.0) in
      let long = neither (too_short u) (too_short t) z.1.1.0 in
      let few = ltb-false 64 n z.1.1.1.0 in
      let known = not-false (recognised s n r t) z.1.1.1.1.0 in
      let before = known_entries s ok n r t few known in
      let low : v - 1 < s.variables = omega (arith, can.0, can.1) in
      let small = z.1.1.1.1.1.0 in record {
        ok = ok;
        least = can.0;
        most = can.1;
        two = can.2;
        fine = fewer_accepted s v ok low can.2;
        large = long.1;
        lent = long.0;
        few = few;
        known = known;
        before = before;
        small = small;
        entries = entries_without s v (v - 1) (held_in s n t) low before small;
      }

  pub left_outcome : leave_out_refusal s n r t v u ≡ 0 → leave_out_outcome s n r t v u ≡ holding (fewer v s) L u
  unfolding leave_out_outcome by_refusal
  left_outcome e = ap (λ (k : ℕ). by_refusal k u (holding (fewer v s) L u)) e

  -- It leaves the basis of the points without the variable, with their counts added, under the settings with one variable fewer: a sheet that every call takes.
  pub leave_out_leaves : let o = leave_out_outcome s n r t v u in o.answer.refusal ≡ 0 → HoldsBasis (fewer v s) L u o.answer.n o.answer.r o.tables
  unfolding holding
  leave_out_leaves e = let z = sym left_number ∙ e in let w = left_passed z in
      rw (left_outcome z) (holds_basis (fewer v s) w.fine L w.entries u refl refl refl)

  pub leave_out_recognised : let o = leave_out_outcome s n r t v u in o.answer.refusal ≡ 0 → recognised (fewer v s) o.answer.n o.answer.r o.tables ≡ true
  leave_out_recognised e = let w = left_passed (sym left_number ∙ e) in recognised_of (fewer v s) w.fine (leave_out_leaves e)
