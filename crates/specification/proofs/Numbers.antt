-- What is said of every call at once, whatever it is handed: which numbers it can give, and that a refusal comes alone (request M-106; docs/SCOPE.md, 'Refused,
-- in this order of checking').
use mathlib.Core.Path.{◌≡◌, refl, sym, ◌∙◌}
use mathlib.Core.Bool.{Bool, true, false, not, cond}
use mathlib.Core.List.{List, [], ◌∷◌}
use mathlib.Core.Logic.{◌≢◌}
use Prim.Native.Nat.{ℕ, ◌≤◌}
use native.Mathlib.Omega.{arith}
use lib.IntN.{ℤ}
use lib.Dec.{T, eqb, leb, leb→le}
use borrow.Author.Tests.{eq-eqb, ne_eqb}
use Rattle.residue.specs.Lists.{every, all_zero}
use Rattle.residue.proofs.Tests.{and_left, and_right}
use Rattle.specification.specs.Refusal.{Case, first_of}
use Rattle.specification.specs.Settings.{Accepted, settings_cases}
use Rattle.specification.specs.Counted.{Counted, overfull}
use Rattle.specification.specs.declared.settings.Settings.{Settings}
use Rattle.specification.specs.Tables.{Tables, too_short}
use Rattle.specification.specs.Adding.{refused, by_refusal, add_cases, add_refusal, add_outcome, draw_cases, draw_refusal, draw_outcome, uncosted, draw_packed_outcome}
use Rattle.specification.specs.Withdrawing.{withdraw_cases, withdraw_refusal, withdraw_outcome}
use Rattle.specification.specs.Solving.{check_refusal, filling, listing, values_cases, interpolate_outcome, remainder_cases, remainder_outcome, wiring_outcome}
use Rattle.specification.specs.Reference.{adding, withdrawing, outcome_of, reference_answer}
use Rattle.specification.specs.Calls.{Request, operating, checking, interpolating, dividing, wiring, Call, drawing, drawing_packed, handed, leaving_out, ending_of, number_of}
use Rattle.specification.specs.Calls.{tables_lent, buffer_lent, Alone, values_left, terms_left, number_with}
use Rattle.specification.specs.LeaveOut.{fewer, leave_out_cases, leave_out_refusal, leave_out_outcome}
use Rattle.specification.specs.CallByCall.{HoldsBasis}
use Rattle.specification.proofs.CallByCall.{basis_entries}
use Rattle.specification.proofs.agreement.Refusals.{not_refused, large_of}
use Rattle.specification.proofs.agreement.Handed.{number_told}
use Rattle.specification.proofs.agreement.Run.{number_of_lem}
use Rattle.specification.proofs.leaving.Calls.{left_number}

-- A number that no case has is not that of the first case that holds. An answer has its number, or is one.
pub never : {A : Type 0} (number : A → ℕ) (k : ℕ) (none : A) (l : List (Bool × A)) → number none ≢ k → T (every (λ c. not (eqb (number c.1) k)) l) → number (first_of none l) ≢ k
unfolding first_of
never number k none [] z t e = z e
never number k none ((true, a) ∷ l) z t e = rw (eq-eqb (number a) k e) at (and_left (not (eqb (number a) k)) _ t)
never number k none ((false, a) ∷ l) z t e = never number k none l z (and_right (not (eqb (number a) k)) _ t) e

-- Numbers that no case exceeds.
pub at_most : {A : Type 0} (number : A → ℕ) (k : ℕ) (none : A) (l : List (Bool × A)) → number none ≤ k → T (every (λ c. leb (number c.1) k) l)
    → number (first_of none l) ≤ k
unfolding first_of
at_most number k none [] z t = z
at_most number k none ((true, a) ∷ l) z t = leb→le (number a) k (and_left (leb (number a) k) _ t)
at_most number k none ((false, a) ∷ l) z t = at_most number k none l z (and_right (leb (number a) k) _ t)

-- The cases that a call goes through: its number is that of the first that holds.
abbrev CaseByCase : Call → Type 0
CaseByCase c = (l : List Case) × (number_of c ≡ first_of 0 l) × T (every (λ c. not (eqb c.1 11)) l) × T (every (λ c. leb c.1 16) l)

-- Drawing up with words has one case before those of drawing up.
packed_number : (s : Settings) (t : Tables) (levels : List ℤ)
    → (draw_packed_outcome s t levels).answer.refusal ≡ first_of 0 ((not (eqb s.modulus 2), 3) ∷ draw_cases s t levels)
unfolding first_of draw_packed_outcome refused draw_outcome draw_refusal
packed_number s t levels = go (eqb s.modulus 2)
  where
    go : (b : Bool) → (cond b (uncosted (draw_outcome s t levels)) (refused 3 t)).answer.refusal ≡ first_of 0 ((not b, 3) ∷ draw_cases s t levels)
    go true = number_of_lem (draw_refusal s t levels) t s _
    go false = refl

cases_of : (c : Call) → CaseByCase c
unfolding ending_of outcome_of add_outcome add_refusal add_cases withdraw_outcome withdraw_refusal withdraw_cases draw_outcome draw_refusal draw_cases check_refusal
    interpolate_outcome remainder_outcome wiring_outcome filling listing values_cases remainder_cases settings_cases overfull leave_out_refusal leave_out_cases
cases_of (drawing s t levels) = (draw_cases s t levels, number_of_lem (draw_refusal s t levels) t s _, tt, tt)
cases_of (drawing_packed s t levels) = ((not (eqb s.modulus 2), 3) ∷ draw_cases s t levels, packed_number s t levels, tt, tt)
cases_of (handed (operating (adding levels)) s n r t) = (add_cases s n r t levels, number_of_lem (add_refusal s n r t levels) t s _, tt, tt)
cases_of (handed (operating (withdrawing levels)) s n r t) = (withdraw_cases s n r t levels, number_of_lem (withdraw_refusal s n r t levels) t s _, tt, tt)
cases_of (handed checking s n r t) = (_, refl, tt, tt)
cases_of (handed (interpolating values buffer) s n r t) = (values_cases 64 s n r t values buffer, refl, tt, tt)
cases_of (handed (dividing coefficients exponents buffer) s n r t) = (remainder_cases s n r t coefficients exponents buffer, refl, tt, tt)
cases_of (handed (wiring values buffer) s n r t) = (values_cases 8 s n r t values buffer, refl, tt, tt)
cases_of (leaving_out s n r t v u) = (leave_out_cases s n r t v (too_short u), left_number s n r t v u, tt, tt)

pub never_eleven : (c : Call) → number_of c ≢ 11
never_eleven c e = let w = cases_of c in never (λ k. k) 11 0 w.0 (λ z. omega arith) w.2 (sym w.1 ∙ e)

-- no call gives a number above 16
pub few_numbers : (c : Call) → number_of c ≤ 16
few_numbers c = let w = cases_of c in rw w.1 (at_most (λ k. k) 16 0 w.0 (omega arith) w.3)

-- A refusal comes alone: the other parts of the answer are 0, and no lent byte has changed.
pub refused_alone : (c : Call) → number_of c ≢ 0 → Alone c
unfolding ending_of tables_lent buffer_lent draw_packed_outcome outcome_of add_outcome withdraw_outcome draw_outcome by_refusal refused interpolate_outcome remainder_outcome wiring_outcome
    filling listing all_zero leave_out_outcome
refused_alone (drawing s t levels) h =
    let k = draw_refusal s t levels in
    let e = ne_eqb k 0 (λ z. h (number_of_lem k t s _ ∙ z)) in record { parts = rw e tt; tables = rw e refl; buffer = refl }
refused_alone (drawing_packed s t levels) h = let w = go (eqb s.modulus 2) h in record { parts = w.0; tables = w.1; buffer = refl }
  where
    go : (b : Bool) → let o = cond b (uncosted (draw_outcome s t levels)) (refused 3 t) in o.answer.refusal ≢ 0
        → T (all_zero (o.answer.n ∷ o.answer.r ∷ [])) × (o.tables ≡ t)
    go true z = let e = ne_eqb (draw_refusal s t levels) 0 (λ y. z (number_of_lem (draw_refusal s t levels) t s _ ∙ y)) in (rw e tt, rw e refl)
    go false z = (tt, refl)
refused_alone (handed (operating (adding levels)) s n r t) h =
    let k = add_refusal s n r t levels in
    let e = ne_eqb k 0 (λ z. h (number_of_lem k t s _ ∙ z)) in record { parts = rw e tt; tables = rw e refl; buffer = refl }
refused_alone (handed (operating (withdrawing levels)) s n r t) h =
    let k = withdraw_refusal s n r t levels in
    let e = ne_eqb k 0 (λ z. h (number_of_lem k t s _ ∙ z)) in record { parts = rw e tt; tables = rw e refl; buffer = refl }
refused_alone (handed checking s n r t) h = record { parts = tt; tables = refl; buffer = refl }
refused_alone (handed (interpolating values buffer) s n r t) h =
    let e = ne_eqb (first_of 0 (values_cases 64 s n r t values buffer)) 0 h in record { parts = tt; tables = refl; buffer = rw e refl }
refused_alone (handed (dividing coefficients exponents buffer) s n r t) h =
    let e = ne_eqb (first_of 0 (remainder_cases s n r t coefficients exponents buffer)) 0 h in record { parts = tt; tables = refl; buffer = rw e refl }
refused_alone (handed (wiring values buffer) s n r t) h =
    let e = ne_eqb (first_of 0 (values_cases 8 s n r t values buffer)) 0 h in record { parts = rw e tt; tables = refl; buffer = rw e refl }
refused_alone (leaving_out s n r t v u) h =
    let k = leave_out_refusal s n r t v u in
    let e = ne_eqb k 0 (λ z. h (number_of_lem k u (fewer v s) _ ∙ z)) in record { parts = rw e tt; tables = rw e refl; buffer = refl }

-- Checking and every other call, the other way: handed n, r and tables that are the basis of at most 64 points with their counts, laid out in tables long
-- enough, under settings that no call refuses.
module _ (s : Settings) (ok : Accepted s) (L : Counted) (lent : Tables) (large : too_short lent ≡ false) where
  module _ (n r : ℕ) (t : Tables) (h : HoldsBasis s L lent n r t) where
    pub basis_numbers : (q : Request) → number_of (handed q s n r t) ≡ number_with q s L
    basis_numbers q = rw (h.count, h.rows, h.tables) (number_told s (not_refused s ok) L (basis_entries s ok L h) lent (large_of lent large) q)

    pub never_ten : (q : Request) → number_of (handed q s n r t) ≢ 10
    unfolding number_with reference_answer overfull values_left terms_left
    never_ten q e = other q (sym (basis_numbers q) ∙ e)
      where
        other : (q : Request) → number_with q s L ≢ 10
        other (operating (adding levels)) = never (λ k. k) 10 0 _ (λ z. omega arith) tt
        other (operating (withdrawing levels)) = never (λ k. k) 10 0 _ (λ z. omega arith) tt
        other checking = λ z. omega arith
        other (interpolating values buffer) = never (λ k. k) 10 0 _ (λ z. omega arith) tt
        other (dividing coefficients exponents buffer) = never (λ k. k) 10 0 _ (λ z. omega arith) tt
        other (wiring values buffer) = never (λ k. k) 10 0 _ (λ z. omega arith) tt

    -- checking answers 0
    pub check_taken : check_refusal s n r t ≡ 0
    unfolding ending_of number_with
    check_taken = basis_numbers checking
