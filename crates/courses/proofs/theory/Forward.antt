-- M-111: the model applied k times to a course's first state gives its record k+1; and what a call stands on that is not refused.
use mathlib.Core.Path.{◌≡◌, refl, sym, ◌∙◌, ap, subst}
use mathlib.Core.Bool.{Bool, true, false, not, cond, ◌||◌}
use mathlib.Core.Logic.{inl, inr}
use mathlib.Core.List.{List, [], ◌∷◌, ◌++◌, append-nil, append_assoc}
use Prim.Native.Nat.{ℕ, zero, suc, ◌≤◌, ◌<◌}
use native.Mathlib.Omega.{arith}
use lib.ListN.{length, get_or}
use lib.Dec.{T, eqb, ltb}
use borrow.Author.Tests.{eqb-true, not-false}
use Rattle.residue.specs.Lists.{Among, some}
use Rattle.specification.specs.declared.settings.Settings.{Settings}
use Rattle.specification.specs.Refusal.{first_of}
use Rattle.specification.specs.Counted.{counts_of, entered_all, gathered, overfull}
use Rattle.specification.specs.Tables.{Tables}
use Rattle.specification.specs.Adding.{holding}
use Rattle.specification.specs.CallByCall.{HoldsBasis}
use Rattle.specification.specs.Points.{IsPoint}
use Rattle.specification.specs.Settings.{Accepted}
use Rattle.specification.proofs.ideal.Lists.{among_map}
use Rattle.specification.proofs.counted.Gathered.{Entries, entries_gathered}
use Rattle.specification.proofs.CallByCall.{holds_basis}
use Rattle.courses.specs.TimeCourse.{Timed, in_runs, course_of, Move, move, moves_from, moves_of, states_of, points_of_moves, first_move, other_next, many_points}
use Rattle.courses.specs.TimeCourse.{often_counted, moves_cases, course_cases, course_refusal, step, times, course_return, course_sheet}
use Rattle.courses.specs.Returns.{Ends}
use Rattle.courses.proofs.theory.Runs.{run_ends}
use Rattle.courses.proofs.theory.Moves.{course_moves, moves_at, Faultless, faultless, next_is}
use Rattle.courses.proofs.theory.Model.{state_in, step_is}

-- the states of moves are states of records
moves_of_lem : (X : List ℕ → Type 0) (j : ℕ) (l : List Timed) → ((a : Timed) → Among a l → X a.0) → (m : Move) → Among m (moves_from j l)
    → X m.state × X m.next
unfolding moves_from
moves_of_lem X j [] h m mem = absurd mem
moves_of_lem X j (a ∷ []) h m mem = absurd mem
moves_of_lem X j (a ∷ b ∷ l) h m mem = go (eqb a.1 b.1) mem (λ z. moves_of_lem X (suc j) (b ∷ l) (λ c q. h c (inr q)) m z)
  where
    go : (t : Bool) → Among m (cond t (move j a.0 b.0 ∷ moves_from (suc j) (b ∷ l)) (moves_from (suc j) (b ∷ l)))
        → (Among m (moves_from (suc j) (b ∷ l)) → X m.state × X m.next) → X m.state × X m.next
    go true (inl e) rec = rw e (h a (inl refl), h b (inr (inl refl)))
    go true (inr z) rec = rec z
    go false z rec = rec z

module _ (s : Settings) (ok : Accepted s) (l : List Timed) (each : (a : Timed) → Among a l → IsPoint s a.0) where
  abbrev ms : List Move
  ms = moves_of l

  points_both : (m : Move) → Among m ms → IsPoint s m.state × IsPoint s m.next
  unfolding moves_of
  points_both m mem = moves_of_lem (IsPoint s) 2 l each m mem

  points : (m : Move) → Among m ms → IsPoint s m.state
  points m mem = (points_both m mem).0

  numbered : (m : Move) → Among m ms → 1 ≤ m.at
  unfolding moves_of
  numbered m mem = moves_at 2 l (omega arith) m mem

  module _ (one : first_move other_next [] ms ≡ 0) where
    -- the model takes each point to its successor
    pub model_moves : (m : Move) → Among m ms → step s ms m.state ≡ m.next
    model_moves m mem = let e = next_is ms (faultless other_next [] ms numbered one) m mem in
        step_is s ok ms points m.state (state_in s ok ms points m mem) (rw e (points_both m mem).1) ∙ e

    -- Document 02, M-111: 'the model applied k times to a course's first state gives its record k+1, if it has one'. Of every course and every k.
    pub course_forward : T (in_runs l) → (c k : ℕ) → k < length (course_of c l) → times k (step s ms) (get_or (course_of c l) 0 []) ≡ get_or (course_of c l) k []
    unfolding times moves_of
    course_forward runs c zero h = refl
    course_forward runs c (suc k) h = let w = course_moves c 2 l runs k h in
        ap (step s ms) (course_forward runs c k (omega arith) ∙ sym w.2) ∙ model_moves w.0 w.1 ∙ w.3

-- A call that is not refused: no case holds.
pub record Passes (c : ℕ) (l : List Timed) : Type 0 where
  pub one : first_move other_next [] (moves_of l) ≡ 0
  pub few : first_move many_points [] (moves_of l) ≡ 0
  pub rare : first_move often_counted [] (moves_of l) ≡ 0
  pub named : some (λ a. eqb a.1 c) l ≡ true

pub passes : (c : ℕ) (l : List Timed) → (course_refusal c l).0 ≡ 0 → Passes c l
unfolding course_refusal course_cases moves_cases first_of
passes c l e = go _ _ _ _ refl refl refl refl e
  where
    zero_of : (n : ℕ) → not (eqb n 0) ≡ false → n ≡ 0
    zero_of n f = eqb-true n 0 (not-false (eqb n 0) f)

    go : (x y z w : Bool) → not (eqb (first_move other_next [] (moves_of l)) 0) ≡ x → not (eqb (first_move many_points [] (moves_of l)) 0) ≡ y
        → not (eqb (first_move often_counted [] (moves_of l)) 0) ≡ z → not (some (λ a. eqb a.1 c) l) ≡ w
        → (first_of {A = ℕ × ℕ} (0, 0) ((x, (17, first_move other_next [] (moves_of l))) ∷ (y, (8, first_move many_points [] (moves_of l)))
        ∷ (z, (13, first_move often_counted [] (moves_of l))) ∷ (w, (18, 0)) ∷ [])).0 ≡ 0
        → Passes c l
    go true y z w a b d f u = absurd (omega (arith, u))
    go false true z w a b d f u = absurd (omega (arith, u))
    go false false true w a b d f u = absurd (omega (arith, u))
    go false false false true a b d f u = absurd (omega (arith, u))
    go false false false false a b d f u = record { one = zero_of _ a; few = zero_of _ b; rare = zero_of _ d; named = not-false _ f }

-- a fault of the moves up to one, over all of them
whole : (g : List Move → Bool) (seen l : List Move) → Faultless (λ before a. g (before ++ (a ∷ []))) seen l → g seen ≡ false → g (seen ++ l) ≡ false
whole g seen [] h e = ap g (append-nil seen) ∙ e
whole g seen (a ∷ l) h e = ap g (sym (append_assoc seen (a ∷ []) l)) ∙ whole g (seen ++ (a ∷ [])) l h.1 h.0

module _ (s : Settings) (ok : Accepted s) (c : ℕ) (l : List Timed) (each : (a : Timed) → Among a l → IsPoint s a.0) (zero : (course_refusal c l).0 ≡ 0) where
  few_points : ltb 64 (length (points_of_moves (moves_of l))) ≡ false
  unfolding many_points points_of_moves gathered entered_all
  few_points = whole (λ m. ltb 64 (length (points_of_moves m))) [] (moves_of l)
      (faultless many_points [] (moves_of l) (numbered s ok l each) (passes c l zero).few) refl

  pub rare_points : some (ltb 255) (counts_of (points_of_moves (moves_of l))) ≡ false
  unfolding often_counted points_of_moves gathered entered_all
  rare_points = whole (λ m. some (ltb 255) (counts_of (points_of_moves m))) [] (moves_of l)
      (faultless often_counted [] (moves_of l) (numbered s ok l each) (passes c l zero).rare) refl

  -- at most 64 points, each with a count from 1 to 255
  pub course_entries : Entries s (points_of_moves (moves_of l))
  unfolding points_of_moves overfull
  course_entries = entries_gathered s (states_of (moves_of l))
      (λ P mem. let w = among_map (λ m. m.state) (moves_of l) P mem in subst (IsPoint s) (sym w.2) (points s ok l each w.0 w.1))
      (few_points, (rare_points, tt))

  -- the points' sheet, with their counts
  pub course_leaves : (u : Tables) → let o = course_sheet s l u in HoldsBasis s (points_of_moves (moves_of l)) u o.answer.n o.answer.r o.tables
  unfolding course_sheet holding
  course_leaves u = holds_basis s ok (points_of_moves (moves_of l)) course_entries u refl refl refl

  -- every course runs forward as it was recorded, for every k and so up to 256; and the answer is the first return of the named course's first state
  pub forward : T (in_runs l) → (d k : ℕ) → k < length (course_of d l) → times k (step s (moves_of l)) (get_or (course_of d l) 0 []) ≡ get_or (course_of d l) k []
  forward runs d k h = course_forward s ok l each (passes c l zero).one runs d k h

  pub return_ends : Ends (step s (moves_of l)) (get_or (course_of c l) 0 []) 256 (course_return s c l)
  unfolding course_return
  return_ends = run_ends (step s (moves_of l)) (get_or (course_of c l) 0 [])

-- a course that is named has a first state
pub course_begins : (c : ℕ) (l : List Timed) → some (λ a. eqb a.1 c) l ≡ true → 1 ≤ length (course_of c l)
unfolding course_of
course_begins c [] e = absurd (let z : ◌≡◌ {A = ℕ} 0 1 = cc in omega arith)
course_begins c (a ∷ l) e = go (eqb a.1 c) e (λ z. course_begins c l z)
  where
    go : (b : Bool) → (b || some (λ d. eqb d.1 c) l) ≡ true → (some (λ d. eqb d.1 c) l ≡ true → 1 ≤ length (course_of c l))
        → 1 ≤ length (cond b (a.0 ∷ course_of c l) (course_of c l))
    go true z rec = omega arith
    go false z rec = rec z
