-- M-111: moves are records with the next one; what refusals 17, 8 and 13 say of records.
use mathlib.Core.Path.{◌≡◌, refl, sym, ◌∙◌, ap, subst}
use mathlib.Core.Bool.{Bool, true, false, not, cond, ◌&&◌, ◌||◌}
use mathlib.Core.Logic.{inl, inr, ◌↔◌}
use mathlib.Core.List.{List, [], ◌∷◌, ◌++◌, append-nil, append_assoc}
use Prim.Native.Nat.{ℕ, zero, suc, ◌+◌, ◌≤◌, ◌<◌}
use native.Mathlib.Omega.{arith}
use lib.ListN.{length, get_or}
use Rattle.residue.specs.Lists.{Among}
use Rattle.residue.proofs.Tests.{Decides, so, not_so}
use Rattle.specification.proofs.needed.Decided.{equal_told, lists_told}
use Rattle.specification.proofs.leaving.Repeated.{append_in}
use Rattle.courses.specs.TimeCourse.{Timed, Move, move, moves_from, first_move, other_next}
use Rattle.courses.proofs.theory.Moves.{Faultless, faultless, same_next}

-- Record i of the list, from 0, has a successor: it is a move, whose number is the record's own.
pub record HasNext (j : ℕ) (l : List Timed) (a : Move) : Type 0 where
  pub place : ℕ
  pub number : a.at ≡ j + place
  pub before : suc place < length l
  pub state : (get_or l place ([], 0)).0 ≡ a.state
  pub next : (get_or l (suc place) ([], 0)).0 ≡ a.next
  pub course : (get_or l place ([], 0)).1 ≡ (get_or l (suc place) ([], 0)).1

pub move_record : (j : ℕ) (l : List Timed) (a : Move) → Among a (moves_from j l) → HasNext j l a
unfolding moves_from
move_record j [] a mem = absurd mem
move_record j (x ∷ []) a mem = absurd mem
move_record j (x ∷ y ∷ l) a mem = go (equal_told x.1 y.1) mem (λ z. move_record (suc j) (y ∷ l) a z)
  where
    later : HasNext (suc j) (y ∷ l) a → HasNext j (x ∷ y ∷ l) a
    later h = record {
      place = suc h.place;
      number = h.number ∙ omega arith;
      before = omega (arith, h.before);
      state = h.state;
      next = h.next;
      course = h.course;
    }

    go : {b : Bool} → Decides (x.1 ≡ y.1) b → Among a (cond b (move j x.0 y.0 ∷ moves_from (suc j) (y ∷ l)) (moves_from (suc j) (y ∷ l)))
        → (Among a (moves_from (suc j) (y ∷ l)) → HasNext (suc j) (y ∷ l) a) → HasNext j (x ∷ y ∷ l) a
    go (so e) (inl u) rec = record {
      place = 0;
      number = ap (λ (m : Move). m.at) u ∙ omega arith;
      before = omega arith;
      state = ap (λ (m : Move). m.state) (sym u);
      next = ap (λ (m : Move). m.next) (sym u);
      course = e;
    }
    go (so e) (inr z) rec = later (rec z)
    go (not_so n) z rec = later (rec z)

pub record_move : (j : ℕ) (l : List Timed) (i : ℕ) → suc i < length l → (get_or l i ([], 0)).1 ≡ (get_or l (suc i) ([], 0)).1
    → Among (move (j + i) (get_or l i ([], 0)).0 (get_or l (suc i) ([], 0)).0) (moves_from j l)
unfolding moves_from
record_move j [] i h e = absurd (omega arith)
record_move j (x ∷ []) i h e = absurd (omega arith)
record_move j (x ∷ y ∷ l) zero h e = go (equal_told x.1 y.1)
  where
    go : {b : Bool} → Decides (x.1 ≡ y.1) b → Among (move (j + 0) x.0 y.0)
        (cond b (move j x.0 y.0 ∷ moves_from (suc j) (y ∷ l)) (moves_from (suc j) (y ∷ l)))
    go (so f) = let k : j + 0 ≡ j = omega arith in inl (ap (λ (n : ℕ). move n x.0 y.0) k)
    go (not_so n) = absurd (n e)
record_move j (x ∷ y ∷ l) (suc i) h e = go (equal_told x.1 y.1) (record_move (suc j) (y ∷ l) i (omega arith) e)
  where
    a : ℕ → Move
    a n = move n (get_or (y ∷ l) i ([], 0)).0 (get_or (y ∷ l) (suc i) ([], 0)).0

    go : {b : Bool} → Decides (x.1 ≡ y.1) b → Among (a (suc j + i)) (moves_from (suc j) (y ∷ l))
        → Among (a (j + suc i)) (cond b (move j x.0 y.0 ∷ moves_from (suc j) (y ∷ l)) (moves_from (suc j) (y ∷ l)))
    go (so f) z = let k : j + suc i ≡ suc j + i = omega arith in inr (subst (λ (n : ℕ). Among (a n) (moves_from (suc j) (y ∷ l))) (sym k) z)
    go (not_so n) z = let k : j + suc i ≡ suc j + i = omega arith in subst (λ (n : ℕ). Among (a n) (moves_from (suc j) (y ∷ l))) (sym k) z

-- The record of a refusal is that of the first move that has the fault: none before it has.
pub record FirstFault (f : List Move → Move → Bool) (seen l : List Move) (k : ℕ) : Type 0 where
  pub before : List Move
  pub at : Move
  pub behind : List Move
  pub is : l ≡ before ++ (at ∷ behind)
  pub number : at.at ≡ k
  pub fault : f (seen ++ before) at ≡ true
  pub none : Faultless f seen before

pub first_fault : (f : List Move → Move → Bool) (seen l : List Move) (k : ℕ) → first_move f seen l ≡ suc k → FirstFault f seen l (suc k)
unfolding first_move
first_fault f seen [] k e = absurd (omega (arith, e))
first_fault f seen (a ∷ l) k e = go (f seen a) refl e (λ z. first_fault f (seen ++ (a ∷ [])) l k z)
  where
    go : (b : Bool) → f seen a ≡ b → cond b a.at (first_move f (seen ++ (a ∷ [])) l) ≡ suc k
        → (first_move f (seen ++ (a ∷ [])) l ≡ suc k → FirstFault f (seen ++ (a ∷ [])) l (suc k))
        → FirstFault f seen (a ∷ l) (suc k)
    go true g z rec = record { before = []; at = a; behind = l; is = refl; number = z; fault = ap (λ (m : List Move). f m a) (append-nil seen) ∙ g; none = tt }
    go false g z rec = let w = rec z in record {
      before = a ∷ w.before;
      at = w.at;
      behind = w.behind;
      is = ap (λ (m : List Move). a ∷ m) w.is;
      number = w.number;
      fault = ap (λ (m : List Move). f m w.at) (sym (append_assoc seen (a ∷ []) w.before)) ∙ w.fault;
      none = (g, w.none);
    }

-- 'a state seen with two different successors'
pub other_next_lem : (seen : List Move) (a : Move) → other_next seen a ≡ true → (b : Move) × Among b seen × (b.state ≡ a.state) × ¬ (b.next ≡ a.next)
unfolding other_next
other_next_lem [] a e = absurd (let z : ◌≡◌ {A = ℕ} 0 1 = cc in omega arith)
other_next_lem (x ∷ seen) a e = go (lists_told x.state a.state) (lists_told x.next a.next) e (λ z. other_next_lem seen a z)
  where
    go : {y z : Bool} → Decides (x.state ≡ a.state) y → Decides (x.next ≡ a.next) z → ((y && not z) || other_next seen a) ≡ true
        → (other_next seen a ≡ true → (b : Move) × Among b seen × (b.state ≡ a.state) × ¬ (b.next ≡ a.next))
        → (b : Move) × Among b (x ∷ seen) × (b.state ≡ a.state) × ¬ (b.next ≡ a.next)
    go (so h) (not_so n) u rec = (x, inl refl, h, n)
    go (so h) (so g) u rec = let w = rec u in (w.0, inr w.1, w.2, w.3)
    go (not_so h) g u rec = let w = rec u in (w.0, inr w.1, w.2, w.3)

-- No 17 is given exactly where the successor is a function of the state.
pub no_other : (seen l : List Move) → ((a b : Move) → Among a (seen ++ l) → Among b (seen ++ l) → a.state ≡ b.state → a.next ≡ b.next)
    → first_move other_next seen l ≡ 0
unfolding first_move
no_other seen [] h = refl
no_other seen (a ∷ l) h = go (other_next seen a) refl (no_other (seen ++ (a ∷ [])) l (rw (append_assoc seen (a ∷ []) l) h))
  where
    go : (b : Bool) → other_next seen a ≡ b → first_move other_next (seen ++ (a ∷ [])) l ≡ 0 → cond b a.at (first_move other_next (seen ++ (a ∷ [])) l) ≡ 0
    go false e rec = rec
    go true e rec = let w = other_next_lem seen a e in
        absurd (w.3 (h w.0 a (append_in w.0 seen (a ∷ l) (inl w.1)) (append_in a seen (a ∷ l) (inr (inl refl))) w.2))

pub one_successor : (ms : List Move) → ((a : Move) → Among a ms → 1 ≤ a.at)
    → first_move other_next [] ms ≡ 0 ↔ ((a b : Move) → Among a ms → Among b ms → a.state ≡ b.state → a.next ≡ b.next)
one_successor ms h = ((λ e. same_next [] ms (faultless other_next [] ms h e)), λ all. no_other [] ms all)
