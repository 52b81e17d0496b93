-- The moves of the records before one: one record more, all records, and what stands behind.
use mathlib.Core.Path.{◌≡◌, refl, sym, ◌∙◌, ap}
use mathlib.Core.Bool.{Bool, true, false, cond, ◌&&◌}
use mathlib.Core.List.{List, [], ◌∷◌, ◌++◌, append-nil}
use Prim.Native.Nat.{ℕ, zero, suc, ◌+◌, ◌≤◌}
use native.Mathlib.Omega.{arith}
use lib.ListN.{length, take, drop}
use lib.Seq.{take_all}
use lib.Dec.{eqb, leb-suc-suc}
use borrow.Author.Tests.{lt-ltb, le-ltb}
use Rattle.residue.specs.Lists.{Among}
use Rattle.courses.specs.TimeCourse.{Timed, Move, move, moves_from, moves_of}
use Rattle.courses.specs.Moves.{state_at, course_at, has_next, move_at, moves_before}
use Rattle.courses.proofs.theory.Moves.{moves_at}

-- a record at the end of the list or behind it has no successor
no_next : (i : ℕ) (l : List Timed) → length l ≤ suc i → has_next i l ≡ false
unfolding has_next
no_next i l h = rw (le-ltb (suc i) (length l) h) refl

next_on : (i : ℕ) (a : Timed) (l : List Timed) → has_next (suc i) (a ∷ l) ≡ has_next i l
unfolding has_next
next_on i a l = ap (λ (b : Bool). b && eqb (course_at i l) (course_at (suc i) l)) (leb-suc-suc (suc (suc i)) (length l))

next_first : (a b : Timed) (l : List Timed) → has_next 0 (a ∷ b ∷ l) ≡ eqb a.1 b.1
unfolding has_next
next_first a b l = ap (λ (x : Bool). x && eqb a.1 b.1) (lt-ltb 1 (suc (suc (length l))) (omega arith))

-- the move of record i, as a list
abbrev here : ℕ → ℕ → List Timed → List Move
here k i l = cond (has_next i l) (move (k + i) (state_at i l) (state_at (suc i) l) ∷ []) []

moved : (k i : ℕ) (l : List Timed) → moves_from k (take (suc (suc i)) l) ≡ moves_from k (take (suc i) l) ++ here k i l
unfolding moves_from
moved k i [] = rw (no_next i [] (omega arith)) refl
moved k zero (a ∷ []) = rw (no_next 0 (a ∷ []) (omega arith)) refl
moved k (suc i) (a ∷ []) = rw (no_next (suc i) (a ∷ []) (omega arith)) refl
moved k zero (a ∷ b ∷ l) = let z : k + 0 ≡ k = omega arith in rw (next_first a b l, z) refl
moved k (suc i) (a ∷ b ∷ l) =
    let z : k + suc i ≡ suc k + i = omega arith in
    rw (next_on i a (b ∷ l), z) (go (eqb a.1 b.1) (moved (suc k) i (b ∷ l)))
  where
    go : (e : Bool) → moves_from (suc k) (take (suc (suc i)) (b ∷ l)) ≡ moves_from (suc k) (take (suc i) (b ∷ l)) ++ here (suc k) i (b ∷ l)
        → cond e (move k a.0 b.0 ∷ moves_from (suc k) (take (suc (suc i)) (b ∷ l))) (moves_from (suc k) (take (suc (suc i)) (b ∷ l)))
        ≡ cond e (move k a.0 b.0 ∷ moves_from (suc k) (take (suc i) (b ∷ l))) (moves_from (suc k) (take (suc i) (b ∷ l))) ++ here (suc k) i (b ∷ l)
    go true h = ap (λ (x : List Move). move k a.0 b.0 ∷ x) h
    go false h = h

-- with one record more
pub before_next : (i : ℕ) (l : List Timed) → has_next i l ≡ true → moves_before (i + 1) l ≡ moves_before i l ++ (move_at i l ∷ [])
unfolding moves_before moves_of
before_next i l h =
    let on : i + 1 ≡ suc i = omega arith in
    let two : i + 2 ≡ 2 + i = omega arith in
    rw (on, two) (moved 2 i l ∙ ap (λ (b : Bool). moves_from 2 (take (suc i) l) ++ cond b (move (2 + i) (state_at i l) (state_at (suc i) l) ∷ []) []) h)

pub before_same : (i : ℕ) (l : List Timed) → has_next i l ≡ false → moves_before (i + 1) l ≡ moves_before i l
unfolding moves_before moves_of
before_same i l h =
    let on : i + 1 ≡ suc i = omega arith in
    rw on (moved 2 i l ∙ ap (λ (b : Bool). moves_from 2 (take (suc i) l) ++ cond b (move (2 + i) (state_at i l) (state_at (suc i) l) ∷ []) []) h
    ∙ append-nil (moves_from 2 (take (suc i) l)))

-- no record is before the first, and all are before the end
pub before_none : (l : List Timed) → moves_before 0 l ≡ []
unfolding moves_before moves_of moves_from
before_none [] = refl
before_none (a ∷ l) = refl

pub before_all : (i : ℕ) (l : List Timed) → length l ≤ i → moves_before i l ≡ moves_of l
unfolding moves_before
before_all i l h = ap moves_of (take_all (suc i) l (omega arith))

-- all moves are those before a record, its own and those behind it
cut : (k i : ℕ) (l : List Timed) → has_next i l ≡ true
    → moves_from k l ≡ moves_from k (take (suc i) l) ++ (move (k + i) (state_at i l) (state_at (suc i) l) ∷ moves_from (suc (k + i)) (drop (suc i) l))
unfolding moves_from
cut k i [] h = let z : true ≡ false = sym h ∙ no_next i [] (omega arith) in absurd (let y : ◌≡◌ {A = ℕ} 0 1 = cc in omega arith)
cut k i (a ∷ []) h = let z : true ≡ false = sym h ∙ no_next i (a ∷ []) (omega arith) in absurd (let y : ◌≡◌ {A = ℕ} 0 1 = cc in omega arith)
cut k zero (a ∷ b ∷ l) h = let z : k + 0 ≡ k = omega arith in rw (sym (next_first a b l) ∙ h, z) refl
cut k (suc i) (a ∷ b ∷ l) h =
    let z : k + suc i ≡ suc k + i = omega arith in
    rw z (go (eqb a.1 b.1) (cut (suc k) i (b ∷ l) (sym (next_on i a (b ∷ l)) ∙ h)))
  where
    rest : List Move
    rest = move (suc k + i) (state_at i (b ∷ l)) (state_at (suc i) (b ∷ l)) ∷ moves_from (suc (suc k + i)) (drop (suc i) (b ∷ l))

    go : (e : Bool) → moves_from (suc k) (b ∷ l) ≡ moves_from (suc k) (take (suc i) (b ∷ l)) ++ rest
        → cond e (move k a.0 b.0 ∷ moves_from (suc k) (b ∷ l)) (moves_from (suc k) (b ∷ l))
        ≡ cond e (move k a.0 b.0 ∷ moves_from (suc k) (take (suc i) (b ∷ l))) (moves_from (suc k) (take (suc i) (b ∷ l))) ++ rest
    go true f = ap (λ (x : List Move). move k a.0 b.0 ∷ x) f
    go false f = f

pub moves_cut : (i : ℕ) (l : List Timed) → has_next i l ≡ true → moves_of l ≡ moves_before i l ++ (move_at i l ∷ moves_from (suc (2 + i)) (drop (suc i) l))
unfolding moves_before moves_of
moves_cut i l h = let two : i + 2 ≡ 2 + i = omega arith in rw two (cut 2 i l h)

-- the records of moves are not 0
pub before_at : (i : ℕ) (l : List Timed) (a : Move) → Among a (moves_before i l) → 1 ≤ a.at
unfolding moves_before moves_of
before_at i l a mem = moves_at 2 (take (suc i) l) (omega arith) a mem
