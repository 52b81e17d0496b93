-- Records that stand for a state with two successors: one after the other, and the first of them.
use mathlib.Core.Path.{◌≡◌, refl, sym, ◌∙◌, ap}
use mathlib.Core.Bool.{Bool, true, false, not, cond, ◌&&◌, ◌||◌}
use mathlib.Core.List.{List, [], ◌∷◌, ◌++◌}
use Prim.Native.Nat.{ℕ, zero, suc, ◌+◌, ◌-◌, ◌<◌, ◌≤◌}
use native.Mathlib.Omega.{arith}
use lib.ListN.{length, get_or}
use lib.Dec.{eqb, ltb}
use borrow.Author.Tests.{lt-ltb, le-ltb, ltb-true}
use Rattle.residue.specs.Lists.{some, same_list}
use Rattle.residue.specs.Layout.{row_at}
use Rattle.residue.proofs.Tests.{and_left, true_of, of_true}
use Rattle.courses.specs.TimeCourse.{Timed, Move, moves_of, first_move, other_next}
use Rattle.courses.specs.Records.{HeldIn}
use Rattle.courses.specs.Moves.{state_at, has_next, move_at, moves_before, next_in, other_in}
use Rattle.courses.proofs.moves.MovesBefore.{before_next, before_same, before_none, before_all, moves_cut, before_at}
use Rattle.courses.proofs.moves.FirstMoves.{first_more, first_found}
use Rattle.courses.proofs.moves.HeldRecords.{other_is}

-- the last record has no successor; any other has the next one where their numbers are equal
module _ (i count : ℕ) (numbers : List ℕ) where
  pub last_alone : i + 1 ≡ count → false ≡ next_in i count numbers
  unfolding next_in
  last_alone e = sym (ap (λ (b : Bool). b && eqb (get_or numbers i 0) (get_or numbers (suc i) 0)) (le-ltb (suc i) count (omega arith)))

  pub next_told : i < count → (i + 1 ≡ count → ⊥) → eqb (get_or numbers i 0) (get_or numbers (i + 1) 0) ≡ next_in i count numbers
  unfolding next_in
  next_told h n =
      let on : i + 1 ≡ suc i = omega arith in
      rw on (sym (ap (λ (b : Bool). b && eqb (get_or numbers i 0) (get_or numbers (suc i) 0)) (lt-ltb (suc i) count (omega (arith, h, n)))))

  pub next_inside : next_in i count numbers ≡ true → i + 1 < count
  unfolding next_in
  next_inside e =
      let told = and_left (ltb (suc i) count) (eqb (get_or numbers i 0) (get_or numbers (suc i) 0)) (of_true e) in
      let low : suc i < count = ltb-true (suc i) count (true_of _ told) in
      omega arith

-- what two records are told by, one test after the other
module _ (i j count : ℕ) (records numbers : List ℕ) where
  pub no_next : next_in j count numbers ≡ false → false ≡ other_in i j count records numbers
  unfolding other_in
  no_next e = rw e refl

  module _ (e : next_in j count numbers ≡ true) where
    pub other_state : same_list (row_at 8 j records) (row_at 8 i records) ≡ false → false ≡ other_in i j count records numbers
    unfolding other_in
    other_state f = rw (e, f) refl

    pub same_states : same_list (row_at 8 j records) (row_at 8 i records) ≡ true
        → not (same_list (row_at 8 (j + 1) records) (row_at 8 (i + 1) records)) ≡ other_in i j count records numbers
    unfolding other_in
    same_states f =
        let a : j + 1 ≡ suc j = omega arith in
        let b : i + 1 ≡ suc i = omega arith in
        rw (e, f, a, b) refl

module _ (f : List Move → Move → Bool) (i : ℕ) (l : List Timed) (none : first_move f [] (moves_before i l) ≡ 0) where
  -- the first fault is here
  pub fault_here : has_next i l ≡ true → f (moves_before i l) (move_at i l) ≡ true → first_move f [] (moves_of l) ≡ i + 2
  fault_here h e = ap (first_move f []) (moves_cut i l h) ∙ first_found f [] (moves_before i l) (move_at i l) _ (before_at i l) none e

  -- or it is not
  pub no_fault_here : (has_next i l && f (moves_before i l) (move_at i l)) ≡ false → first_move f [] (moves_before (i + 1) l) ≡ 0
  no_fault_here = go (has_next i l) refl
    where
      go : (b : Bool) → has_next i l ≡ b → (b && f (moves_before i l) (move_at i l)) ≡ false → first_move f [] (moves_before (i + 1) l) ≡ 0
      go false h e = ap (first_move f []) (before_same i l h) ∙ none
      go true h e =
          ap (first_move f []) (before_next i l h) ∙ first_more f [] (moves_before i l) (move_at i l) (before_at i l)
          ∙ ap (λ (b : Bool). cond (eqb (first_move f [] (moves_before i l)) 0 && b) (i + 2) (first_move f [] (moves_before i l))) e
          ∙ ap (λ (k : ℕ). cond (eqb k 0 && false) (i + 2) k) none

pub no_fault_yet : (f : List Move → Move → Bool) (l : List Timed) → first_move f [] (moves_before 0 l) ≡ 0
unfolding first_move
no_fault_yet f l = ap (first_move f []) (before_none l)

pub no_fault : (f : List Move → Move → Bool) (i : ℕ) (l : List Timed) → length l ≤ i → first_move f [] (moves_before i l) ≡ 0 → 0 ≡ first_move f [] (moves_of l)
no_fault f i l h e = sym (ap (first_move f []) (sym (before_all i l h)) ∙ e)

some_more : {A : Type 0} (f : A → Bool) (l : List A) (a : A) → some f (l ++ (a ∷ [])) ≡ (some f l || f a)
some_more f [] a = go (f a)
  where
    go : (b : Bool) → (b || false) ≡ b
    go true = refl
    go false = refl
some_more f (b ∷ l) a = go (f b) (some_more f l a)
  where
    go : (x : Bool) → some f (l ++ (a ∷ [])) ≡ (some f l || f a) → (x || some f (l ++ (a ∷ []))) ≡ ((x || some f l) || f a)
    go true e = refl
    go false e = e

-- record j stands with another successor than this move
abbrev differs : ℕ → List Timed → Move → Bool
differs j l a = has_next j l && (same_list (state_at j l) a.state && not (same_list (state_at (suc j) l) a.next))

other_more : (j : ℕ) (l : List Timed) (a : Move) → other_next (moves_before (j + 1) l) a ≡ (other_next (moves_before j l) a || differs j l a)
unfolding other_next
other_more j l a = go (has_next j l) refl
  where
    or_false : (b : Bool) → b ≡ (b || false)
    or_false true = refl
    or_false false = refl

    go : (b : Bool) → has_next j l ≡ b
        → other_next (moves_before (j + 1) l) a
        ≡ (other_next (moves_before j l) a || (b && (same_list (state_at j l) a.state && not (same_list (state_at (suc j) l) a.next))))
    go true h = ap (λ (s : List Move). other_next s a) (before_next j l h) ∙ some_more _ (moves_before j l) (move_at j l)
    go false h = ap (λ (s : List Move). other_next s a) (before_same j l h) ∙ or_false (other_next (moves_before j l) a)

-- what was met stays met
other_stays : (k j : ℕ) (l : List Timed) (a : Move) → other_next (moves_before j l) a ≡ true → other_next (moves_before (k + j) l) a ≡ true
other_stays zero j l a e = let z : 0 + j ≡ j = omega arith in rw z e
other_stays (suc k) j l a e =
    let z : suc k + j ≡ k + j + 1 = omega arith in
    rw z (other_more (k + j) l a ∙ ap (λ (b : Bool). b || differs (k + j) l a) (other_stays k j l a e))

-- The search along the records before record i, which has a successor.
module _ {m count : ℕ} {l : List Timed} {records numbers : List ℕ} (h : HeldIn m l records numbers) (all : length l ≡ count)
    (i j : ℕ) (low : i + 1 < count) (below : j < i) (none : other_next (moves_before j l) (move_at i l) ≡ false)
    {met : Bool} (e : met ≡ other_in i j count records numbers) where
  step : other_next (moves_before (j + 1) l) (move_at i l) ≡ met
  step =
      other_more j l (move_at i l) ∙ ap (λ (b : Bool). b || differs j l (move_at i l)) none ∙ sym (other_is h i j (omega arith) below)
      ∙ ap (λ (k : ℕ). other_in i j k records numbers) all ∙ sym e

  pub other_on : met ≡ false → other_next (moves_before (j + 1) l) (move_at i l) ≡ false
  other_on f = step ∙ f

  pub other_met : met ≡ true → other_next (moves_before i l) (move_at i l) ≡ true
  other_met f =
      let k : i - (j + 1) + (j + 1) ≡ i = omega arith in
      sym (ap (λ (n : ℕ). other_next (moves_before n l) (move_at i l)) k) ∙ other_stays (i - (j + 1)) (j + 1) l (move_at i l) (step ∙ f)

pub no_other_yet : (l : List Timed) (a : Move) → other_next (moves_before 0 l) a ≡ false
unfolding other_next
no_other_yet l a = ap (λ (s : List Move). other_next s a) (before_none l)
