-- The answer of gathering: which of 17, 8 and 13 comes first.
use mathlib.Core.Path.{◌≡◌, refl, sym, ap, ◌∙◌, subst}
use mathlib.Core.Bool.{Bool, true, false, not, cond}
use mathlib.Core.List.{List, [], ◌∷◌}
use Prim.Native.Nat.{ℕ, zero, suc, ◌+◌}
use native.Mathlib.Decide.{ℕ_discrete}
use native.Mathlib.Omega.{arith}
use lib.ListN.{length}
use lib.Dec.{eqb}
use borrow.Author.Tests.{eq-eqb, ne_eqb}
use Rattle.residue.specs.Lists.{some}
use Rattle.specification.specs.Refusal.{first_of}
use Rattle.specification.proofs.counted.Saturated.{beyond}
use Rattle.points.proofs.gathering.Gathering.{Holds, held_as}
use Rattle.courses.specs.TimeCourse.{Timed, Move, moves_of, points_of_moves, first_move, other_next, many_points, often_counted, move_case, moves_cases}
use Rattle.courses.specs.TimeCourse.{course_cases, course_refusal}
use Rattle.std.specs.Prelude.{Some, None}
use Rattle.std.proofs.lemmas.Option.{none-some, same_Some}
use Rattle.courses.specs.Moves.{Gathered, some_record, many_answer, MovesGathered}
use Rattle.courses.proofs.moves.FirstMoves.{never_many}
use Rattle.courses.proofs.moves.MovesGathered.{Gathering}

-- a record's number as an option
pub some_told : (m : ℕ) → (m ≡ 0 → ⊥) → Some m ≡ some_record m
some_told zero z = absurd (z refl)
some_told (suc k) z = refl

pub none_told : (m : ℕ) → m ≡ 0 → None ≡ some_record m
none_told zero z = refl
none_told (suc k) z = absurd (omega arith)

pub record_there : (m at : ℕ) → some_record m ≡ Some at → (at ≡ m) × (m ≡ 0 → ⊥)
record_there zero at e = absurd (none-some at e)
record_there (suc k) at e = (sym (same_Some (suc k) at e), λ z. omega arith)

pub record_away : (m : ℕ) → some_record m ≡ None → m ≡ 0
record_away zero e = refl
record_away (suc k) e = absurd (none-some (suc k) (sym e))

-- 17 where it is due at a record, else 8
pub other_first : (k i : ℕ) → (k ≡ 0 → ⊥) → record { refusal = 17; at = k; n = 0 } ≡ many_answer k i
unfolding many_answer
other_first k i z = rw (ne_eqb k 0 z) refl

pub many_first : (k i : ℕ) → k ≡ 0 → record { refusal = 8; at = i + 2; n = 0 } ≡ many_answer k i
unfolding many_answer
many_first k i z = rw (eq-eqb k 0 z) refl

-- a case that holds, and one that does not
refuses : (number k : ℕ) (rest : List (Bool × (ℕ × ℕ))) → (k ≡ 0 → ⊥) → first_of (0, 0) (move_case number k ∷ rest) ≡ (number, k)
unfolding first_of
refuses number k rest z = rw (ne_eqb k 0 z) refl

passes : (number k : ℕ) (rest : List (Bool × (ℕ × ℕ))) → k ≡ 0 → first_of (0, 0) (move_case number k ∷ rest) ≡ first_of (0, 0) rest
unfolding first_of
passes number k rest z = rw (eq-eqb k 0 z) refl

module _ (l : List Timed) where
  abbrev ms : List Move
  ms = moves_of l

  abbrev other : ℕ
  other = first_move other_next [] ms

  abbrev many : ℕ
  many = first_move many_points [] ms

  abbrev often : ℕ
  often = first_move often_counted [] ms

  refused_17 : (other ≡ 0 → ⊥) → first_of (0, 0) (moves_cases ms) ≡ (17, other)
  unfolding moves_cases
  refused_17 z = refuses 17 other _ z

  refused_8 : other ≡ 0 → (many ≡ 0 → ⊥) → first_of (0, 0) (moves_cases ms) ≡ (8, many)
  unfolding moves_cases
  refused_8 y z = passes 17 other _ y ∙ refuses 8 many _ z

  late : other ≡ 0 → many ≡ 0 → first_of (0, 0) (moves_cases ms) ≡ first_of (0, 0) (move_case 13 often ∷ [])
  unfolding moves_cases
  late y z = passes 17 other _ y ∙ passes 8 many _ z

  -- a refusal: nothing is said of the tables
  refused : (records : List ℕ) (g : Gathered) (points counts firsts : List ℕ) (number k : ℕ) → (number ≡ 0 → ⊥) → g ≡ record { refusal = number; at = k; n = 0 }
      → first_of (0, 0) (moves_cases ms) ≡ (number, k) → MovesGathered l records g points counts firsts
  refused records g points counts firsts number k z e f = record {
    answer = ap (λ (x : Gathered). (x.refusal, x.at)) e ∙ sym f;
    tabled = λ y. absurd (z (sym (ap (λ (x : Gathered). x.refusal) e) ∙ y));
    kept = λ y. absurd (z (sym (ap (λ (x : Gathered). x.refusal) e) ∙ y));
  }

  module _ (records : List ℕ) (g : Gathered) (points counts firsts : List ℕ) (i : ℕ) where
    pub other_refused : other ≡ i + 2 → g ≡ record { refusal = 17; at = i + 2; n = 0 } → MovesGathered l records g points counts firsts
    other_refused e f =
        refused records g points counts firsts 17 (i + 2) (λ z. omega arith) f (refused_17 (λ z. omega (arith, z, e)) ∙ ap (λ (k : ℕ). (17, k)) e)

    pub many_refused : many ≡ i + 2 → g ≡ many_answer other i → MovesGathered l records g points counts firsts
    many_refused e f = go (ℕ_discrete other 0)
      where
        go : Dec (other ≡ 0) → MovesGathered l records g points counts firsts
        go (yes z) =
            refused records g points counts firsts 8 (i + 2) (λ y. omega arith) (f ∙ sym (many_first other i z))
            (refused_8 z (λ y. omega (arith, y, e)) ∙ ap (λ (k : ℕ). (8, k)) e)
        go (no z) = refused records g points counts firsts 17 other (λ y. omega arith) (f ∙ sym (other_first other i z)) (refused_17 z)

  -- All moves are gathered: 13, or none.
  module _ {m n met : ℕ} {records points counts firsts hints : List ℕ} (h : Gathering m ms (length l) records n met points counts firsts hints) where
    none_many : many ≡ 0
    none_many = never_many [] ms (omega (arith, h.holds.count, h.holds.few))

    pub often_refused : (g : Gathered) → (met ≡ 0 → ⊥) → g ≡ record { refusal = 13; at = met; n = 0 } → MovesGathered l records g points counts firsts
    often_refused g z e =
        refused records g points counts firsts 13 met (λ y. omega arith) e
        (late h.same none_many ∙ refuses 13 often [] (λ y. z (h.most ∙ y)) ∙ ap (λ (k : ℕ). (13, k)) (sym h.most))

    pub all_gathered : (g : Gathered) → met ≡ 0 → g ≡ record { refusal = 0; at = 0; n = n } → MovesGathered l records g points counts firsts
    unfolding first_of
    all_gathered g z e = record {
      answer = ap (λ (x : Gathered). (x.refusal, x.at)) e ∙ sym (late h.same none_many ∙ passes 13 often [] (sym h.most ∙ z));
      tabled = λ y.
          let same : n ≡ g.n = sym (ap (λ (x : Gathered). x.n) e) in
          held_as (subst (λ (k : ℕ). Holds m (points_of_moves ms) k points counts (beyond (points_of_moves ms))) same h.holds) refl;
      kept = λ y. h.kept;
    }

-- The refusal of records: that of their moves, and 18 behind it.
pub course_told : (c : ℕ) (l : List Timed) (k at : ℕ) → (k, at) ≡ first_of (0, 0) (moves_cases (moves_of l))
    → course_refusal c l ≡ cond (eqb k 0) (cond (some (λ a. eqb a.1 c) l) (0, 0) (18, 0)) (k, at)
unfolding course_refusal course_cases moves_cases first_of
course_told c l k at =
    go (eqb (first_move other_next [] (moves_of l)) 0) (eqb (first_move many_points [] (moves_of l)) 0) (eqb (first_move often_counted [] (moves_of l)) 0)
    (some (λ a. eqb a.1 c) l) _ _ _
  where
    last : (b : Bool) → cond {A = ℕ × ℕ} (not b) (18, 0) (0, 0) ≡ cond b (0, 0) (18, 0)
    last true = refl
    last false = refl

    go : (x y z b : Bool) (u v w : ℕ) → ◌≡◌ {A = ℕ × ℕ} (k, at) (cond (not x) (17, u) (cond (not y) (8, v) (cond (not z) (13, w) (0, 0))))
        → cond {A = ℕ × ℕ} (not x) (17, u) (cond (not y) (8, v) (cond (not z) (13, w) (cond (not b) (18, 0) (0, 0))))
        ≡ cond (eqb k 0) (cond b (0, 0) (18, 0)) (k, at)
    go false y z b u v w e = rw (ap (λ (q : ℕ × ℕ). q.0) e, ap (λ (q : ℕ × ℕ). q.1) e) refl
    go true false z b u v w e = rw (ap (λ (q : ℕ × ℕ). q.0) e, ap (λ (q : ℕ × ℕ). q.1) e) refl
    go true true false b u v w e = rw (ap (λ (q : ℕ × ℕ). q.0) e, ap (λ (q : ℕ × ℕ). q.1) e) refl
    go true true true b u v w e = rw (ap (λ (q : ℕ × ℕ). q.0) e) (last b)
