-- One record after the other of two tables: a record without a successor, one whose state is the 65th point, one with another successor, and any other.
use mathlib.Core.Path.{◌≡◌, refl, sym, ap, ◌∙◌, subst}
use mathlib.Core.Bool.{Bool, true, false, cond, ◌&&◌, ◌||◌}
use mathlib.Core.List.{List, []}
use Prim.Native.Nat.{ℕ, suc, ◌+◌, ◌*◌, ◌-◌, ◌<◌, ◌≤◌}
use native.Mathlib.Omega.{arith}
use lib.ListN.{length, get_or, set, take, drop, replicate}
use lib.Dec.{eqb}
use borrow.Author.Tests.{not-false}
use Rattle.residue.specs.Lists.{same_list}
use Rattle.residue.specs.Layout.{fill, row_at}
use Rattle.points.specs.Gathering.{EnteredAs}
use Rattle.courses.specs.TimeCourse.{Timed, Move, moves_of, first_move, other_next, many_points}
use Rattle.courses.specs.Records.{HeldIn}
use Rattle.courses.specs.Moves.{state_at, has_next, move_at, moves_before, next_in, Gathered, many_answer, MovesGathered}
use Rattle.courses.proofs.moves.MovesBefore.{before_next, before_same, before_none, before_all, before_at}
use Rattle.courses.proofs.moves.FirstMoves.{never_many}
use Rattle.courses.proofs.moves.HeldRecords.{row_is, state_long, next_known, next_below}
use Rattle.courses.proofs.moves.OtherRecords.{fault_here}
use Rattle.courses.proofs.moves.MovesGathered.{Gathering, no_moves, at_most, many_here, kept_there, told, turn}
use Rattle.courses.proofs.moves.MovesAnswers.{other_refused, many_refused, often_refused, all_gathered}

module _ {m count : ℕ} {l : List Timed} {records numbers : List ℕ} (held : HeldIn m l records numbers) (many : length l ≡ count) where
  -- the moves of the first i records are gathered
  abbrev pub Upto : ℕ → ℕ → ℕ → List ℕ → List ℕ → List ℕ → List ℕ → Type 0
  Upto i n often points counts firsts hints = Gathering m (moves_before i l) (length l) records n often points counts firsts hints

  pub none_yet : {points counts firsts : List ℕ} → points ≡ replicate 512 0 → counts ≡ replicate 64 0 → length firsts ≡ 64
      → Upto 0 0 0 points counts firsts (replicate 233 0)
  none_yet {points} {counts} {firsts} a b c =
      subst (λ (ms : List Move). Gathering m ms (length l) records 0 0 points counts firsts (replicate 233 0)) (sym (before_none l))
      (no_moves m (length l) records a b c)

  module _ (i : ℕ) {n often : ℕ} {points counts firsts hints : List ℕ} (g : Upto i n often points counts firsts hints) where
    -- all records
    module _ (end : count ≤ i) where
      all : Gathering m (moves_of l) (length l) records n often points counts firsts hints
      all = subst (λ (ms : List Move). Gathering m ms (length l) records n often points counts firsts hints) (before_all i l (omega (arith, many, end))) g

      pub ends_often : (often ≡ 0 → ⊥) → MovesGathered l records (record { refusal = 13; at = often; n = 0 }) points counts firsts
      ends_often z = often_refused l all _ z refl

      pub ends_well : often ≡ 0 → MovesGathered l records (record { refusal = 0; at = 0; n = n }) points counts firsts
      ends_well z = all_gathered l all _ z refl

    module _ {has : Bool} (q : has ≡ next_in i count numbers) where
      pub turn_alone : has ≡ false → Upto (i + 1) n often points counts firsts hints
      turn_alone f = rw (before_same i l (next_known held many i q ∙ f)) g

      -- Record i has a successor.
      module _ (t : has ≡ true) where
        next : has_next i l ≡ true
        next = next_known held many i q ∙ t

        low : suc i < length l
        low = next_below i l next

        abbrev state : List ℕ
        state = take (8 * i + 8 - 8 * i) (drop (8 * i) records)

        state_is : state ≡ fill 8 (state_at i l)
        state_is = let width : 8 * i + 8 - 8 * i ≡ 8 = omega arith in ap (λ (k : ℕ). take k (drop (8 * i) records)) width ∙ row_is held i (omega (arith, low))

        own : length (state_at i l) ≡ m
        own = state_long held i (omega (arith, low))

        module _ {at : ℕ} {hit : Bool} {table bytes noted : List ℕ} (e : EnteredAs n state points counts hints at hit table bytes noted) where
          entering : EnteredAs n (fill 8 (state_at i l)) points counts hints at hit table bytes noted
          entering = subst (λ (x : List ℕ). EnteredAs n x points counts hints at hit table bytes noted) state_is e

          pub turn_place : at ≤ n
          turn_place = at_most held.fits (before_at i l) g (move_at i l) own entering

          pub turn_kept : at < n → suc (get_or firsts at 0) < count
          turn_kept h = omega (arith, kept_there held.fits (before_at i l) g (move_at i l) own entering h, many)

          -- its state is the 65th point
          pub turn_full : at ≡ 64 → {a : Gathered} → a ≡ many_answer (first_move other_next [] (moves_of l)) i
              → (points₂ counts₂ firsts₂ : List ℕ) → MovesGathered l records a points₂ counts₂ firsts₂
          turn_full z {a} f points₂ counts₂ firsts₂ =
              let none = never_many [] (moves_before i l) (omega (arith, g.holds.count, g.holds.few)) in
              many_refused l records a points₂ counts₂ firsts₂ i
              (fault_here many_points i l none next (many_here held.fits (before_at i l) g (move_at i l) own entering z)) f

          module _ {same : Bool} (fs : same ≡ (eqb at n || same_list (row_at 8 (suc (get_or firsts at 0)) records) (row_at 8 (suc i) records))) where
            -- it has another successor
            pub turn_other : same ≡ false → {a : Gathered} → a ≡ record { refusal = 17; at = i + 2; n = 0 }
                → (points₂ counts₂ firsts₂ : List ℕ) → MovesGathered l records a points₂ counts₂ firsts₂
            turn_other z {a} f points₂ counts₂ firsts₂ =
                let met = not-false (other_next (moves_before i l) (move_at i l))
                (sym (told held.fits (before_at i l) g (move_at i l) own entering i (row_is held (suc i) low) (state_long held (suc i) low) fs) ∙ z) in
                other_refused l records a points₂ counts₂ firsts₂ i (fault_here other_next i l g.same next met) f

            pub turn_on : (at ≡ 64 → ⊥) → same ≡ true → {n₂ often₂ : ℕ} {firsts₂ : List ℕ} → n₂ ≡ cond (eqb at n) (suc n) n
                → firsts₂ ≡ cond (eqb at n) (set firsts at i) firsts → often₂ ≡ cond (eqb often 0 && hit) (i + 2) often
                → Upto (i + 1) n₂ often₂ table bytes firsts₂ noted
            turn_on room z fn fv fo =
                rw (before_next i l next)
                (turn held.fits (before_at i l) g (move_at i l) own entering i (row_is held (suc i) low)
                (state_long held (suc i) low) fs room low refl z fn fv fo)
