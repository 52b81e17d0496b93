-- What records decide: by their moves, and whether the course is among them.
use mathlib.Core.Path.{◌≡◌, refl}
use mathlib.Core.Bool.{true, false}
use mathlib.Core.List.{List, []}
use Prim.Native.Nat.{ℕ, ◌<◌}
use native.Mathlib.Omega.{arith}
use lib.ListN.{length, get_or}
use lib.Dec.{eqb}
use borrow.Author.Tests.{eq-eqb, ne_eqb}
use Rattle.residue.specs.Lists.{some}
use Rattle.residue.specs.Layout.{fill, row_at}
use Rattle.courses.specs.TimeCourse.{Timed, course_of}
use Rattle.courses.specs.Moves.{MovesGathered}
use Rattle.courses.specs.Moves.{Gathered}
use Rattle.courses.proofs.moves.MovesAnswers.{course_told}
use Rattle.forward.specs.Running.{DecidedAs}

module _ (c : ℕ) {l : List Timed} {records points counts firsts : List ℕ} (g : Gathered) (h : MovesGathered l records g points counts firsts) where
  -- the moves are refused
  pub moves_refuse : (g.refusal ≡ 0 → ⊥) → DecidedAs c l records (record { refusal = g.refusal; at = g.at; n = 0; first = 0 }) points counts firsts
  moves_refuse n = record {
    answer = rw (course_told c l g.refusal g.at h.answer, ne_eqb g.refusal 0 n) refl;
    tabled = λ z. absurd (n z);
    kept = λ z. absurd (n z);
    inside = λ z. absurd (n z);
    first = λ z. absurd (n z);
  }

  -- the course is there
  pub course_there : g.refusal ≡ 0 → some (λ a. eqb a.1 c) l ≡ true → (at : ℕ) → at < length l → row_at 8 at records ≡ fill 8 (get_or (course_of c l) 0 [])
      → DecidedAs c l records (record { refusal = 0; at = 0; n = g.n; first = at }) points counts firsts
  course_there z named at low row = record {
    answer = rw (course_told c l g.refusal g.at h.answer, eq-eqb g.refusal 0 z, named) refl;
    tabled = λ y. h.tabled z;
    kept = λ y. h.kept z;
    inside = λ y. low;
    first = λ y. row;
  }

  -- it is not
  pub course_away : g.refusal ≡ 0 → some (λ a. eqb a.1 c) l ≡ false → DecidedAs c l records (record { refusal = 18; at = 0; n = 0; first = 0 }) points counts firsts
  course_away z named = record {
    answer = rw (course_told c l g.refusal g.at h.answer, eq-eqb g.refusal 0 z, named) refl;
    tabled = λ y. absurd (never y);
    kept = λ y. absurd (never y);
    inside = λ y. absurd (never y);
    first = λ y. absurd (never y);
  }
    where
      never : ◌≡◌ {A = ℕ} 18 0 → ⊥
      never y = omega (arith, y)
