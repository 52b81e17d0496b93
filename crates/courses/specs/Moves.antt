-- Moves as the code finds them among records in two tables. No public promise names these: they serve the contracts of the functions that gather moves.
use Rattle.std.specs.Prelude.{◌≡◌, Bool, cond, ◌&&◌, not, List, [], ◌∷◌, Option, Some, None, ℕ, zero, suc, ◌+◌, ◌<◌, length, get_or, take, eqb, ltb, Result, Ok, Err}
use Rattle.residue.specs.Lists.{same_list}
use Rattle.residue.specs.Layout.{fill, row_at}
use Rattle.specification.specs.Refusal.{first_of}
use Rattle.specification.specs.declared.refusals.Fault.{Fault}
use Rattle.specification.specs.Answers.{number_of}
use Rattle.specification.specs.Counted.{points_of}
use Rattle.points.specs.Gathering.{TabledAs}
use Rattle.courses.specs.TimeCourse.{Timed, Move, move, moves_of, points_of_moves, moves_cases, successor_of}

-- record i, from 0: its state, its course, and whether it has a successor
abbrev pub state_at : ℕ → List Timed → List ℕ
state_at i l = (get_or l i ([], 0)).0

abbrev pub course_at : ℕ → List Timed → ℕ
course_at i l = (get_or l i ([], 0)).1

unfoldable pub has_next : ℕ → List Timed → Bool
has_next i l = ltb (suc i) (length l) && eqb (course_at i l) (course_at (suc i) l)

-- its move, where it has one; the header is record 1
abbrev pub move_at : ℕ → List Timed → Move
move_at i l = move (i + 2) (state_at i l) (state_at (suc i) l)

-- the moves of the records before it
unfoldable pub moves_before : ℕ → List Timed → List Move
moves_before i l = moves_of (take (suc i) l)

-- the same by the table of course numbers
unfoldable pub next_in : ℕ → ℕ → List ℕ → Bool
next_in i count numbers = ltb (suc i) count && eqb (get_or numbers i 0) (get_or numbers (suc i) 0)

-- two records stand for a state with two successors
unfoldable pub other_in : ℕ → ℕ → ℕ → List ℕ → List ℕ → Bool
other_in i j count records numbers =
    next_in j count numbers && (same_list (row_at 8 j records) (row_at 8 i records) && not (same_list (row_at 8 (suc j) records) (row_at 8 (suc i) records)))

-- For each point a record whose successor is the point's: a number at the point's place, which is one less than the successor's.
pub record FirstsOf (ms : List Move) (count : ℕ) (records firsts : List ℕ) : Type 0 where
  pub behind : (j : ℕ) → j < length (points_of_moves ms) → suc (get_or firsts j 0) < count
  pub next : (j : ℕ) → j < length (points_of_moves ms)
      → row_at 8 (suc (get_or firsts j 0)) records ≡ fill 8 (successor_of (get_or (points_of (points_of_moves ms)) j []) ms)

-- The refusal with the record at fault and no points, or 0 with the number of distinct points.
pub record Gathered : Type 0 where
  pub refusal : ℕ
  pub at : ℕ
  pub n : ℕ

unfoldable pub gathered_of : Result ℕ Fault → Gathered
gathered_of (Ok n) = record { refusal = 0; at = 0; n = n }
gathered_of (Err f) = record { refusal = number_of f.refusal; at = f.at; n = 0 }

-- What gathering answers and leaves: 17, 8, 13 or 0 with its record, and where it is 0 the points with their counts and a record for each.
pub record MovesGathered (l : List Timed) (records : List ℕ) (g : Gathered) (points counts firsts : List ℕ) : Type 0 where
  pub answer : (g.refusal, g.at) ≡ first_of (0, 0) (moves_cases (moves_of l))
  pub tabled : g.refusal ≡ 0 → TabledAs (points_of_moves (moves_of l)) g.n points counts
  pub kept : g.refusal ≡ 0 → FirstsOf (moves_of l) (length l) records firsts

-- the number of a record, which is 1 or more: 0 stands for none
abbrev pub some_record : ℕ → Option ℕ
some_record zero = None
some_record (suc k) = Some (suc k)

-- 8 at record i of the list, unless 17 is due at a record; 0 where it is not
unfoldable pub many_answer : ℕ → ℕ → Gathered
many_answer other i = cond (eqb other 0) (record { refusal = 8; at = i + 2; n = 0 }) (record { refusal = 17; at = other; n = 0 })

-- where a course number first stands among numbers, their count where it does not
unfoldable pub place_of_course : ℕ → List ℕ → ℕ
place_of_course c [] = 0
place_of_course c (k ∷ l) = cond (eqb k c) 0 (suc (place_of_course c l))
