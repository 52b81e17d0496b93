-- Running a time course forward (request M-111), over records that have been read: no bytes and no text here.
use Rattle.std.specs.Prelude.{Bool, true, not, cond, Option, Some, None, unwrap_or, ◌&&◌, ◌||◌, List, [], ◌∷◌, ◌++◌, map, ℕ, zero, suc, ◌%◌, ◌-◌, length, get_or, eqb, ltb}
use Rattle.residue.specs.Lists.{some, same_list}
use Rattle.residue.specs.Layout.{fill, in_places, over}
use Rattle.specification.specs.declared.settings.Settings.{Settings}
use Rattle.courses.specs.declared.returns.Return.{Return}
use Rattle.specification.specs.Refusal.{first_of}
use Rattle.specification.specs.Levels.{is_among}
use Rattle.specification.specs.Counted.{Counted, points_of, counts_of, gathered, place_in}
use Rattle.specification.specs.Polynomial.{eval, terms}
use Rattle.specification.specs.BasisOf.{interpolant_of}
use Rattle.specification.specs.Instance.{point_of}
use Rattle.specification.specs.Tables.{Tables, space_under, points_under, standard_under}
use Rattle.specification.specs.Adding.{Outcome, holding}

-- A record: a state, as residues, and its course number.
abbrev pub Timed : Type 0
Timed = List ℕ × ℕ

-- 'Course numbers .. returning after another count as faults of form': where the next record has another number, this one does not come again
unfoldable pub in_runs : List Timed → Bool
in_runs [] = true
in_runs (a ∷ []) = true
in_runs (a ∷ b ∷ l) = (eqb a.1 b.1 || not (some (λ e. eqb e.1 a.1) (b ∷ l))) && in_runs (b ∷ l)

-- the states of a course, in order
unfoldable pub course_of : ℕ → List Timed → List (List ℕ)
course_of c [] = []
course_of c (a ∷ l) = cond (eqb a.1 c) (a.0 ∷ course_of c l) (course_of c l)

-- A record that has a successor: its number, its state, and the state of the next record, which is of its course ('consecutive records of one number are
-- consecutive times').
pub record Move : Type 0 where
  pub at : ℕ
  pub state : List ℕ
  pub next : List ℕ

abbrev pub move : ℕ → List ℕ → List ℕ → Move
move k P Q = record { at = k; state = P; next = Q }

unfoldable pub moves_from : ℕ → List Timed → List Move
moves_from k [] = []
moves_from k (a ∷ []) = []
moves_from k (a ∷ b ∷ l) = cond (eqb a.1 b.1) (move k a.0 b.0 ∷ moves_from (suc k) (b ∷ l)) (moves_from (suc k) (b ∷ l))

-- the header is record 1
unfoldable pub moves_of : List Timed → List Move
moves_of l = moves_from 2 l

-- 'Each state with a successor in its course becomes a point, in order of its first record that has a successor'; 'A point's count is the number of its records
-- with a successor'.
abbrev pub states_of : List Move → List (List ℕ)
states_of ms = map (λ a. a.state) ms

unfoldable pub points_of_moves : List Move → Counted
points_of_moves ms = gathered (states_of ms)

-- Refusals, each looked for over the whole text: the record, which 'is the point's own', of the first move that has a fault by those before it, or 0.
unfoldable pub first_move : (List Move → Move → Bool) → List Move → List Move → ℕ
first_move f seen [] = 0
first_move f seen (a ∷ l) = cond (f seen a) a.at (first_move f (seen ++ (a ∷ [])) l)

-- 'a state seen with two different successors, at the earliest record where it stands with another one'
unfoldable pub other_next : List Move → Move → Bool
other_next seen a = some (λ b. same_list b.state a.state && not (same_list b.next a.next)) seen

unfoldable pub many_points : List Move → Move → Bool
many_points seen a = ltb 64 (length (points_of_moves (seen ++ (a ∷ []))))

unfoldable pub often_counted : List Move → Move → Bool
often_counted seen a = some (ltb 255) (counts_of (points_of_moves (seen ++ (a ∷ []))))

-- a case with its number and record: 17, 8, 13, and 18 of a course that no record names, with record 0
abbrev pub move_case : ℕ → ℕ → Bool × (ℕ × ℕ)
move_case number at = (not (eqb at 0), (number, at))

unfoldable pub moves_cases : List Move → List (Bool × (ℕ × ℕ))
moves_cases ms =
    move_case 17 (first_move other_next [] ms) ∷ move_case 8 (first_move many_points [] ms) ∷ move_case 13 (first_move often_counted [] ms) ∷ []

unfoldable pub course_cases : ℕ → List Timed → List (Bool × (ℕ × ℕ))
course_cases c l = moves_cases (moves_of l) ++ ((not (some (λ a. eqb a.1 c) l), (18, 0)) ∷ [])

unfoldable pub course_refusal : ℕ → List Timed → ℕ × ℕ
course_refusal c l = first_of (0, 0) (course_cases c l)

-- The state that follows one; without 17 there is one only.
unfoldable pub successor_of : List ℕ → List Move → List ℕ
successor_of P [] = []
successor_of P (a ∷ l) = cond (same_list P a.state) a.next (successor_of P l)

-- 'each gene gets the interpolant of its successors': of variable k+1, and of the first k variables
unfoldable pub gene_of : Settings → List Move → ℕ → List ℕ
gene_of s ms k = let S = points_of (points_of_moves ms) in interpolant_of (space_under s) (points_under s S) (map (λ P. get_or (successor_of P ms) k 0) S)

unfoldable pub genes_of : Settings → List Move → ℕ → List (List ℕ)
genes_of s ms zero = []
genes_of s ms (suc k) = genes_of s ms k ++ (gene_of s ms k ∷ [])

-- the value at P of a combination of the standard monomials of S
unfoldable pub value_of : Settings → List (List ℕ) → List ℕ → List ℕ → ℕ
value_of s S cs P = eval (space_under s) (terms (space_under s) cs (standard_under s S)) (point_of (s.modulus - 1) s.variables P) % s.modulus

-- The model: gene after gene the value of its interpolant.
unfoldable pub step : Settings → List Move → List ℕ → List ℕ
step s ms P = map (λ cs. value_of s (points_of (points_of_moves ms)) cs P) (genes_of s ms s.variables)

-- applied k times
unfoldable pub times : ℕ → (List ℕ → List ℕ) → List ℕ → List ℕ
times zero f P = P
times (suc k) f P = f (times k f P)

-- 'that step with the distance back to the earlier visit'
abbrev pub return_at : ℕ → ℕ → Return
return_at k d = record { step = k; back = d }

-- 'or that none came', which the two numbers say as 0 and 0
abbrev pub told_return : Option Return → Return
told_return o = unwrap_or o (return_at 0 0)

-- The run: `left` steps are left, k are made, the state is P, and `earlier` are those met before it, the latest first. It
-- 'stops at the first that gives a state met before'.
unfoldable pub run_from : (List ℕ → List ℕ) → ℕ → ℕ → List ℕ → List (List ℕ) → Option Return
run_from f zero k P earlier = None
run_from f (suc left) k P earlier =
    cond (is_among (f P) (P ∷ earlier)) (Some (return_at (suc k) (suc (place_in (f P) (P ∷ earlier))))) (run_from f left (suc k) (f P) (P ∷ earlier))

-- 'From the first state of the course the caller names, the model is run up to 256 steps'
unfoldable pub return_of : (List ℕ → List ℕ) → List ℕ → Option Return
return_of f P = run_from f 256 0 P []

unfoldable pub course_return : Settings → ℕ → List Timed → Option Return
course_return s c l = return_of (step s (moves_of l)) (get_or (course_of c l) 0 [])

-- what an accepted call leaves: the points' sheet in the lent tables, and 'the interpolants (512 bytes, gene g's from byte 64 times (g-1), the rest 0)'
unfoldable pub course_sheet : Settings → List Timed → Tables → Outcome
course_sheet s l u = holding s (points_of_moves (moves_of l)) u

unfoldable pub course_model : Settings → List Timed → List ℕ → List ℕ
course_model s l buffer = over (fill 512 (in_places 64 (genes_of s (moves_of l) s.variables))) buffer
