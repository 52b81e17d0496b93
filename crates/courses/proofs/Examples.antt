-- M-111 computed: small courses modulo 5 in one variable, under lex.
use mathlib.Core.Path.{◌≡◌, refl}
use mathlib.Core.List.{List, [], ◌∷◌}
use mathlib.Core.Bool.{true, false}
use Prim.Native.Nat.{ℕ, zero, suc}
use Rattle.residue.specs.Modulus.{primes, is_one_of, is_modulus}
use Rattle.residue.specs.Lists.{same_list}
use Rattle.residue.specs.Layout.{fill}
use Rattle.residue.specs.Inverse.{inverse_below, inverse_of}
use Rattle.monomial.specs.Order.{order_of, cmp}
use Rattle.specification.specs.declared.settings.Settings.{Settings}
use Rattle.specification.specs.Settings.{no_weights}
use Rattle.specification.specs.Refusal.{first_of}
use Rattle.specification.specs.Levels.{is_among}
use Rattle.specification.specs.Counted.{place_in, entered, entered_all, gathered}
use Rattle.specification.specs.Extension.{slot, minus, without, divided, extended, gap, first, newton, grow}
use Rattle.specification.specs.BasisOf.{basis_of, value_at}
use Rattle.specification.specs.Instance.{monomial_of, point_of}
use Rattle.std.specs.Prelude.{Some}
use Rattle.courses.specs.TimeCourse.{Timed, in_runs, course_of, moves_from, moves_of, points_of_moves, first_move, other_next, many_points, often_counted}
use Rattle.courses.specs.TimeCourse.{moves_cases, course_cases, course_refusal, successor_of, gene_of, genes_of, value_of, step, times, return_at, run_from}
use Rattle.courses.specs.TimeCourse.{return_of, course_return}

abbrev lex_five : Settings
lex_five = record { modulus = 5; variables = 1; order = 0; weights = no_weights }

abbrev at : ℕ → ℕ → Timed
at x c = ((x ∷ []), c)

-- course 7 is 3 0 1 0, course 8 is 4 3, course 9 one record
abbrev l : List Timed
l = at 3 7 ∷ at 0 7 ∷ at 1 7 ∷ at 0 7 ∷ at 4 8 ∷ at 3 8 ∷ at 3 9 ∷ []

-- the points are 3 0 1 4: the last records of courses 7 and 8, and course 9, add none
points : points_of_moves (moves_of l) ≡ ((3 ∷ []), 1) ∷ ((0 ∷ []), 1) ∷ ((1 ∷ []), 1) ∷ ((4 ∷ []), 1) ∷ []
unfolding points_of_moves gathered entered_all entered moves_of moves_from same_list
points = refl

-- from 3 the run is 3 0 1 0: step 3, 2 back; from 4 it is 4 3 0 1 0: step 4, 2 back
runs_back : (course_return lex_five 7 l ≡ Some (return_at 3 2)) × (course_return lex_five 8 l ≡ Some (return_at 4 2))
unfolding course_return course_of moves_of moves_from points_of_moves gathered entered_all entered successor_of gene_of genes_of value_of step times run_from return_of
    is_among place_in primes is_one_of is_modulus inverse_below inverse_of order_of cmp fill same_list slot minus without divided extended gap first newton grow basis_of
    value_at monomial_of point_of
runs_back = (refl, refl)

-- no points: every interpolant is 0, so from 3 the run is 3 0 0, and from 0 it is 0 0
no_points : (course_return lex_five 1 (at 3 1 ∷ []) ≡ Some (return_at 2 1)) × (course_return lex_five 1 (at 0 1 ∷ []) ≡ Some (return_at 1 1))
unfolding course_return course_of moves_of moves_from points_of_moves gathered entered_all successor_of gene_of genes_of value_of step times run_from return_of is_among
    place_in primes is_one_of is_modulus inverse_below inverse_of order_of cmp fill same_list basis_of value_at monomial_of point_of
no_points = (refl, refl)

-- a number that returns, at the third record behind the header; 17 at the second record of state 1 that has a successor, which is record 5 of the text; 18 of
-- a course that is not there
returning : (in_runs (at 0 7 ∷ at 0 8 ∷ at 0 7 ∷ []) ≡ false) × (in_runs (at 0 8 ∷ at 0 8 ∷ at 0 7 ∷ []) ≡ true)
unfolding in_runs
returning = (refl, refl)

refusals : (course_refusal 7 (at 0 7 ∷ at 1 7 ∷ at 2 7 ∷ at 1 8 ∷ at 3 8 ∷ at 1 9 ∷ at 1 9 ∷ []) ≡ (17, 5)) × (course_refusal 6 l ≡ (18, 0))
    × (course_refusal 9 l ≡ (0, 0))
unfolding course_refusal course_cases moves_cases moves_of moves_from first_move other_next many_points often_counted points_of_moves gathered entered_all entered first_of
    same_list
refusals = (refl, refl, refl)

-- 66 different states of one course: the 65th with a successor is one too many, at its own record; of 65 states the last is no point
abbrev one_after_another : ℕ → List Timed
one_after_another zero = []
one_after_another (suc k) = at k 7 ∷ one_after_another k

too_many_lem : (course_refusal 7 (one_after_another 66) ≡ (8, 66)) × (course_refusal 7 (one_after_another 65) ≡ (0, 0))
unfolding course_refusal course_cases moves_cases moves_of moves_from first_move other_next many_points often_counted points_of_moves gathered entered_all entered first_of
    same_list
too_many_lem = (refl, refl)

-- 257 records of one state: the 256th that has a successor is one too many
abbrev again_and_again : ℕ → List Timed
again_and_again zero = []
again_and_again (suc k) = at 3 7 ∷ again_and_again k

too_often : (course_refusal 7 (again_and_again 257) ≡ (13, 257)) × (course_refusal 7 (again_and_again 256) ≡ (0, 0))
unfolding course_refusal course_cases moves_cases moves_of moves_from first_move other_next many_points often_counted points_of_moves gathered entered_all entered first_of
    same_list
too_often = (refl, refl)
