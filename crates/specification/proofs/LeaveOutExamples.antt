-- The definitions computed: (0,1) twice, (1,1) three times and (2,3) modulo 5 under lex. The rows are y² + y + 3 and two with x; without x1 the points are 1,
-- five times, and 3.
use mathlib.Core.Path.{◌≡◌, refl}
use mathlib.Core.List.{[], ◌∷◌, map}
use Prim.Native.Nat.{ℕ}
use Rattle.residue.specs.Modulus.{primes, is_one_of, is_modulus}
use Rattle.residue.specs.Lists.{same_list}
use Rattle.residue.specs.Layout.{fill}
use Rattle.residue.specs.Inverse.{inverse_below, inverse_of}
use Rattle.monomial.specs.Order.{order_of, cmp}
use Rattle.monomial.specs.Insert.{removed_at}
use Rattle.specification.specs.declared.settings.Settings.{Settings}
use Rattle.specification.specs.Refusal.{first_of}
use Rattle.specification.specs.Settings.{settings_of, weighs_first, right_weights, settings_cases}
use Rattle.specification.specs.Counted.{Counted, points_of, entered, entered_all, gathered}
use Rattle.specification.specs.Extension.{slot, minus, without, divided, extended, gap, first, newton, grow}
use Rattle.specification.specs.BasisOf.{basis_of}
use Rattle.specification.specs.Instance.{monomial_of, point_of}
use Rattle.specification.specs.Tables.{Tables, five_tables, standard_under, leads_under, rows_under, too_short, short_lengths}
use Rattle.specification.specs.Needed.{occurs}
use Rattle.specification.specs.LeaveOut.{repeated, without_variable, is_free, free_row, in_row, free_rows, can_leave_out, leave_out_cases, leave_out_refusal}

abbrev lex_five : ℕ → Settings
lex_five m = settings_of 5 m 0

abbrev L : Counted
L = ((0 ∷ 1 ∷ []), 2) ∷ ((1 ∷ 1 ∷ []), 3) ∷ ((2 ∷ 3 ∷ []), 1) ∷ []

one_fewer : without_variable 0 L ≡ ((1 ∷ []), 5) ∷ ((3 ∷ []), 1) ∷ []
unfolding without_variable gathered entered_all entered repeated removed_at same_list
one_fewer = refl

second_out : without_variable 1 L ≡ ((0 ∷ []), 2) ∷ ((1 ∷ []), 3) ∷ ((2 ∷ []), 1) ∷ []
unfolding without_variable gathered entered_all entered repeated removed_at same_list
second_out = refl

leads_old : map (λ a. a.0) (leads_under (lex_five 2) (points_of L)) ≡ (0 ∷ 2 ∷ []) ∷ (1 ∷ 1 ∷ []) ∷ (2 ∷ 0 ∷ []) ∷ []
unfolding primes is_one_of is_modulus inverse_below inverse_of order_of cmp fill same_list slot minus without divided extended gap first newton grow basis_of monomial_of point_of
leads_old = refl

row_left : free_rows (map (λ a. a.0) (standard_under (lex_five 2) (points_of L))) (map (λ a. a.0) (leads_under (lex_five 2) (points_of L))) (rows_under (lex_five 2) (points_of L)) ≡ (3 ∷ 1 ∷ []) ∷ []
unfolding free_rows free_row in_row is_free occurs primes is_one_of is_modulus inverse_below inverse_of order_of cmp fill same_list slot minus without divided extended gap first newton grow basis_of monomial_of point_of
row_left = refl

row_new : rows_under (lex_five 1) ((1 ∷ []) ∷ (3 ∷ []) ∷ []) ≡ (3 ∷ 1 ∷ []) ∷ []
unfolding primes is_one_of is_modulus inverse_below inverse_of order_of cmp fill same_list slot minus without divided extended gap first newton grow basis_of monomial_of point_of
row_new = refl

-- Refusal 16: variable 0, one above m, any where m is 1; after 4, before 6.
abbrev none : Tables
none = five_tables [] [] [] [] []

sixteen : (leave_out_refusal (lex_five 2) 0 1 none 0 none ≡ 16) × (leave_out_refusal (lex_five 2) 0 1 none 3 none ≡ 16) × (leave_out_refusal (lex_five 1) 0 1 none 1 none ≡ 16)
    × (leave_out_refusal (lex_five 9) 0 1 none 0 none ≡ 4) × (leave_out_refusal (lex_five 2) 0 1 none 2 none ≡ 6)
unfolding leave_out_refusal leave_out_cases can_leave_out weighs_first right_weights settings_cases first_of primes is_one_of is_modulus too_short short_lengths
sixteen = (refl, refl, refl, refl, refl)
