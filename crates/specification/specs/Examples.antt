-- The eleven examples marked * in docs/SCOPE.md, 'Examples', as one list, and what each of them says.
use Rattle.std.specs.Prelude.{◌≡◌, List, [], ◌∷◌, ◌++◌, map, ℕ, suc, ◌+◌, ◌-◌, ◌%◌, ◌≤◌, ◌<◌, ℤ, pos, negsuc, length, replicate, T, Some}
use Rattle.residue.specs.Sizes.{states_size, standard_size, leads_size, coefficients_size, counts_size}
use Rattle.residue.specs.Lists.{Among}
use Rattle.residue.specs.Level.{residue_of}
use Rattle.monomial.specs.Order.{order_of, cmp}
use Rattle.monomial.specs.Increasing.{Increasing}
use Rattle.specification.specs.declared.settings.Settings.{Settings}
use Rattle.specification.specs.Refusal.{first_of}
use Rattle.specification.specs.Settings.{settings_of, settings_cases}
use Rattle.specification.specs.Levels.{in_range}
use Rattle.specification.specs.Counted.{Counted, points_of, entered, lowered, gathered}
use Rattle.specification.specs.Polynomial.{Polynomial}
use Rattle.specification.specs.BasisOf.{interpolant_of, remainder_of}
use Rattle.specification.specs.Cancellations.{examined_all}
use Rattle.specification.specs.Adding.{cancellations_under, points_offered}
use Rattle.specification.specs.Tables.{space_under, points_under, standard_under, leads_under, rows_under, five_tables, held_in}
use Rattle.specification.specs.Solving.{polynomial_of}
use Rattle.specification.specs.Needed.{wiring_of}
use Rattle.specification.specs.Reference.{addition, Held, numbers, held_at_end}
use Rattle.specification.specs.Agreement.{freshly}

pub data Example : Type 0 where
  -- the standard monomials, leads and rows of points, under each order of a list
  basis : (p m : ℕ) (orders : List ℕ) (S standard leads rows : List (List ℕ)) → Example
  no_points : Example
  one_point : Example
  -- values in the points' order, the interpolant over the standard monomials, and the wiring list
  interpolant : (s : Settings) (S : List (List ℕ)) (values coefficients names : List ℕ) → Example
  -- coefficients and exponents of a polynomial, and its remainder over the standard monomials
  remainder : (s : Settings) (S : List (List ℕ)) (coefficients : List ℕ) (exponents : List (List ℕ)) (left : List ℕ) → Example
  -- a modulus, a level and its residue
  levels : List (ℕ × ℤ × ℕ) → Example
  -- additions to fresh tables, the numbers they return, and the points with their counts that the tables then hold
  additions : (p m : ℕ) (offered : List (List ℤ)) (numbers : List ℕ) (held : Counted) → Example
  -- a level that is taken and one that is refused with 9
  range : (p : ℕ) (taken outside : ℤ) → Example

pub record LaidOut (s : Settings) (S standard leads rows : List (List ℕ)) : Type 0 where
  pub standard_are : map (λ a. a.0) (standard_under s S) ≡ standard
  pub leads_are : map (λ a. a.0) (leads_under s S) ≡ leads
  pub rows_are : rows_under s S ≡ rows

-- the orders 0 to 2, for examples that leave the order open
abbrev pub any_order : List ℕ
any_order = 0 ∷ 1 ∷ 2 ∷ []

abbrev pub fresh : Held
fresh = freshly
    (five_tables (replicate states_size 0) (replicate standard_size 0) (replicate leads_size 0) (replicate coefficients_size 0) (replicate counts_size 0))

unfoldable pub Holds : Example → Type 0
Holds (basis p m orders S standard leads rows) = (order : ℕ) → Among order orders → LaidOut (settings_of p m order) S standard leads rows
-- under any settings: one row, 1, and every remainder and interpolant has no term
Holds no_points = (s : Settings) → LaidOut s [] [] (replicate s.variables 0 ∷ []) ([] ∷ [])
    × ((values : List ℕ) → interpolant_of (space_under s) [] values ≡ []) × ((f : Polynomial (space_under s)) → remainder_of (space_under s) [] f ≡ [])
-- p = 5, orders 0 to 2: rows y - b, then x - a
Holds one_point = (order a b : ℕ) → Among order any_order → a < 5 → b < 5
    → LaidOut (settings_of 5 2 order) ((a ∷ b ∷ []) ∷ []) ((0 ∷ 0 ∷ []) ∷ []) ((0 ∷ 1 ∷ []) ∷ (1 ∷ 0 ∷ []) ∷ []) (((5 - b) % 5 ∷ []) ∷ ((5 - a) % 5 ∷ []) ∷ [])
Holds (interpolant s S values coefficients names) =
    (interpolant_of (space_under s) (points_under s S) values ≡ coefficients) × (wiring_of s.variables S values ≡ names)
Holds (remainder s S coefficients exponents left) = remainder_of (space_under s) (points_under s S) (polynomial_of s.variables coefficients exponents) ≡ left
Holds (levels l) = (e : ℕ × ℤ × ℕ) → Among e l → residue_of e.0 e.1 ≡ Some e.2
Holds (additions p m offered due held) = (order : ℕ) → Among order any_order → let end = held_at_end (settings_of p m order) fresh (map addition offered) in
    (numbers (settings_of p m order) fresh (map addition offered) ≡ due) × (held_in (settings_of p m order) end.n end.tables ≡ held)
-- under every m and order, in any place of m levels of which the others are in range
Holds (range p taken outside) = (m order : ℕ) (before behind : List ℤ) → m ≤ 8 → Among order any_order
    → length before + suc (length behind) ≡ m → T (in_range p before) → T (in_range p behind)
    → numbers (settings_of p m order) fresh (addition (before ++ (taken ∷ behind)) ∷ addition (before ++ (outside ∷ behind)) ∷ []) ≡ 0 ∷ 9 ∷ []

-- the points A: (0,0), (1,2), (2,1)
abbrev pub A : List (List ℕ)
A = (0 ∷ 0 ∷ []) ∷ (1 ∷ 2 ∷ []) ∷ (2 ∷ 1 ∷ []) ∷ []

unfoldable pub examples : List Example
examples =
    -- A, p=5, grlex: standard 1, y, x; rows y²+y+4x, xy+y+x, x²+4y+x
    basis 5 2 (1 ∷ []) A ((0 ∷ 0 ∷ []) ∷ (0 ∷ 1 ∷ []) ∷ (1 ∷ 0 ∷ []) ∷ []) ((0 ∷ 2 ∷ []) ∷ (1 ∷ 1 ∷ []) ∷ (2 ∷ 0 ∷ []) ∷ [])
    ((0 ∷ 1 ∷ 4 ∷ []) ∷ (0 ∷ 1 ∷ 1 ∷ []) ∷ (0 ∷ 4 ∷ 1 ∷ []) ∷ [])
    -- A, p=5, lex: standard 1, y, y²; rows y³+2y²+2y, x+4y²+4y
    ∷ basis 5 2 (0 ∷ []) A ((0 ∷ 0 ∷ []) ∷ (0 ∷ 1 ∷ []) ∷ (0 ∷ 2 ∷ []) ∷ []) ((0 ∷ 3 ∷ []) ∷ (1 ∷ 0 ∷ []) ∷ []) ((0 ∷ 2 ∷ 2 ∷ []) ∷ (0 ∷ 4 ∷ 4 ∷ []) ∷ [])
    -- A, p=3, grlex: standard 1, y, y²; rows x+y, y³+2y
    ∷ basis 3 2 (1 ∷ []) A ((0 ∷ 0 ∷ []) ∷ (0 ∷ 1 ∷ []) ∷ (0 ∷ 2 ∷ []) ∷ []) ((1 ∷ 0 ∷ []) ∷ (0 ∷ 3 ∷ []) ∷ []) ((0 ∷ 1 ∷ 0 ∷ []) ∷ (0 ∷ 2 ∷ 0 ∷ []) ∷ [])
    ∷ no_points
    ∷ one_point
    -- p=2, m=1, states 0 and 1: row x²+x
    ∷ basis 2 1 any_order ((0 ∷ []) ∷ (1 ∷ []) ∷ []) ((0 ∷ []) ∷ (1 ∷ []) ∷ []) ((2 ∷ []) ∷ []) ((0 ∷ 1 ∷ []) ∷ [])
    -- A, p=5, grlex, values 1, 0, 3: interpolant 1+2y; the wiring list is empty (M-107)
    ∷ interpolant (settings_of 5 2 1) A (1 ∷ 0 ∷ 3 ∷ []) (1 ∷ 2 ∷ 0 ∷ []) []
    -- x²y has remainder 2x
    ∷ remainder (settings_of 5 2 1) A (1 ∷ []) ((2 ∷ 1 ∷ []) ∷ []) (0 ∷ 0 ∷ 2 ∷ [])
    -- level -1: residue 4 for p=5, 2 for p=3, 1 for p=2
    ∷ levels ((5, negsuc 0, 4) ∷ (3, negsuc 0, 2) ∷ (2, negsuc 0, 1) ∷ [])
    -- p=5, m=1: level -1 after level 4 is a count of 2 (M-106)
    ∷ additions 5 1 ((pos 4 ∷ []) ∷ (negsuc 0 ∷ []) ∷ []) (0 ∷ 0 ∷ []) ((4 ∷ [], 2) ∷ [])
    -- p=5: level -4 is taken, -5 refused with 9
    ∷ range 5 (negsuc 3) (negsuc 4) ∷ []

-- Beside them, p=3 and three variables x, y and z: points whose standard monomials are other ones, or in another sequence, under each order (docs/SCOPE.md,
-- 'Monomial orders'). In two variables grlex and grevlex are one order, so that the marked examples do not tell them apart.
abbrev pub B : List (List ℕ)
B = (0 ∷ 0 ∷ 0 ∷ []) ∷ (0 ∷ 0 ∷ 1 ∷ []) ∷ (0 ∷ 1 ∷ 0 ∷ []) ∷ (1 ∷ 0 ∷ 1 ∷ []) ∷ (1 ∷ 2 ∷ 0 ∷ []) ∷ []

-- lex: standard 1, z, y, y², x; rows z²+2z, yz, y³+2y, xz+y+2y²+2x, xy+y+2y², x²+2x
abbrev pub lex_standard : List (List ℕ)
lex_standard = (0 ∷ 0 ∷ 0 ∷ []) ∷ (0 ∷ 0 ∷ 1 ∷ []) ∷ (0 ∷ 1 ∷ 0 ∷ []) ∷ (0 ∷ 2 ∷ 0 ∷ []) ∷ (1 ∷ 0 ∷ 0 ∷ []) ∷ []

abbrev pub lex_leads : List (List ℕ)
lex_leads = (0 ∷ 0 ∷ 2 ∷ []) ∷ (0 ∷ 1 ∷ 1 ∷ []) ∷ (0 ∷ 3 ∷ 0 ∷ []) ∷ (1 ∷ 0 ∷ 1 ∷ []) ∷ (1 ∷ 1 ∷ 0 ∷ []) ∷ (2 ∷ 0 ∷ 0 ∷ []) ∷ []

abbrev pub lex_rows : List (List ℕ)
lex_rows =
    (0 ∷ 2 ∷ 0 ∷ 0 ∷ 0 ∷ []) ∷ (0 ∷ 0 ∷ 0 ∷ 0 ∷ 0 ∷ []) ∷ (0 ∷ 0 ∷ 2 ∷ 0 ∷ 0 ∷ [])
    ∷ (0 ∷ 0 ∷ 1 ∷ 2 ∷ 2 ∷ []) ∷ (0 ∷ 0 ∷ 1 ∷ 2 ∷ 0 ∷ []) ∷ (0 ∷ 0 ∷ 0 ∷ 0 ∷ 2 ∷ []) ∷ []

-- grlex: standard 1, z, y, x, y²; rows z²+2z, yz, xz+y+2x+2y², xy+y+2y², x²+2x, y³+2y
abbrev pub grlex_standard : List (List ℕ)
grlex_standard = (0 ∷ 0 ∷ 0 ∷ []) ∷ (0 ∷ 0 ∷ 1 ∷ []) ∷ (0 ∷ 1 ∷ 0 ∷ []) ∷ (1 ∷ 0 ∷ 0 ∷ []) ∷ (0 ∷ 2 ∷ 0 ∷ []) ∷ []

abbrev pub grlex_leads : List (List ℕ)
grlex_leads = (0 ∷ 0 ∷ 2 ∷ []) ∷ (0 ∷ 1 ∷ 1 ∷ []) ∷ (1 ∷ 0 ∷ 1 ∷ []) ∷ (1 ∷ 1 ∷ 0 ∷ []) ∷ (2 ∷ 0 ∷ 0 ∷ []) ∷ (0 ∷ 3 ∷ 0 ∷ []) ∷ []

abbrev pub grlex_rows : List (List ℕ)
grlex_rows =
    (0 ∷ 2 ∷ 0 ∷ 0 ∷ 0 ∷ []) ∷ (0 ∷ 0 ∷ 0 ∷ 0 ∷ 0 ∷ [])
    ∷ (0 ∷ 0 ∷ 1 ∷ 2 ∷ 2 ∷ []) ∷ (0 ∷ 0 ∷ 1 ∷ 0 ∷ 2 ∷ []) ∷ (0 ∷ 0 ∷ 0 ∷ 2 ∷ 0 ∷ []) ∷ (0 ∷ 0 ∷ 2 ∷ 0 ∷ 0 ∷ []) ∷ []

-- grevlex: standard 1, z, y, x, xz; rows z²+2z, yz, y²+2y+x+2xz, xy+x+2xz, x²+2x
abbrev pub grevlex_standard : List (List ℕ)
grevlex_standard = (0 ∷ 0 ∷ 0 ∷ []) ∷ (0 ∷ 0 ∷ 1 ∷ []) ∷ (0 ∷ 1 ∷ 0 ∷ []) ∷ (1 ∷ 0 ∷ 0 ∷ []) ∷ (1 ∷ 0 ∷ 1 ∷ []) ∷ []

abbrev pub grevlex_leads : List (List ℕ)
grevlex_leads = (0 ∷ 0 ∷ 2 ∷ []) ∷ (0 ∷ 1 ∷ 1 ∷ []) ∷ (0 ∷ 2 ∷ 0 ∷ []) ∷ (1 ∷ 1 ∷ 0 ∷ []) ∷ (2 ∷ 0 ∷ 0 ∷ []) ∷ []

abbrev pub grevlex_rows : List (List ℕ)
grevlex_rows = (0 ∷ 2 ∷ 0 ∷ 0 ∷ 0 ∷ []) ∷ (0 ∷ 0 ∷ 0 ∷ 0 ∷ 0 ∷ []) ∷ (0 ∷ 0 ∷ 2 ∷ 1 ∷ 2 ∷ []) ∷ (0 ∷ 0 ∷ 0 ∷ 1 ∷ 2 ∷ []) ∷ (0 ∷ 0 ∷ 0 ∷ 2 ∷ 0 ∷ []) ∷ []

unfoldable pub order_examples : List Example
order_examples =
    basis 3 3 (0 ∷ []) B lex_standard lex_leads lex_rows ∷ basis 3 3 (1 ∷ []) B grlex_standard grlex_leads grlex_rows
    ∷ basis 3 3 (2 ∷ []) B grevlex_standard grevlex_leads grevlex_rows ∷ []

-- And docs/SCOPE.md, 'Cancellations' (request M-105): what the examination of points finds, and the cancellations that it counts.
pub record Examined (s : Settings) (S standard leads : List (List ℕ)) (count : ℕ) : Type 0 where
  pub standard_are : map (λ a. a.0) (examined_all (space_under s) (points_under s S)).standard ≡ standard
  pub leads_are : map (λ a. a.0) (examined_all (space_under s) (points_under s S)).leads ≡ leads
  pub count_is : cancellations_under s S ≡ count

pub record ExaminedExamples : Type 0 where
  -- A, p=3, grlex: five monomials, 3 cancellations
  pub points_A : Examined (settings_of 3 2 1) A ((0 ∷ 0 ∷ []) ∷ (0 ∷ 1 ∷ []) ∷ (0 ∷ 2 ∷ []) ∷ []) ((1 ∷ 0 ∷ []) ∷ (0 ∷ 3 ∷ []) ∷ []) 3
  -- p=3, m=1: the count depends on the order of arrival
  pub in_order : Examined (settings_of 3 1 0) ((0 ∷ []) ∷ (1 ∷ []) ∷ (2 ∷ []) ∷ []) ((0 ∷ []) ∷ (1 ∷ []) ∷ (2 ∷ []) ∷ []) ((3 ∷ []) ∷ []) 2
  pub out_of_order : Examined (settings_of 3 1 0) ((1 ∷ []) ∷ (0 ∷ []) ∷ (2 ∷ []) ∷ []) ((0 ∷ []) ∷ (1 ∷ []) ∷ (2 ∷ []) ∷ []) ((3 ∷ []) ∷ []) 5
  -- A with every point twice (M-106): three points, at the same cost
  pub replicates : Examined (settings_of 3 2 1) (points_of (gathered (A ++ A)))
      ((0 ∷ 0 ∷ []) ∷ (0 ∷ 1 ∷ []) ∷ (0 ∷ 2 ∷ []) ∷ []) ((1 ∷ 0 ∷ []) ∷ (0 ∷ 3 ∷ []) ∷ []) 3
  -- no points: the column of 1 is empty, so 1 is a lead, at no cost
  pub no_points : Examined (settings_of 3 2 0) [] [] ((0 ∷ 0 ∷ []) ∷ []) 0

-- And docs/SCOPE.md, 'Replicates' (request M-106): points with their counts, p=5, m=1.
pub record CountedExamples : Type 0 where
  -- the levels 4, 0, -1 are the points 4 and 0, the first of them twice
  pub offered : gathered (points_offered (settings_of 5 1 0) (pos 4 ∷ pos 0 ∷ negsuc 0 ∷ [])) ≡ (4 ∷ [], 2) ∷ (0 ∷ [], 1) ∷ []
  -- one pot withdrawn, then the other: 0 moves up
  pub withdrawn : lowered (4 ∷ []) ((4 ∷ [], 2) ∷ (0 ∷ [], 1) ∷ []) ≡ (4 ∷ [], 1) ∷ (0 ∷ [], 1) ∷ []
  pub gone : lowered (4 ∷ []) ((4 ∷ [], 1) ∷ (0 ∷ [], 1) ∷ []) ≡ (0 ∷ [], 1) ∷ []
  -- and added again it comes last
  pub again : entered (4 ∷ []) ((0 ∷ [], 1) ∷ []) ≡ (0 ∷ [], 1) ∷ (4 ∷ [], 1) ∷ []

-- And order 3 (request M-109).
abbrev pub weighing : ℕ → ℕ → ℕ → List ℕ → Settings
weighing p m order w = record { modulus = p; variables = m; order = order; weights = w }

pub record WeightedExamples : Type 0 where
  -- weights 1, 2: 1 < x < y < x² < xy < x³ < y², for y and x² have one sum
  pub increasing : Increasing (cmp (order_of 3 (1 ∷ 2 ∷ replicate 6 0)))
      ((0 ∷ 0 ∷ []) ∷ (1 ∷ 0 ∷ []) ∷ (0 ∷ 1 ∷ []) ∷ (2 ∷ 0 ∷ []) ∷ (1 ∷ 1 ∷ []) ∷ (3 ∷ 0 ∷ []) ∷ (0 ∷ 2 ∷ []) ∷ [])
  -- A, p=5: standard 1, x, y; rows x²+x+4y, xy+x+y, y²+4x+y
  pub points_A : LaidOut (weighing 5 2 3 (1 ∷ 2 ∷ replicate 6 0)) A
      ((0 ∷ 0 ∷ []) ∷ (1 ∷ 0 ∷ []) ∷ (0 ∷ 1 ∷ []) ∷ []) ((2 ∷ 0 ∷ []) ∷ (1 ∷ 1 ∷ []) ∷ (0 ∷ 2 ∷ []) ∷ [])
      ((0 ∷ 1 ∷ 4 ∷ []) ∷ (0 ∷ 1 ∷ 1 ∷ []) ∷ (0 ∷ 4 ∷ 1 ∷ []) ∷ [])
  -- 15: a weight of x1 to xm is 0 or above 99, one behind is not 0, or there is one in orders 0 to 2; after 3, 4 and 5
  pub taken : first_of 0 (settings_cases (weighing 5 2 3 (99 ∷ 1 ∷ replicate 6 0))) ≡ 0
  pub weight_0 : first_of 0 (settings_cases (weighing 5 2 3 (1 ∷ replicate 7 0))) ≡ 15
  pub weight_100 : first_of 0 (settings_cases (weighing 5 2 3 (100 ∷ 1 ∷ replicate 6 0))) ≡ 15
  pub weight_behind : first_of 0 (settings_cases (weighing 5 2 3 (1 ∷ 1 ∷ 1 ∷ replicate 5 0))) ≡ 15
  pub weight_in_grlex : first_of 0 (settings_cases (weighing 5 2 1 (1 ∷ 1 ∷ replicate 6 0))) ≡ 15
  pub order_4 : first_of 0 (settings_cases (weighing 5 2 4 (100 ∷ replicate 7 0))) ≡ 5
  pub variables_9 : first_of 0 (settings_cases (weighing 5 9 3 (replicate 8 1))) ≡ 4
