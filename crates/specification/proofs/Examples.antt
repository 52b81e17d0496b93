-- The marked examples of docs/SCOPE.md, computed from the definitions: one claim over their list. What additions return is the reference list's, by the
-- agreement, so that the examples of additions compute no tables.
use mathlib.Core.Path.{◌≡◌, refl, sym, ◌∙◌, ap, subst}
use mathlib.Core.List.{List, [], ◌∷◌, ◌++◌, map, zip}
use mathlib.Core.Logic.{inl, inr}
use mathlib.Core.Bool.{Bool, true, false, ◌&&◌, and_assoc, and-false}
use Prim.Native.Nat.{ℕ, suc, ◌+◌, ◌-◌, ◌%◌, ◌≤◌, ◌<◌}
use native.Mathlib.Omega.{arith}
use lib.IntN.{ℤ, pos, negsuc}
use lib.ListN.{length, replicate, length-replicate, length-append}
use lib.Dec.{T}
use borrow.Author.Tests.{le-leb, le-ltb, eq-eqb}
use Rattle.residue.specs.Sizes.{states_size, standard_size, leads_size, coefficients_size, counts_size}
use Rattle.residue.specs.Lists.{Among, same_list}
use Rattle.residue.specs.Modulus.{primes, is_one_of, is_modulus}
use Rattle.residue.specs.Inverse.{inverse_below, inverse_of}
use Rattle.residue.specs.Level.{residue_of}
use Rattle.std.proofs.Common.{Some}
use Rattle.residue.specs.Layout.{groups, fill, begins, length_fill}
use Rattle.residue.proofs.level.Moduli.{below, below_at}
use Rattle.residue.proofs.Tests.{and_left, and_right}
use Rattle.residue.proofs.bytes.Equality.{same_is}
use Rattle.residue.proofs.Layouts.{fill_zeros, over_all, begins_over}
use Rattle.monomial.specs.Order.{order_of, cmp}
use Rattle.specification.specs.declared.settings.Settings.{Settings}
use Rattle.specification.specs.Refusal.{first_of}
use Rattle.specification.specs.Settings.{settings_of, weighs_first, right_weights, settings_cases}
use Rattle.specification.specs.Levels.{is_residue, residue_or0, in_range, residues, is_among}
use Rattle.specification.specs.Extension.{slot, minus, without, divided, extended, gap, first, newton, grow}
use Rattle.specification.specs.BasisOf.{basis_of, value_at}
use Rattle.specification.specs.Instance.{monomial_of, point_of}
use Rattle.specification.specs.Counted.{entered, lowered, entered_all, gathered, overfull}
use Rattle.specification.specs.Tables.{standard_under, leads_under, rows_under, held_in}
use Rattle.specification.specs.Adding.{points_offered}
use Rattle.specification.specs.Needed.{alike, apart, contrary, pair_in, wiring_of}
use Rattle.specification.specs.Solving.{polynomial_of}
use Rattle.specification.specs.Reference.{reference_answer, list_after, reference_after, addition, Held, held_after, numbers, held_at_end, fed, reference_at_end, due_at, due, RefusesAt, Refuses}
use Rattle.specification.specs.Agreement.{freshly, Agrees}
use Rattle.specification.specs.Examples.{Example, Holds, LaidOut, any_order, fresh, A, examples, CountedExamples, WeightedExamples}
use Rattle.residue.proofs.Tests.{true_of}
use Rattle.specification.proofs.agreement.Refusals.{no_weights}
use Rattle.specification.proofs.agreement.Claim.{agreement}

-- lists of lists are equal where the test says so
same_lists : List (List ℕ) → List (List ℕ) → Bool
same_lists [] [] = true
same_lists [] (b ∷ l) = false
same_lists (a ∷ k) [] = false
same_lists (a ∷ k) (b ∷ l) = same_list a b && same_lists k l

are_same : (k l : List (List ℕ)) → T (same_lists k l) → k ≡ l
unfolding same_lists
are_same [] [] h = refl
are_same [] (b ∷ l) h = absurd h
are_same (a ∷ k) [] h = absurd h
are_same (a ∷ k) (b ∷ l) h =
    let e : a ≡ b = same_is a b (and_left (same_list a b) (same_lists k l) h) in
    let r : k ≡ l = are_same k l (and_right (same_list a b) (same_lists k l) h) in
    cc

module _ (s : Settings) (S standard leads rows : List (List ℕ)) where
  -- the three tables of the points, and one test of them all
  abbrev on_standard : Bool
  on_standard = same_lists (map (λ a. a.0) (standard_under s S)) standard

  abbrev on_leads : Bool
  on_leads = same_lists (map (λ a. a.0) (leads_under s S)) leads

  abbrev on_rows : Bool
  on_rows = same_lists (rows_under s S) rows

  tested : Bool
  tested = on_standard && (on_leads && on_rows)

  of_test : T tested → LaidOut s S standard leads rows
  unfolding tested
  of_test t =
      let u = and_right on_standard (on_leads && on_rows) t in
      record {
        standard_are = are_same _ standard (and_left on_standard (on_leads && on_rows) t);
        leads_are = are_same _ leads (and_left on_leads on_rows u);
        rows_are = are_same _ rows (and_right on_leads on_rows u);
      }

-- the same under each order of a list
each_tested : (p m : ℕ) (orders : List ℕ) (S standard leads rows : List (List ℕ)) → Bool
each_tested p m [] S standard leads rows = true
each_tested p m (o ∷ orders) S standard leads rows = tested (settings_of p m o) S standard leads rows && each_tested p m orders S standard leads rows

under_each : (p m : ℕ) (orders : List ℕ) (S standard leads rows : List (List ℕ)) → T (each_tested p m orders S standard leads rows)
    → (order : ℕ) → Among order orders → LaidOut (settings_of p m order) S standard leads rows
unfolding each_tested
under_each p m (o ∷ orders) S standard leads rows t order (inl e) = rw e (of_test (settings_of p m o) S standard leads rows (and_left (tested (settings_of p m o) S standard leads rows) _ t))
under_each p m (o ∷ orders) S standard leads rows t order (inr q) = under_each p m orders S standard leads rows (and_right (tested (settings_of p m o) S standard leads rows) _ t) order q
under_each p m [] S standard leads rows t order x'' = elim x'' [ ]

-- zeros are fresh tables
blank : (k : ℕ) → T (begins (fill k []) (replicate k 0))
blank k = subst (λ (t : List ℕ). T (begins (fill k []) t)) (over_all (fill k []) (replicate k 0) (length_fill k [] ∙ sym (length-replicate k 0)) ∙ fill_zeros k) (begins_over (fill k []) (replicate k 0))

-- additions alone: no call is interposed
alone : (s : Settings) (h : Held) (offered : List (List ℤ)) → Refuses s h (map addition offered)
unfolding Refuses RefusesAt
alone s h [] = tt
alone s h (levels ∷ offered) = (tt, alone s (held_after s h (addition levels)) offered)

-- by the agreement: the numbers, and what is held
module _ (s : Settings) (offered : List (List ℤ)) (fine : first_of 0 (settings_cases s) ≡ 0) where
  agreed : Agrees s fresh.tables (map addition offered) (reference_at_end s [] (map addition offered)) (held_at_end s fresh (map addition offered))
  unfolding freshly
  agreed =
      agreement s fine fresh.tables
      (record { states = blank states_size; standard = blank standard_size; leads = blank leads_size; coefficients = blank coefficients_size; counts = blank counts_size }) (map addition offered) (alone s fresh offered)

  added : numbers s fresh (map addition offered) ≡ due s [] fresh (map addition offered)
  unfolding freshly
  added = agreed.answers

  now_held : let h = held_at_end s fresh (map addition offered) in held_in s h.n h.tables ≡ reference_at_end s [] (map addition offered)
  now_held = agreed.held

-- settings with one of the orders 0 to 2 are accepted
known_order : (order : ℕ) → Among order any_order → order < 3
known_order o (inl e) = omega arith
known_order o (inr (inl e)) = omega arith
known_order o (inr (inr (inl e))) = omega arith
known_order o (inr (inr (inr q))) = absurd q

fine : (p m order : ℕ) → is_modulus p ≡ true → 1 ≤ m → m ≤ 8 → Among order any_order → first_of 0 (settings_cases (settings_of p m order)) ≡ 0
unfolding settings_cases first_of
fine p m order h low high q = simp (h, le-leb 1 m low, le-leb m 8 high, le-ltb 3 order (omega (arith, known_order order q)), no_weights p m order (omega (arith, known_order order q)))

-- levels one after the other are in range where both are
range_append : (p : ℕ) (k l : List ℤ) → in_range p (k ++ l) ≡ (in_range p k && in_range p l)
unfolding in_range
range_append p [] l = refl
range_append p (z ∷ k) l = ap (λ (b : Bool). is_residue (residue_of p z) && b) (range_append p k l) ∙ sym (and_assoc (is_residue (residue_of p z)) (in_range p k) (in_range p l))

-- two additions, of which the second has a level out of range
ranged : (p m order : ℕ) (k l : List ℤ) → first_of 0 (settings_cases (settings_of p m order)) ≡ 0 → length k ≡ m → length l ≡ m → in_range p k ≡ true → in_range p l ≡ false
    → numbers (settings_of p m order) fresh (addition k ∷ addition l ∷ []) ≡ 0 ∷ 9 ∷ []
unfolding due due_at fed reference_answer reference_after list_after entered overfull first_of
ranged p m order k l f ek el rk rl = added (settings_of p m order) (k ∷ l ∷ []) f ∙ simp (eq-eqb (length k) m ek, eq-eqb (length l) m el, rk, rl)

abbrev pub All : List Example → Type 0
All [] = Unit {0}
All (e ∷ l) = Holds e × All l

all : All examples
unfolding tested each_tested same_lists examples Holds primes is_one_of is_modulus inverse_below inverse_of residue_of order_of cmp first_of settings_cases is_residue residue_or0 in_range residues fill same_list is_among slot minus without divided extended gap first newton grow basis_of value_at monomial_of point_of alike apart contrary pair_in wiring_of zip polynomial_of reference_answer reference_after list_after entered overfull fed due_at due reference_at_end
all = (under_each 5 2 (1 ∷ []) A _ _ _ tt, (under_each 5 2 (0 ∷ []) A _ _ _ tt, (under_each 3 2 (1 ∷ []) A _ _ _ tt, ((λ s. (record { standard_are = refl; leads_are = refl; rows_are = refl }, (λ values. refl), λ f. refl)), (single, (under_each 2 1 any_order _ _ _ _ tt, ((refl, refl), (refl, (lowest, (again, (ends, tt)))))))))))
  where
    -- each order, and each point (a, b) modulo 5
    one : ℕ → ℕ → ℕ → Bool
    one order a b = tested (settings_of 5 2 order) ((a ∷ b ∷ []) ∷ []) ((0 ∷ 0 ∷ []) ∷ []) ((0 ∷ 1 ∷ []) ∷ (1 ∷ 0 ∷ []) ∷ []) (((5 - b) % 5 ∷ []) ∷ ((5 - a) % 5 ∷ []) ∷ [])

    single : (order a b : ℕ) → Among order any_order → a < 5 → b < 5
        → LaidOut (settings_of 5 2 order) ((a ∷ b ∷ []) ∷ []) ((0 ∷ 0 ∷ []) ∷ []) ((0 ∷ 1 ∷ []) ∷ (1 ∷ 0 ∷ []) ∷ []) (((5 - b) % 5 ∷ []) ∷ ((5 - a) % 5 ∷ []) ∷ [])
    single order a b ho ha hb = of_test (settings_of 5 2 order) ((a ∷ b ∷ []) ∷ []) ((0 ∷ 0 ∷ []) ∷ []) ((0 ∷ 1 ∷ []) ∷ (1 ∷ 0 ∷ []) ∷ []) (((5 - b) % 5 ∷ []) ∷ ((5 - a) % 5 ∷ []) ∷ [])
        (below_at (one order a) 5 (below_at (λ c. below (one order c) 5) 5 (below_at (λ o. below (λ c. below (one o c) 5) 5) 3 tt order (known_order order ho)) a ha) b hb)

    lowest : (e : ℕ × ℤ × ℕ) → Among e ((5, negsuc 0, 4) ∷ (3, negsuc 0, 2) ∷ (2, negsuc 0, 1) ∷ []) → residue_of e.0 e.1 ≡ Some e.2
    lowest e (inl q) = rw q
    lowest e (inr (inl q)) = rw q
    lowest e (inr (inr (inl q))) = rw q
    lowest e (inr (inr (inr q))) = absurd q

    twice : List (List ℤ)
    twice = (pos 4 ∷ []) ∷ (negsuc 0 ∷ []) ∷ []

    again : (order : ℕ) → Among order any_order → let end = held_at_end (settings_of 5 1 order) fresh (map addition twice) in
        (numbers (settings_of 5 1 order) fresh (map addition twice) ≡ 0 ∷ 0 ∷ []) × (held_in (settings_of 5 1 order) end.n end.tables ≡ (4 ∷ [], 2) ∷ [])
    again order q = let f = fine 5 1 order refl (omega arith) (omega arith) q in (added (settings_of 5 1 order) twice f, now_held (settings_of 5 1 order) twice f)

    ends : (m order : ℕ) (before behind : List ℤ) → m ≤ 8 → Among order any_order → length before + suc (length behind) ≡ m → T (in_range 5 before) → T (in_range 5 behind)
        → numbers (settings_of 5 m order) fresh (addition (before ++ (negsuc 3 ∷ behind)) ∷ addition (before ++ (negsuc 4 ∷ behind)) ∷ []) ≡ 0 ∷ 9 ∷ []
    ends m order before behind few q e h k = ranged 5 m order (before ++ (negsuc 3 ∷ behind)) (before ++ (negsuc 4 ∷ behind)) (fine 5 m order refl (omega arith) few q)
        (length-append before (negsuc 3 ∷ behind) ∙ e) (length-append before (negsuc 4 ∷ behind) ∙ e)
        (range_append 5 before (negsuc 3 ∷ behind) ∙ simp (true_of (in_range 5 before) h, true_of (in_range 5 behind) k))
        (range_append 5 before (negsuc 4 ∷ behind) ∙ and-false (in_range 5 before))

pub each_of : (l : List Example) → All l → (e : Example) → Among e l → Holds e
each_of (a ∷ l) h e (inl q) = subst Holds (sym q) h.0
each_of (a ∷ l) h e (inr q) = each_of l h.1 e q
each_of [] h e x'' = elim x'' [ ]

pub every_example : (e : Example) → Among e examples → Holds e
every_example = each_of examples all

-- beside them, points with their counts
pub counted_examples : CountedExamples
unfolding entered lowered entered_all gathered points_offered groups residues residue_or0 residue_of same_list
counted_examples = record { offered = refl; withdrawn = refl; gone = refl; again = refl }

-- and order 3
pub weighted_examples : WeightedExamples
unfolding tested same_lists primes is_one_of is_modulus inverse_below inverse_of order_of cmp first_of weighs_first right_weights settings_cases fill same_list slot minus without divided extended gap first newton grow basis_of value_at monomial_of point_of
weighted_examples = record {
  increasing = (
    (refl, (refl, (refl, (refl, (refl, (refl, tt)))))),
    (
      (refl, (refl, (refl, (refl, (refl, tt))))),
      ((refl, (refl, (refl, (refl, tt)))), ((refl, (refl, (refl, tt))), ((refl, (refl, tt)), ((refl, tt), (tt, tt))))),
    ),
  );
  points_A = of_test _ A _ _ _ tt;
  taken = refl;
  weight_0 = refl;
  weight_100 = refl;
  weight_behind = refl;
  weight_in_grlex = refl;
  order_4 = refl;
  variables_9 = refl;
}
