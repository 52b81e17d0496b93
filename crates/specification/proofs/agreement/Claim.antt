-- THE claim over any list of operations (docs/SCOPE.md, 'The two desks').
use mathlib.Core.Path.{◌≡◌, refl, sym, ◌∙◌, ap, subst}
use mathlib.Core.Bool.{false}
use mathlib.Core.List.{List, [], ◌∷◌, ◌++◌, append-nil}
use Prim.Native.Nat.{ℕ, zero, suc, ◌≤◌}
use native.Mathlib.Omega.{arith}
use lib.IntN.{ℤ}
use lib.ListN.{length, take, replicate, length-take, length-map}
use lib.Dec.{T}
use Rattle.residue.specs.Sizes.{states_size, standard_size, leads_size, coefficients_size, counts_size}
use Rattle.residue.specs.Layout.{fill, in_places, over, begins, length_fill}
use Rattle.residue.proofs.bytes.Equality.{same_is}
use Rattle.residue.proofs.Layouts.{fill_zeros}
use Rattle.specification.specs.declared.settings.Settings.{Settings}
use Rattle.specification.specs.Refusal.{first_of}
use Rattle.specification.specs.Settings.{Accepted, settings_cases}
use Rattle.specification.specs.Polynomial.{Distinct}
use Rattle.specification.specs.BasisOf.{basis_of}
use Rattle.specification.specs.Counted.{Counted, points_of}
use Rattle.specification.specs.Tables.{Tables, space_under, points_under, row_count, states_table, standard_table, leads_table, coefficients_table, tables_of}
use Rattle.specification.specs.Tables.{written, too_short, points_in, held_in}
use Rattle.specification.specs.Adding.{Outcome, draw_outcome, uncosted}
use Rattle.specification.specs.Solving.{interpolate_outcome, remainder_outcome, wiring_outcome}
use Rattle.specification.specs.Reference.{Event, Held, numbers, held_at_end, reference_at_end, due, Refuses}
use Rattle.specification.specs.Agreement.{Fresh, freshly, SameSet, Arranges, SameAs, SameCounts, Remains, Agrees, Wires}
use Rattle.specification.specs.CallByCall.{Interpolates}
use Rattle.specification.proofs.ideal.Basis.{basis_is}
use Rattle.specification.proofs.counted.Gathered.{no_entries}
use Rattle.specification.proofs.counted.Held.{points_held}
use Rattle.specification.proofs.agreement.Refusals.{accepted, Large, large_of, over_begins}
use Rattle.specification.proofs.agreement.Run.{same_tables, At, held_list, run}
use Rattle.specification.proofs.agreement.Drawings.{laws_under, distinct_points, standard_count, few_rows, most_rows_lem}
use Rattle.specification.proofs.agreement.Handed.{number_told}
use Rattle.specification.proofs.agreement.Arrangements.{drawn_same, arranged_same}
use Rattle.specification.proofs.CallByCall.{drawn_points, drawn_number, packed_drawn, interpolate_leaves, remainder_leaves}
use Rattle.specification.proofs.needed.Calls.{wiring_leaves}
use Rattle.specification.proofs.leaving.Desks.{leaves_alike}

-- zeros filled up are zeros
blank : (k j : ℕ) → fill k (replicate j 0) ≡ fill k []
unfolding fill
blank zero j = refl
blank (suc k) zero = refl
blank (suc k) (suc j) = ap (λ (z : List ℕ). 0 ∷ z) (blank k j)

-- the tables of no points are blank in their sizes
nothing : (k w j : ℕ) (t : List ℕ) → T (begins (fill k []) t) → over (fill k (fill w (replicate j 0) ++ [])) t ≡ t
nothing k w j t h = ap (λ (z : List ℕ). over z t) (ap (fill k) (append-nil (fill w (replicate j 0)) ∙ blank w j ∙ fill_zeros w) ∙ blank k w) ∙ over_begins (fill k []) t h

module _ (s : Settings) (fine : first_of 0 (settings_cases s) ≡ 0) (start : Tables) (fresh : Fresh start) where
  -- long enough for what they begin with
  long : (k : ℕ) (t : List ℕ) → T (begins (fill k []) t) → k ≤ length t
  unfolding begins
  long k t h = omega (arith, length_fill k [], ap length (same_is (fill k []) (take (length (fill k [])) t) h), length-take (length (fill k [])) t)

  large : Large start
  large = record { states = long states_size start.states fresh.states; standard = long standard_size start.standard fresh.standard; leads = long leads_size start.leads fresh.leads; coefficients = long coefficients_size start.coefficients fresh.coefficients; counts = long counts_size start.counts fresh.counts }

  -- fresh tables are those of no points: one row, the monomial 1
  at_start : At s fine start large (freshly start) []
  unfolding freshly row_count states_table standard_table leads_table coefficients_table tables_of written basis_of in_places
  at_start = record {
    entries = no_entries s;
    count = refl;
    rows = refl;
    tables =
        sym
        (same_tables (over_begins (fill states_size []) start.states fresh.states) (over_begins (fill standard_size []) start.standard fresh.standard)
        (nothing leads_size 8 s.variables start.leads fresh.leads) (nothing coefficients_size 64 0 start.coefficients fresh.coefficients)
        (over_begins (fill counts_size []) start.counts fresh.counts));
  }

-- For all settings that adding does not refuse, all fresh tables, and every list of operations with refused calls between them.
pub agreement : (s : Settings) → first_of 0 (settings_cases s) ≡ 0 → (start : Tables) → Fresh start → (es : List Event) → Refuses s (freshly start) es
    → Agrees s start es (reference_at_end s [] es) (held_at_end s (freshly start) es)
agreement s fine start fresh es refuses = record {
  answers = end.0;
  count = at.count;
  rows = at.rows;
  tables = at.tables;
  held = held;
  basis = basis_is (space_under s) (laws_under s good) (points_under s S) distinct;
  as_many = standard_count s good S distinct ∙ length-map L (λ q. q.0);
  few_points = omega (arith, length-map L (λ q. q.0), at.entries.points.few);
  few_replicates = at.entries.counts;
  few_rows = few_rows s good S at.entries.points;
  most_rows_lem = rw (at.rows, at.count ∙ sym (length-map L (λ q. q.0))) (most_rows_lem s good S at.entries.points);
  drawn = drawn;
  arranged = arranged;
  drawn_packed = λ two t levels same taken. let d = packed_drawn s t levels two in
      subst (SameAs s h) (sym d) (drawn t levels same (sym (ap (λ (o : Outcome). o.answer.refusal) d) ∙ taken));
  arranged_packed = λ two t levels short a. subst (SameCounts s h) (sym (packed_drawn s t levels two)) (arranged t levels short a);
  both_drawn = λ two t levels. packed_drawn s t levels two;
  leaving = leaves_alike s fine L at.entries start big h at.count at.rows at.tables;
  requests = λ q. rw (at.count, at.rows, at.tables) (number_told s fine L at.entries start big q);
  interpolants = λ values buffer e.
      subst (λ (K : List (List ℕ)). Interpolates s K values buffer (interpolate_outcome s h.n h.r h.tables values buffer).buffer) points
      (interpolate_leaves s h.n h.r h.tables values buffer e).1;
  remainders = λ terms exponents buffer e. subst (λ (K : List (List ℕ)). Remains s K terms exponents buffer (remainder_outcome s h.n h.r h.tables terms exponents buffer).buffer) points
      (remainder_leaves s h.n h.r h.tables terms exponents buffer e).1;
  wirings = λ values buffer e. subst (λ (K : List (List ℕ)). Wires s K values buffer (wiring_outcome s h.n h.r h.tables values buffer)) points
      (wiring_leaves s h.n h.r h.tables values buffer e).1;
}
  where
    good : Accepted s
    good = accepted s fine

    big : Large start
    big = large s fine start fresh

    L : Counted
    L = reference_at_end s [] es

    S : List (List ℕ)
    S = points_of L

    h : Held
    h = held_at_end s (freshly start) es

    end : (numbers s (freshly start) es ≡ due s [] (freshly start) es) × At s fine start big h L
    end = run s fine start big es (freshly start) [] (at_start s fine start fresh) refuses

    at : At s fine start big h L
    at = end.1

    distinct : Distinct (space_under s) (points_under s S)
    distinct = distinct_points s good S at.entries.points

    held : held_in s h.n h.tables ≡ L
    held = held_list s fine start big h L at

    drawn : (t : Tables) (levels : List ℤ) → SameSet s L levels → (draw_outcome s t levels).answer.refusal ≡ 0 → SameAs s h (uncosted (draw_outcome s t levels))
    drawn t levels same taken = let k = sym (drawn_number s t levels) ∙ taken in let o = drawn_points s t levels k in
        drawn_same s good fine L at.entries levels same o.small start big h at.count at.rows at.tables t (large_of t o.large) k

    arranged : (t : Tables) (levels : List ℤ) → too_short t ≡ false → Arranges s L levels → SameCounts s h (uncosted (draw_outcome s t levels))
    arranged t levels short a = arranged_same s good fine L at.entries levels a start big h at.count at.rows at.tables t short

    points : points_in s h.n h.tables.states ≡ S
    points = sym (points_held s h.n h.tables) ∙ ap points_of held
