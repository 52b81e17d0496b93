-- Call by call: what is left by each call whose number is 0, whatever it was handed (docs/SCOPE.md, 'The sheet'). No run from fresh tables is asked for.
use mathlib.Core.Path.{◌≡◌, refl, sym, ◌∙◌, ap, ap₂, subst}
use mathlib.Core.Bool.{Bool, true, false, cond}
use mathlib.Core.List.{List, [], ◌∷◌, map}
use mathlib.Core.Logic.{inl, inr, ◌↔◌}
use Prim.Native.Nat.{ℕ, ◌-◌, ◌≤◌}
use native.Mathlib.Omega.{arith}
use lib.IntN.{ℤ}
use lib.ListN.{length, length-map}
use lib.Dec.{T, eqb, ltb}
use borrow.Author.Tests.{eq-eqb, eqb-true, ltb-false, not-false}
use Rattle.residue.specs.Lists.{Among, some}
use Rattle.residue.specs.Layout.{over}
use Rattle.specification.specs.declared.settings.Settings.{Settings}
use Rattle.specification.specs.Refusal.{first_of}
use Rattle.specification.specs.Levels.{in_range, residues, no_repeat}
use Rattle.specification.specs.Polynomial.{Distinct}
use Rattle.specification.specs.Basis.{IsBasis}
use Rattle.specification.specs.BasisOf.{remainder_of, interpolant_of, value_at}
use Rattle.specification.specs.Instance.{point_of}
use Rattle.specification.specs.Counted.{Counted, points_of, counts_of, entered, lowered, gathered, overfull, count_of, times_in}
use Rattle.specification.specs.Tables.{Tables, space_under, points_under, standard_under, leads_under, rows_under, row_count, tables_of, written, too_short}
use Rattle.specification.specs.Tables.{points_in, held_in, recognised}
use Rattle.specification.specs.Adding.{Outcome, holding, by_refusal, points_offered, add_outcome, draw_cases, draw_refusal, draw_outcome, refused, uncosted, draw_packed_outcome}
use Rattle.specification.specs.Withdrawing.{withdraw_outcome}
use Rattle.specification.specs.Reference.{Operation, adding, withdrawing, outcome_of, refusal_of, reference_answer, list_after}
use Rattle.specification.specs.Solving.{check_refusal, filling, values_cases, interpolant_in, interpolate_outcome, polynomial_under, remainder_cases}
use Rattle.specification.specs.Solving.{remainder_in, remainder_outcome}
use Rattle.specification.specs.Agreement.{Remains}
use Rattle.specification.specs.CallByCall.{HoldsBasis, Interpolates, Costs}
use Rattle.residue.proofs.Tests.{of_true, neither}
use Rattle.specification.proofs.ideal.Lists.{among_map}
use Rattle.specification.proofs.ideal.Basis.{basis_is, interpolant_fits, interpolant_values, remainder_fits}
use Rattle.specification.proofs.ideal.Division.{basis_reduced}
use Rattle.specification.specs.Points.{Points, IsPoint}
use Rattle.specification.proofs.agreement.Points.{no_points, read_count, point_same, length_residues, of_once}
use Rattle.specification.proofs.counted.Gathered.{Entries, count_gathered}
use Rattle.specification.proofs.counted.Held.{points_held, counts_held, length_held}
use Rattle.specification.specs.Settings.{Accepted}
use Rattle.specification.proofs.agreement.Refusals.{accepted, over_begins, written_held, written_recognised}
use Rattle.specification.proofs.agreement.Operations.{lawful}
use Rattle.specification.proofs.agreement.Run.{number_of_lem, same_tables}
use Rattle.specification.proofs.agreement.Drawings.{laws_under, among_under, distinct_points, few_rows, most_rows_lem}
use Rattle.specification.proofs.cancellations.Under.{costs}
use Rattle.specification.proofs.Recognised.{none_of, offered, is_read, read, Parts, recognised_parts}

-- each point is its m residues
pub same_points : (s : Settings) → Accepted s → (K : List (List ℕ)) → ((P : List ℕ) → Among P K → IsPoint s P) → map (λ P. P.0) (points_under s K) ≡ K
same_points s ok [] each = refl
same_points s ok (P ∷ K) each = ap₂ (λ (a : List ℕ) (l : List (List ℕ)). a ∷ l) (point_same s ok.few P (each P (inl refl))) (same_points s ok K (λ Q q. each Q (inr q)))

module _ (s : Settings) (ok : Accepted s) (L : Counted) (h : Entries s L) where
  -- the points of the list
  abbrev S : List (List ℕ)
  S = points_of L

  -- n, r and the tables of entries hold their basis
  pub holds_basis : {n r : ℕ} {end : Tables} (lent : Tables) → n ≡ length L → r ≡ row_count s S → end ≡ written (tables_of s L) lent → HoldsBasis s L lent n r end
  holds_basis lent en er et = record {
    points = same_points s ok S h.points.points;
    distinct = distinct_points s ok S h.points;
    basis = is;
    groebner = basis_reduced (space_under s) (laws_under s ok) (points_under s S) _ _ _ is;
    counts = h.counts;
    count = en;
    rows = er;
    tables = et;
    few_points = omega (arith, length-map L (λ q. q.0), h.points.few);
    few_rows = few_rows s ok S h.points;
    most_rows_lem = rw (er, en ∙ sym (length-map L (λ q. q.0))) (most_rows_lem s ok S h.points);
  }
    where
      is : IsBasis (space_under s) (points_under s S) (standard_under s S) (leads_under s S) (rows_under s S)
      is = basis_is (space_under s) (laws_under s ok) (points_under s S) (distinct_points s ok S h.points)

  -- a call that writes tables
  written_basis : (k : ℕ) (t : Tables) → (by_refusal k t (holding s L t)).answer.refusal ≡ 0
      → let o = by_refusal k t (holding s L t) in HoldsBasis s L t o.answer.n o.answer.r o.tables
  unfolding by_refusal holding
  written_basis k t e = rw (sym (number_of_lem k t s L) ∙ e) (holds_basis t refl refl refl)

-- Recognised tables.
module _ (s : Settings) (ok : Accepted s) (n r : ℕ) (t : Tables) (few : n ≤ 64) (known : recognised s n r t ≡ true) where
  parts : Parts s n r t
  parts = recognised_parts s n r t known

  pub known_points : Points s (points_in s n t.states)
  known_points = read s ok n t.states few (of_true parts.once)

  pub known_entries : Entries s (held_in s n t)
  known_entries = record { points = rw (points_held s n t) known_points; counts = rw (counts_held s n t) (of_true parts.range) }

  pub known_tables : t ≡ written (tables_of s (held_in s n t)) t
  unfolding written tables_of
  known_tables =
      rw (points_held s n t, counts_held s n t)
      (sym (same_tables (over_begins _ t.states (of_true parts.states)) (over_begins _ t.standard (of_true parts.standard)) (over_begins _ t.leads (of_true parts.leads)) (over_begins _ t.coefficients (of_true parts.coefficients)) (over_begins _ t.counts (of_true parts.counts))))

  pub known_rows : r ≡ row_count s (points_of (held_in s n t))
  known_rows = parts.rows ∙ ap (row_count s) (sym (points_held s n t))

  pub known_basis : HoldsBasis s (held_in s n t) t n r t
  known_basis = holds_basis s ok _ known_entries t (sym (length_held s n t)) known_rows known_tables

-- What holds a basis has distinct points with counts from 1 to 255.
module _ (s : Settings) (ok : Accepted s) where
  once : (K : List (List ℕ)) → Distinct (space_under s) (points_under s K) → T (no_repeat K)
  once [] d = (no_points s).once
  once (P ∷ K) d = of_once K P (λ Q q e. d.0 _ (among_under s ok K Q q) (ap (point_of (s.modulus - 1) s.variables) e)) (once K d.1)

  pub basis_entries : {lent end : Tables} {n r : ℕ} (L : Counted) → HoldsBasis s L lent n r end → Entries s L
  basis_entries L h = record {
    points = record {
      points = λ P q. let w = among_map (λ X. X.0) (points_under s (points_of L)) P (subst (Among P) (sym h.points) q) in
          subst (IsPoint s) (sym w.2) (is_read s ok w.0);
      once = once (points_of L) h.distinct;
      few = omega (arith, length-map L (λ q. q.0), h.few_points);
    };
    counts = h.counts;
  }

  -- It is recognised, and nothing else is: refusal 10 is given in its case alone.
  pub recognised_basis : (n r : ℕ) (t : Tables) → n ≤ 64 → recognised s n r t ≡ true ↔ ((L : Counted) × HoldsBasis s L t n r t)
  recognised_basis n r t few = ((λ known. (held_in s n t, known_basis s ok n r t few known)), λ w. told w.0 w.1)
    where
      told : (L : Counted) → HoldsBasis s L t n r t → recognised s n r t ≡ true
      told L h = subst (λ (u : Tables). recognised s n r u ≡ true) (sym h.tables) (rw (h.count, h.rows) (written_recognised s ok L (basis_entries L h) t))

-- Drawing up leaves the basis of the distinct points offered with their counts, and answers what that cost.
module _ (s : Settings) (t : Tables) (levels : List ℤ) where
  abbrev L : Counted
  L = gathered (points_offered s levels)

  -- What a drawing up stands on that is not refused.
  pub record Offered : Type 0 where
    pub ok : Accepted s
    pub large : too_short t ≡ false
    pub small : some (ltb 255) (counts_of L) ≡ false
    pub entries : Entries s L

  pub drawn_points : draw_refusal s t levels ≡ 0 → Offered
  unfolding draw_refusal draw_cases overfull
  drawn_points e =
      let z = none_of s _ tt e in
      let ok = accepted s z.0 in
      let n = z.1 in record {
        ok = ok;
        large = n.0;
        small = n.1.1.1.1.0;
        entries = offered s ok levels (eqb-true _ 0 (not-false _ n.1.0)) (of_true (not-false (in_range s.modulus levels) n.1.1.0)) n.1.1.1;
      }

  pub drawn_number : (draw_outcome s t levels).answer.refusal ≡ draw_refusal s t levels
  unfolding draw_outcome
  drawn_number = number_of_lem (draw_refusal s t levels) t s L

  pub draw_leaves : let o = draw_outcome s t levels in o.answer.refusal ≡ 0 → HoldsBasis s L t o.answer.n o.answer.r o.tables
  unfolding draw_outcome
  draw_leaves e = let h = drawn_points (sym drawn_number ∙ e) in written_basis s h.ok L h.entries (draw_refusal s t levels) t e

  -- Drawing up with words, request M-108: where the modulus is 2 it is drawing up, and it is refused with 3 else.
  pub packed_drawn : s.modulus ≡ 2 → draw_packed_outcome s t levels ≡ uncosted (draw_outcome s t levels)
  unfolding draw_packed_outcome
  packed_drawn two = rw (eq-eqb s.modulus 2 two)

  pub packed_two : (draw_packed_outcome s t levels).answer.refusal ≡ 0 → s.modulus ≡ 2
  unfolding draw_packed_outcome refused
  packed_two e = go (eqb s.modulus 2) refl e
    where
      go : (b : Bool) → eqb s.modulus 2 ≡ b → (cond b (uncosted (draw_outcome s t levels)) (refused 3 t)).answer.refusal ≡ 0 → s.modulus ≡ 2
      go true f z = eqb-true s.modulus 2 f
      go false f z = absurd (omega arith)

  pub packed_leaves : let o = draw_packed_outcome s t levels in o.answer.refusal ≡ 0 → HoldsBasis s L t o.answer.n o.answer.r o.tables
  packed_leaves e =
      let d = packed_drawn (packed_two e) in
      subst (λ (o : Outcome). HoldsBasis s L t o.answer.n o.answer.r o.tables) (sym d) (draw_leaves (sym (ap (λ (o : Outcome). o.answer.refusal) d) ∙ e))

  pub draw_costs : let o = draw_outcome s t levels in o.answer.refusal ≡ 0 → Costs s (points_of L) o.answer.cancellations
  unfolding draw_outcome
  draw_costs e = let z = sym drawn_number ∙ e in let h = drawn_points z in rw z (costs s h.ok (points_of L) h.entries.points)

  -- each point offered has the number of its occurrences as its count
  pub draw_counts : let o = draw_outcome s t levels in o.answer.refusal ≡ 0 → (P : List ℕ) → count_of P (held_in s o.answer.n o.tables) ≡ times_in P (points_offered s levels)
  unfolding draw_outcome by_refusal holding
  draw_counts e P = let z = sym drawn_number ∙ e in let h = drawn_points z in
      rw z (ap (count_of P) (written_held s h.ok L h.entries t) ∙ count_gathered P (points_offered s levels))

-- Every operation on lent tables leaves the basis of the points after it, with their counts.
pub operation_leaves : (o : Operation) (s : Settings) (n r : ℕ) (t : Tables) → let w = outcome_of o s n r t in w.answer.refusal ≡ 0
    → HoldsBasis s (list_after o s (held_in s n t)) t w.answer.n w.answer.r w.tables
operation_leaves o s n r t e =
    let L = held_in s n t in
    let is = (lawful o).outcome s n r t in
    let zero = sym (number_of_lem (refusal_of o s n r t) t s (list_after o s L)) ∙ sym (ap (λ (w : Outcome). w.answer.refusal) is) ∙ e in
    let z = (lawful o).passed s n r t zero in
    let ok = accepted s z.fine in
    let answer : reference_answer o s L ≡ 0 = sym ((lawful o).number s z.fine n r t z.few z.large z.known) ∙ zero in
    let h = (lawful o).entries s ok L (known_entries s ok n r t z.few z.known) answer in
    rw is (written_basis s ok (list_after o s L) h (refusal_of o s n r t) t (sym (ap (λ (w : Outcome). w.answer.refusal) is) ∙ e))

-- Adding: of the points of the tables with the new one entered. Withdrawing: with the named one lowered.
pub add_leaves : (s : Settings) (n r : ℕ) (t : Tables) (levels : List ℤ) → let o = add_outcome s n r t levels in o.answer.refusal ≡ 0
    → HoldsBasis s (entered (residues s.modulus levels) (held_in s n t)) t o.answer.n o.answer.r o.tables
unfolding outcome_of list_after
add_leaves s n r t levels e = operation_leaves (adding levels) s n r t e

pub withdraw_leaves : (s : Settings) (n r : ℕ) (t : Tables) (levels : List ℤ) → let o = withdraw_outcome s n r t levels in o.answer.refusal ≡ 0
    → HoldsBasis s (lowered (residues s.modulus levels) (held_in s n t)) t o.answer.n o.answer.r o.tables
unfolding outcome_of list_after
withdraw_leaves s n r t levels e = operation_leaves (withdrawing levels) s n r t e

-- Tables that are checked are the basis of their points.
pub check_passes : (s : Settings) (n r : ℕ) (t : Tables) → check_refusal s n r t ≡ 0 → HoldsBasis s (held_in s n t) t n r t
unfolding check_refusal
check_passes s n r t e = let z = none_of s _ tt e in
    known_basis s (accepted s z.0) n r t (ltb-false 64 n z.1.1.0) (not-false (recognised s n r t) z.1.1.1.0)

-- a buffer that a call without a refusal has filled
filled : (k : ℕ) (l buffer : List ℕ) → k ≡ 0 → (filling k l buffer).buffer ≡ over l buffer
unfolding filling
filled k l buffer e = rw e

-- The interpolant call leaves the interpolant of the values at the points of the tables.
pub interpolate_leaves : (s : Settings) (n r : ℕ) (t : Tables) (values : List ℤ) (buffer : List ℕ) → (interpolate_outcome s n r t values buffer).refusal ≡ 0
    → HoldsBasis s (held_in s n t) t n r t × Interpolates s (points_in s n t.states) values buffer (interpolate_outcome s n r t values buffer).buffer
unfolding interpolate_outcome interpolant_in values_cases filling
interpolate_leaves s n r t values buffer e =
    let S = points_in s n t.states in
    let z = none_of s _ tt e in
    let ok = accepted s z.0 in
    let few = ltb-false 64 n z.1.1.1.0 in
    let known = not-false (recognised s n r t) z.1.1.1.1.1.0 in
    let d = distinct_points s ok S (known_points s ok n r t few known) in
    let long : length values ≡ n = eqb-true (length values) n (not-false _ z.1.1.0) in
    let as_many : length (points_under s S) ≡ length S = length-map S _ in (
      known_basis s ok n r t few known,
      record {
        coefficients = interpolant_of (space_under s) (points_under s S) (residues s.modulus values);
        held = filled (first_of 0 (values_cases 64 s n r t values buffer)) _ buffer e;
        fits = interpolant_fits (space_under s) (laws_under s ok) (points_under s S) d (value_at (space_under s) (points_under s S) (residues s.modulus values));
        values_at = λ i P h. interpolant_values (space_under s) (laws_under s ok) (points_under s S) d (residues s.modulus values) i P
            (omega (arith, as_many)) (omega (arith, length_residues s.modulus values, read_count s n t.states));
      },
    )

-- The remainder call leaves the remainder of the polynomial at the points of the tables.
pub remainder_leaves : (s : Settings) (n r : ℕ) (t : Tables) (terms : List ℤ) (exponents buffer : List ℕ) → (remainder_outcome s n r t terms exponents buffer).refusal ≡ 0
    → HoldsBasis s (held_in s n t) t n r t × Remains s (points_in s n t.states) terms exponents buffer (remainder_outcome s n r t terms exponents buffer).buffer
unfolding remainder_outcome remainder_in remainder_cases filling
remainder_leaves s n r t terms exponents buffer e =
    let S = points_in s n t.states in
    let z = none_of s _ tt e in
    let ok = accepted s z.0 in
    let few = ltb-false 64 n (neither (ltb 64 n) _ z.1.1.1.0).0 in
    let known = not-false (recognised s n r t) z.1.1.1.1.1.0 in
    let d = distinct_points s ok S (known_points s ok n r t few known) in (
      known_basis s ok n r t few known,
      record {
        coefficients = remainder_of (space_under s) (points_under s S) (polynomial_under s terms exponents);
        held = filled (first_of 0 (remainder_cases s n r t terms exponents buffer)) _ buffer e;
        fits = remainder_fits (space_under s) (laws_under s ok) (points_under s S) d (polynomial_under s terms exponents);
      },
    )
