-- Drawing up the points of a list in any order, with replicates or without, gives the same basis, the same remainders and the same wiring lists; and for
-- equal multisets it is not refused, and gives the same counts.
use mathlib.Core.Path.{◌≡◌, refl, sym, ◌∙◌, ap, subst}
use mathlib.Core.Bool.{false}
use mathlib.Core.List.{List}
use Prim.Native.Nat.{ℕ, ◌%◌, ◌≤◌}
use native.Mathlib.Omega.{arith}
use lib.IntN.{ℤ}
use lib.ListN.{length, take, length-map}
use lib.Dec.{ltb}
use borrow.Author.Tests.{eq-eqb, le-ltb}
use Rattle.residue.specs.Sizes.{standard_size, leads_size, coefficients_size}
use Rattle.residue.specs.Lists.{Among, some}
use Rattle.residue.specs.Layout.{fill}
use Rattle.residue.proofs.Tests.{true_of}
use Rattle.residue.proofs.Layouts.{over_same}
use Rattle.specification.specs.declared.settings.Settings.{Settings}
use Rattle.specification.specs.Refusal.{first_of}
use Rattle.specification.specs.Settings.{Accepted, settings_cases}
use Rattle.specification.specs.Levels.{in_range, residues}
use Rattle.specification.specs.Polynomial.{Distinct}
use Rattle.specification.specs.Counted.{Counted, points_of, counts_of, gathered, overfull, count_of}
use Rattle.specification.specs.Tables.{Tables, space_under, points_under, row_count, standard_table, leads_table, coefficients_table, tables_of, written}
use Rattle.specification.specs.Tables.{too_short}
use Rattle.specification.specs.Adding.{holding, by_refusal, points_offered, draw_cases, draw_refusal, draw_outcome, uncosted}
use Rattle.specification.specs.BasisOf.{interpolant_of}
use Rattle.specification.specs.Solving.{filling, polynomial_under, listing}
use Rattle.specification.specs.Calls.{values_left, terms_left}
use Rattle.specification.specs.Needed.{wiring_of}
use Rattle.specification.specs.Reference.{Held}
use Rattle.specification.specs.Agreement.{SameSet, Arranges, SameValues, SameAs, SameCounts}
use Rattle.specification.specs.Points.{IsPoint}
use Rattle.specification.proofs.counted.Few.{few_counts}
use Rattle.specification.proofs.counted.Gathered.{Entries, positive_of, positive_gathered, once_gathered, among_gathered, count_gathered}
use Rattle.specification.proofs.counted.Parts.{of_parts}
use Rattle.specification.proofs.counted.Gathered.{count_some, some_count, count_few}
use Rattle.specification.proofs.agreement.Refusals.{settings_pass, Large, large_of, written_held, written_points}
use Rattle.specification.proofs.agreement.Values.{same_range}
use Rattle.specification.proofs.agreement.Drawings.{distinct_under, distinct_points, same_rows, same_length, same_remainder, same_interpolant}
use Rattle.specification.proofs.agreement.Drawings.{standard_size_lem, leads_size_lem, coefficients_size_lem, same_standard, same_leads, same_coefficients}
use Rattle.specification.proofs.agreement.Handed.{interpolate_told, remainder_told, wiring_told, as_many_values, same_left, same_filling, same_listing}
use Rattle.specification.proofs.needed.Arranged.{wiring_arranged}

module _ (s : Settings) (ok : Accepted s) (fine : first_of 0 (settings_cases s) ≡ 0) (L : Counted) (hL : Entries s L) (levels : List ℤ) where
  -- the distinct points offered, with their counts
  abbrev G : Counted
  G = gathered (points_offered s levels)

  abbrev K : List (List ℕ)
  K = points_of G

  module _ (same : SameSet s L levels) where
    to : (P : List ℕ) → Among P K → Among P (points_of L)
    to P q = (same P).0 ((among_gathered (points_offered s levels) P).0 q)

    from : (P : List ℕ) → Among P (points_of L) → Among P K
    from P q = (among_gathered (points_offered s levels) P).1 ((same P).1 q)

    is_point : (P : List ℕ) → Among P K → IsPoint s P
    is_point P q = hL.points.points P (to P q)

    d_k : Distinct (space_under s) (points_under s K)
    d_k = distinct_under s ok K is_point (once_gathered (points_offered s levels))

    d_l : Distinct (space_under s) (points_under s (points_of L))
    d_l = distinct_points s ok (points_of L) hL.points

    as_many : length G ≡ length L
    as_many = sym (length-map G (λ q. q.0)) ∙ same_length s ok (points_of L) K d_l d_k to from ∙ length-map L (λ q. q.0)

    few : length G ≤ 64
    few = omega (arith, as_many, length-map L (λ q. q.0), hL.points.few)

    module _ (small : some (ltb 255) (counts_of G) ≡ false) where
      h_g : Entries s G
      h_g = record {
        points = record { points = is_point; once = once_gathered (points_offered s levels); few = omega (arith, few, length-map G (λ q. q.0)) };
        counts = of_parts (counts_of G) (positive_gathered (points_offered s levels)) small;
      }

      -- what is drawn up is what is held, with the same remainders and wiring lists
      pub drawn_same : (start : Tables) → Large start → (h : Held) → h.n ≡ length L → h.r ≡ row_count s (points_of L) → h.tables ≡ written (tables_of s L) start
          → (t : Tables) → Large t → draw_refusal s t levels ≡ 0 → SameAs s h (uncosted (draw_outcome s t levels))
      unfolding draw_outcome by_refusal holding written tables_of
      drawn_same start large h en er et t big zero = rw zero (record {
        count = as_many ∙ sym en;
        rows = same_rows s ok (points_of L) K d_l d_k to from ∙ sym er;
        standard = over_same standard_size (standard_table s K) (standard_table s (points_of L)) (same_standard s ok (points_of L) K d_l d_k to from) t.standard start.standard (standard_size_lem s K) ∙ ap (λ (u : Tables). take standard_size u.standard) (sym et);
        leads = over_same leads_size (leads_table s K) (leads_table s (points_of L)) (same_leads s ok (points_of L) K d_l d_k to from) t.leads start.leads (leads_size_lem s K) ∙ ap (λ (u : Tables). take leads_size u.leads) (sym et);
        coefficients = over_same coefficients_size (coefficients_table s K) (coefficients_table s (points_of L)) (same_coefficients s ok (points_of L) K d_l d_k to from) t.coefficients start.coefficients (coefficients_size_lem s K) ∙ ap (λ (u : Tables). take coefficients_size u.coefficients) (sym et);
        remainder = λ terms exponents buffer. remainder_told s fine G h_g t big terms exponents buffer
            ∙ ap (λ (l : List ℕ). filling (first_of 0 (terms_left s terms exponents buffer)) (fill 64 l) buffer)
            (same_remainder s ok (points_of L) K d_l d_k to from (polynomial_under s terms exponents))
            ∙ sym (rw (en, er, et) (remainder_told s fine L hL start large terms exponents buffer));
        interpolant = λ v w buffer same. let e = rw (written_points s ok G h_g t, en, et, written_points s ok L hL start) at same in
            interpolate_told s fine G h_g t big v buffer
            ∙ one_number 64 v w buffer e (λ k a. filling k (fill 64 a) buffer)
            (interpolant_of (space_under s) (points_under s K) (residues s.modulus v))
            ∙ same_filling _ _ _ buffer (λ z. ap (fill 64) (let l = as_many_values s 64 (length L) buffer w z in
            same_interpolant s ok (points_of L) K d_l d_k to from v w (here v w e l) (l ∙ sym (length-map L (λ q. q.0))) e))
            ∙ sym (rw (en, er, et) (interpolate_told s fine L hL start large w buffer));
        wiring = λ v w buffer same. let e = rw (written_points s ok G h_g t, en, et, written_points s ok L hL start) at same in
            wiring_told s fine G h_g t big v buffer
            ∙ one_number 8 v w buffer e (λ k a. listing k a buffer) (wiring_of s.variables K (residues s.modulus v))
            ∙ same_listing _ _ _ buffer (λ z. let l = as_many_values s 8 (length L) buffer w z in
            wiring_arranged s K (points_of L) v w (here v w e l) (l ∙ sym (length-map L (λ q. q.0))) to from e s.variables)
            ∙ sym (rw (en, er, et) (wiring_told s fine L hL start large w buffer));
      })
        where
          -- as many values as points, by the one basis and by the other
          here : (v w : List ℤ) → SameValues s K (points_of L) v w → length w ≡ length L → length v ≡ length K
          here v w e l = e.count ∙ l ∙ sym as_many ∙ sym (length-map G (λ q. q.0))

          -- one number for both
          one_number : {A : Type 0} (size : ℕ) (v w : List ℤ) (buffer : List ℕ) → SameValues s K (points_of L) v w → (f : ℕ → List ℕ → A) (a : List ℕ)
              → f (first_of 0 (values_left size s (length G) v buffer)) a ≡ f (first_of 0 (values_left size s (length L) w buffer)) a
          one_number size v w buffer e f a =
              ap (λ (k : ℕ). f k a) (ap (λ (n : ℕ). first_of 0 (values_left size s n v buffer)) as_many
              ∙ same_left s size (length L) buffer v w e.count
              (λ l. same_range s K (points_of L) v w (here v w e l) (l ∙ sym (length-map L (λ q. q.0))) to from e))

  -- Equal multisets.
  module _ (a : Arranges s L levels) where
    counted : (P : List ℕ) → count_of P G ≡ count_of P L
    counted P = count_gathered P (points_offered s levels) ∙ a.times P

    arranged_set : SameSet s L levels
    arranged_set P = (
      (λ q. some_count P L (subst (λ (k : ℕ). 1 ≤ k) (counted P) (count_some P G (positive_gathered (points_offered s levels)) ((among_gathered (points_offered s levels) P).1 q)))),
      λ q. (among_gathered (points_offered s levels) P).0 (some_count P G (subst (λ (k : ℕ). 1 ≤ k) (sym (counted P)) (count_some P L (positive_of (counts_of L) hL.counts) q))),
    )

    small : some (ltb 255) (counts_of G) ≡ false
    small = few_counts G (once_gathered (points_offered s levels)) (λ P. rw (counted P) (count_few P L hL.counts))

    -- nothing refuses
    draws : (t : Tables) → too_short t ≡ false → draw_refusal s t levels ≡ 0
    unfolding draw_refusal draw_cases overfull first_of
    draws t large = rw (settings_pass s fine _, large, eq-eqb (length levels % s.variables) 0 a.whole, true_of (in_range s.modulus levels) a.range, le-ltb 64 (length G) (few arranged_set), small)

    pub arranged_same : (start : Tables) → Large start → (h : Held) → h.n ≡ length L → h.r ≡ row_count s (points_of L) → h.tables ≡ written (tables_of s L) start
        → (t : Tables) → too_short t ≡ false → SameCounts s h (uncosted (draw_outcome s t levels))
    unfolding draw_outcome by_refusal holding
    arranged_same start large h en er et t short = record {
      number = rw (draws t short) refl;
      agrees = drawn_same arranged_set small start large h en er et t (large_of t short) (draws t short);
      counts = λ P. rw (draws t short) (ap (count_of P) (written_held s ok G (h_g arranged_set small) t) ∙ counted P ∙ sym (ap (count_of P) (rw (en, et) (written_held s ok L hL start))));
    }
