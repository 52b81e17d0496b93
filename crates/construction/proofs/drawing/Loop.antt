-- The loop of drawing up, over the lists that the code holds: its head, each turn, and its end.
use mathlib.Core.Path.{◌≡◌, refl, sym, ap, ap₂, subst, ◌∙◌}
use mathlib.Core.List.{List, [], ◌∷◌, ◌++◌, map}
use Prim.Native.Nat.{ℕ, suc, ◌+◌, ◌-◌, ◌*◌, ◌<◌, ◌≤◌}
use native.Mathlib.Nat.{mul-le-mul_left}
use native.Mathlib.Omega.{arith}
use lib.ListN.{length, get_or, set, take, drop, replicate, length-append}
use Rattle.residue.specs.Inverse.{inverse_of}
use Rattle.residue.specs.Vector.{Below}
use Rattle.elimination.specs.Elimination.{eliminated, cancellations, multiples_of}
use Rattle.residue.specs.Layout.{fill, with_place, length_fill}
use Rattle.elimination.specs.Rows.{first_nonzero, pivot_row}
use Rattle.elimination.proofs.reducing.Eliminated.{cancellations_most}
use Rattle.monomial.specs.Monomial.{times_variable}
use Rattle.monomial.specs.Order.{Order}
use Rattle.std.specs.Prelude.{Option, Some, None}
use Rattle.monomial.specs.declared.candidate.Candidate.{Candidate}
use Rattle.monomial.specs.Rank.{steps_of}
use Rattle.monomial.specs.Columns.{column_of}
use Rattle.monomial.specs.Candidate.{search_ends, next_of}
use Rattle.specification.specs.declared.settings.Settings.{Settings}
use Rattle.specification.specs.Instance.{Monomial, Point}
use Rattle.specification.specs.Tables.{order_under, space_under, standard_under, points_in}
use Rattle.specification.specs.Cancellations.{value_column}
use Rattle.specification.specs.Adding.{cancellations_under}
use Rattle.specification.proofs.Instance.{laws}
use Rattle.specification.proofs.ideal.Laws.{Laws}
use Rattle.specification.proofs.cancellations.Progress.{ready_start, ready_next, passed_all}
use Rattle.construction.specs.Drawing.{product_values, PointsGiven, DrawnUp, pivot_bytes, with_columns, pivot_rows_under}
use Rattle.construction.proofs.drawing.Positions.{product_at}
use Rattle.construction.proofs.drawing.Candidates.{Outcome, Found, next_candidate}
use Rattle.construction.proofs.drawing.FoundRows.{longer}
use Rattle.construction.proofs.drawing.TablesHold.{Ground, TablesHold}
use Rattle.construction.proofs.drawing.Decisions.{few_standard, few_leads, work_long, work_below, lead_room, lead_decided, lead_held, standard_more, standard_decided, standard_held}
use Rattle.construction.proofs.drawing.Hands.{start_held, start_hand, few_found, exponent_small, next_hand}
use Rattle.construction.proofs.drawing.Given.{given_count}
use Rattle.construction.proofs.drawing.Grounds.{ground, coordinate, drawn_up}
use Rattle.construction.proofs.drawing.Costs.{lead_passed, standard_passed}
use Rattle.construction.proofs.drawing.KeptRows.{standard_kept}
use Rattle.construction.proofs.drawing.LoopState.{DrawingSized, points_drawn, Head, Kept}

module _ {s : Settings} {n : ℕ} {points : List ℕ} (given : PointsGiven s n points) where
  abbrev p : ℕ
  p = s.modulus

  abbrev m : ℕ
  m = s.variables

  abbrev S : List (Point (suc (p - 1)) m)
  S = points_drawn s n points

  abbrev o : Order
  o = order_under s

  G : Ground (p - 1) m n o S p
  G = ground given

  L : Laws (space_under s)
  L = laws (p - 1) m o G.prime

  pub residues_of : (l : List ℕ) → Below (suc (p - 1)) l → Below p l
  residues_of l b = subst (λ (z : ℕ). Below z l) (sym G.modulus) b

  pub head_start : {standard leads coefficients rows pivots steps : List ℕ} → standard ≡ replicate 512 0 → leads ≡ replicate 3592 0 → coefficients ≡ replicate 28736 0
      → length rows ≡ 73728 → length pivots ≡ 64 → steps ≡ steps_of o
      → Head s n points rows pivots 0 0 0 standard leads coefficients rows pivots (replicate 4096 0) (replicate 64 0) steps (replicate 8 0) (replicate 8 0) 0 (replicate 64 1)
  unfolding with_columns
  head_start {rows = rows} {pivots = pivots} a b c d e f = record {
    std = [];
    lds = [];
    css = [];
    hand = (space_under s).one;
    found_is = refl;
    r_is = refl;
    held = rw f (start_held G a b c d e);
    in_hand = start_hand G;
    ready = ready_start (space_under s) L S G.distinct n G.count G.most rows pivots;
    few = omega arith;
    rows_kept_lem = refl;
  }

  module _ {found : ℕ} {standard leads coefficients rows pivots values ranks steps : List ℕ} where
    -- the tables' sizes, from what they hold
    sized : {std lds : List (Monomial m)} {css : List (List ℕ)} → found ≡ length std → TablesHold (p - 1) m n o S std lds css standard leads coefficients rows pivots values ranks steps
        → DrawingSized p n found standard leads coefficients rows pivots values ranks
    sized e H = record {
      found_room = omega (arith, H.pivot_rows.room);
      standard_long = ap length H.standard_table_lem ∙ length_fill 512 _;
      leads_long = ap length H.leads_table_lem ∙ length_fill 3592 _;
      coefficients_long = ap length H.coefficients_table_lem ∙ length_fill 28736 _;
      rows_long = H.pivot_rows.long_rows;
      pivots_long = H.pivot_rows.long_pivots;
      values_long = H.values_long;
      ranks_long = H.ranks_long;
      rows_multiplied = λ t h. subst (λ (z : ℕ). take 1152 (drop (1152 * t) rows) ≡ multiples_of z (take 128 (drop (1152 * t) rows))) (sym G.modulus) (H.pivot_rows.multiples t (omega arith));
      values_below = residues_of values H.values_below;
      ranks_below = H.ranks_below;
      pivots_inside = λ t h. H.pivot_rows.pivot t (omega arith);
      rows_zero = λ t j h. H.pivot_rows.beyond t j (omega arith);
    }

    module _ {rows₀ pivots₀ : List ℕ} {r total : ℕ} {at exponents : List ℕ} {rank : ℕ} {own : List ℕ} (h : Head s n points rows₀ pivots₀ found r total standard leads coefficients rows pivots values ranks steps at exponents rank own) where
      pub head_sized : DrawingSized p n found standard leads coefficients rows pivots values ranks
      head_sized = sized h.found_is h.held

      pub own_below : Below p own
      own_below = residues_of own h.in_hand.own_below

      module _ {work : List ℕ} (left : work ≡ eliminated p rows pivots found (fill 128 (take n own))) where
        left' : work ≡ eliminated p rows pivots (length h.std) (fill 128 (take n own))
        left' = left ∙ ap (λ (z : ℕ). eliminated p rows pivots z (fill 128 (take n own))) h.found_is

        pub worked_long : length work ≡ 128
        worked_long = work_long G h.held h.in_hand left'

        pub worked_below : Below p work
        worked_below = work_below G h.held h.in_hand left'

        pub room_lead : first_nonzero n work ≡ n → r < 449
        room_lead z =
            rw h.r_is (lead_room G h.held h.in_hand left' z)

        pub room_standard : first_nonzero n work < n → found < n
        room_standard z =
            rw h.found_is (standard_more G h.held h.in_hand left' z)

        -- the cancellations that it took
        module _ {k : ℕ} (cost : k ≡ cancellations p rows pivots found (fill 128 (take n own))) where
          cost' : k ≡ cancellations p rows pivots (length h.std) (fill 128 (take n own))
          cost' = cost ∙ ap (λ (z : ℕ). cancellations p rows pivots z (fill 128 (take n own))) h.found_is

          pub cost_fits : total + k ≤ 32896
          cost_fits =
              omega (
                arith,
                h.ready.few_made,
                most n (length h.std + length h.lds) given.most (omega (arith, h.few, h.found_is, h.r_is)),
                cancellations_most p rows pivots (fill 128 (take n own)) found,
                cost,
                head_sized.found_room,
                given.most,
              )
            where
              most : (a b : ℕ) → a ≤ 64 → b ≤ 513 → a * b ≤ 32832
              most a b x y = omega (arith, mul-le-mul_left a y)

          pub keeps_lead : {leads' coefficients' : List ℕ} → first_nonzero n work ≡ n → leads' ≡ with_place 8 r exponents leads
              → coefficients' ≡ with_place 64 r (take found (drop n work)) coefficients → Kept s n points rows₀ pivots₀ found (r + 1) (total + k) standard leads' coefficients' rows pivots values ranks steps at
          keeps_lead {leads'} {coefficients'} z e f = record {
            std = h.std;
            lds = h.lds ++ (h.hand ∷ []);
            css = h.css ++ (take (length h.std) (drop n work) ∷ []);
            found_is = h.found_is;
            r_is = omega (arith, h.r_is, length-append h.lds (h.hand ∷ []));
            held =
                rw (e ∙ ap (λ (k : ℕ). with_place 8 k exponents leads) h.r_is, f ∙ ap₂ (λ (k j : ℕ). with_place 64 k (take j (drop n work)) coefficients) h.r_is h.found_is)
                (lead_held G h.held h.in_hand left' z);
            decided =
                lead_decided G h.held h.in_hand left' z;
            last = h.hand;
            passed = lead_passed G h.held h.in_hand h.ready left' cost' z;
            rows_kept_lem = h.rows_kept_lem;
          }

          pub keeps_standard : {q : ℕ} {standard' ranks' values' rows' pivots' : List ℕ} → q ≡ first_nonzero n work → q < n → standard' ≡ with_place 8 found exponents standard
              → ranks' ≡ set ranks found rank → values' ≡ with_place 64 found own values
              → rows' ≡ with_place 1152 found (multiples_of p (pivot_row p (n + found) (inverse_of p (get_or work q 0)) work)) rows → pivots' ≡ set pivots found q
              → Kept s n points rows₀ pivots₀ (found + 1) r (total + k) standard' leads coefficients rows' pivots' values' ranks' steps at
          keeps_standard {q} {standard'} {ranks'} {values'} {rows'} {pivots'} e z a b c d f =
              let rows_are = d ∙ ap₂ (λ (k j : ℕ). with_place 1152 k (multiples_of p (pivot_row p (n + k) (inverse_of p (get_or work j 0)) work)) rows) h.found_is e in
              let pivots_are = f ∙ ap₂ (λ (k j : ℕ). set pivots k j) h.found_is e in record {
                std = h.std ++ (h.hand ∷ []);
                lds = h.lds;
                css = longer h.css;
                found_is = omega (arith, h.found_is, length-append h.std (h.hand ∷ []));
                r_is = h.r_is;
                held =
                    rw (
                      a ∙ ap (λ (k : ℕ). with_place 8 k exponents standard) h.found_is,
                      b ∙ ap (λ (k : ℕ). set ranks k rank) h.found_is,
                      c ∙ ap (λ (k : ℕ). with_place 64 k own values) h.found_is,
                      rows_are,
                      pivots_are,
                    )
                    (standard_held G h.held h.in_hand left' (rw e at z));
                decided = standard_decided G h.held h.in_hand left' (rw e at z);
                last = h.hand;
                passed = rw (rows_are, pivots_are) (standard_passed G h.held h.in_hand h.ready left' cost' (rw e at z));
                rows_kept_lem = ap₂ pivot_bytes rows_are pivots_are ∙ standard_kept G h.in_hand left' (pivot_bytes rows₀ pivots₀) h.rows_kept_lem;
              }

    module _ {rows₀ pivots₀ : List ℕ} {r total : ℕ} {at : List ℕ} (h : Kept s n points rows₀ pivots₀ found r total standard leads coefficients rows pivots values ranks steps at) where
      pub kept_sized : DrawingSized p n found standard leads coefficients rows pivots values ranks
      kept_sized = sized h.found_is h.held

      pub kept_few : found + r ≤ 513
      kept_few =
          omega (
            arith,
            few_standard G h.decided.drawn,
            few_leads G h.decided.drawn,
            h.found_is,
            h.r_is,
            G.most,
          )

      outcome : (a : Option Candidate) (at' : List ℕ) → search_ends a at' ≡ next_of m found standard ranks steps at → Outcome (p - 1) m o S h.std h.lds a at'
      outcome a at' e =
          next_candidate (p - 1) m o G.prime G.few G.light S G.distinct (omega (arith, G.count, G.most)) h.std h.lds h.decided.last h.decided.drawn ranks steps h.held.ranked at
          h.decided.long h.decided.positions a at' (e ∙ ap₂ (λ (k : ℕ) (t : List ℕ). next_of m k t ranks steps at) h.found_is h.held.standard_table_lem)

      -- nothing is left
      module _ {a : Option Candidate} {at' : List ℕ} (z : a ≡ None) (e : search_ends a at' ≡ next_of m found standard ranks steps at) where
        all_found : Outcome (p - 1) m o S h.std h.lds None at'
        all_found = subst (λ (c : Option Candidate). Outcome (p - 1) m o S h.std h.lds c at') z (outcome a at' e)

        pub ends : DrawnUp s (points_in s n points) r standard leads coefficients rows pivots
        ends =
            drawn_up given
            (subst (λ (l : List (Monomial m)). TablesHold (p - 1) m n o S (standard_under s (points_in s n points)) l h.css standard leads coefficients rows pivots values ranks steps) all_found.1
            (subst (λ (l : List (Monomial m)). TablesHold (p - 1) m n o S l h.lds h.css standard leads coefficients rows pivots values ranks steps) all_found.0 h.held))
            (h.r_is ∙ ap length all_found.1)

        pub ends_rows : pivot_bytes rows pivots ≡ pivot_rows_under s (points_in s n points) rows₀ pivots₀
        unfolding pivot_rows_under
        ends_rows =
            h.rows_kept_lem
            ∙ ap₂ (λ (k : ℕ) (l : List (Monomial m)). with_columns p k 0 (map (value_column (space_under s) S) l) (pivot_bytes rows₀ pivots₀)) (sym (given_count given)) all_found.0

        pub costs : total ≡ cancellations_under s (points_in s n points)
        unfolding cancellations_under
        costs =
            passed_all (space_under s) L S G.distinct n G.count G.most h.std h.lds total rows pivots h.last h.passed all_found.0 all_found.1

      -- the next monomial
      module _ {a : Option Candidate} {at' : List ℕ} {c : Candidate} (z : a ≡ Some c) (e : search_ends a at' ≡ next_of m found standard ranks steps at) where
        F : Found (p - 1) m o S h.std h.lds c.variable c.standard c.rank at'
        F = subst (λ (c : Option Candidate). Outcome (p - 1) m o S h.std h.lds c at') z (outcome a at' e)

        pub next_small : (c.variable < 8) × (c.standard < 64)
        next_small = few_found G h.held F

        pub next_exponent : get_or standard (8 * c.standard + c.variable) 0 < 255
        next_exponent = exponent_small G h.held F

        pub goes_on : {exponents own : List ℕ} → exponents ≡ times_variable c.variable (take 8 (drop (8 * c.standard) standard)) → own ≡ product_values p n (column_of c.variable n points) (take 64 (drop (64 * c.standard) values))
            → Head s n points rows₀ pivots₀ found r total standard leads coefficients rows pivots values ranks steps at' exponents c.rank own
        goes_on {exponents} {own} x y = record {
          std = h.std;
          lds = h.lds;
          css = h.css;
          hand = product_at (space_under s) h.std c.variable c.standard;
          found_is = h.found_is;
          r_is = h.r_is;
          held = h.held;
          in_hand =
              next_hand G h.held F points (coordinate given c.variable F.variable) x y;
          ready =
              ready_next (space_under s) L S G.distinct n G.count G.most h.std h.lds total rows pivots h.last h.passed F.last (product_at (space_under s) h.std c.variable c.standard)
              F.drawn F.next F.bordered;
          few = kept_few;
          rows_kept_lem = h.rows_kept_lem;
        }
